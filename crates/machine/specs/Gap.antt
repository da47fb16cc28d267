-- Document 02, wish 6: the query of the count, and what it counts. Assumes nothing.
use Rattle.std.specs.Prelude.{ℕ, ◌+◌, ◌≤◌, ◌≡◌, List, [], ◌∷◌, ltb, eqb, Result, Ok, Err}
use Rattle.isa.specs.Choice.{pick}
use Rattle.rom.specs.Fetching.{Bytes}
use Rattle.cpu.specs.Gap.{strays_in}
use Rattle.cpu.specs.Range.{valid}
use Rattle.cpu.specs.declared.Options.{Options}
use Rattle.machine.specs.Machine.{state_of, machine_of}
use Rattle.machine.specs.Power.{powered, power_on}
use Rattle.machine.specs.Events.{Input, power, named, answer_to, Call, steps_of, after, Every, Session}
use Rattle.machine.specs.Report.{report}
use Rattle.machine.specs.declared.Machine.{Machine}
use Rattle.machine.specs.declared.Trace.{Trace}
use Rattle.machine.specs.declared.Answer.{Answer}
use Rattle.refusals.specs.declared.Refusal.{Refusal}
use Rattle.refusals.specs.declared.Refusal.TheVariants.{Range}

-- "the count has its own query": the count, or the refusal of a machine out of range
abbrev pub gap_count : Machine → Result ℕ Refusal
gap_count m = pick (valid (state_of m)) (Ok m.trace.gap) (Err Range)

-- ---- "the number of gap accesses since the last power-on", by counting steps, with no limit
-- what is left of n accesses where an accepted input comes: a power-on starts anew
abbrev pub since : Input → ℕ → ℕ
since (power options image) n = 0
since (named e) n = n

-- n accesses, and then a list of inputs, each on the machine that the one before answered; a refused one takes no steps and starts nothing anew
unfoldable pub gap_accesses_after : ℕ → List Call → Machine → ℕ
gap_accesses_after n [] m = n
gap_accesses_after n (k ∷ ks) m =
    let answer = answer_to k.mask k.input m in
    let more = strays_in k.mask (steps_of k.input) (state_of m) in
    gap_accesses_after (pick (eqb answer.refusal 0) (since k.input n + more) n) ks answer.machine

-- a list from the machine that a power-on made
abbrev pub gap_accesses : List Call → Machine → ℕ
gap_accesses calls m = gap_accesses_after 0 calls m

abbrev pub lesser : ℕ → ℕ → ℕ
lesser a b = pick (ltb a b) a b

-- ---- "After any list of events from power-on it equals the lesser of 65,535 and the number of gap accesses since the last power-on"
-- the field, and the query's answer, which is then not refused
pub record Strayed (calls : List Call) (first last : Machine) : Type 0 where
  pub counts : last.trace.gap ≡ lesser 65535 (gap_accesses calls first)
  pub answers : gap_count last ≡ Ok (lesser 65535 (gap_accesses calls first))

-- each Run may have a mask of its own, which is bytes, as every lent slice is
abbrev pub GapCounted : Type 0
GapCounted =
    (options : Options) (image : List ℕ) (before : Machine) (start : Answer) → start ≡ power_on options image before → start.refusal ≡ 0
    → (calls : List Call) (last : Machine) → Every (λ (k : Call). Bytes k.mask) calls → Session start.machine calls last
    → Strayed calls (powered options image) last

-- the same from any machine, as a host may lend one: its count goes on from what it is
abbrev pub CountGoesOn : Type 0
CountGoesOn = (calls : List Call) (m : Machine) → m.trace.gap ≤ 65535 → (after calls m).trace.gap ≡ lesser 65535 (gap_accesses_after m.trace.gap calls m)

-- ---- "Reports are unaffected": a machine with another trace gives the same reports, and every input finds the same refusal and leaves the same in
-- every other field
abbrev pub with_trace : Trace → Machine → Machine
with_trace t m = machine_of (state_of m) t

pub record TraceAside : Type 0 where
  pub reports : (t : Trace) (m : Machine) (out : List ℕ) → report (with_trace t m) out ≡ report m out
  pub refusals : (t : Trace) (mask : List ℕ) (i : Input) (m : Machine) → (answer_to mask i (with_trace t m)).refusal ≡ (answer_to mask i m).refusal
  pub states : (t : Trace) (mask : List ℕ) (i : Input) (m : Machine)
      → state_of (answer_to mask i (with_trace t m)).machine ≡ state_of (answer_to mask i m).machine

-- Demand 2 over a whole list, from an accepted power-on: after any list of inputs every field and the display are those of document 01's rules, as
-- document 02 changes them. Each Run may have a mask of its own, and a refused input is one of the list. Assumes nothing.
use Rattle.std.specs.Prelude.{ℕ, ◌≡◌, true, List, length}
use Rattle.rom.specs.Fetching.{Bytes}
use Rattle.cpu.specs.Range.{valid}
use Rattle.cpu.specs.declared.Options.{Options}
use Rattle.machine.specs.Machine.{state_of}
use Rattle.machine.specs.Power.{powered, power_on}
use Rattle.machine.specs.Events.{Call, Every, Session, after}
use Rattle.machine.specs.Report.{reporting, report, reported}
use Rattle.machine.specs.declared.Machine.{Machine}
use Rattle.machine.specs.declared.Answer.{Answer}

-- what holds of the machine after the list: it is in every field the one that the rules give, it is in range, and a report of it is not refused and
-- is the definition's, the display with it
pub record Ruled (options : Options) (image : List ℕ) (calls : List Call) (last : Machine) : Type 0 where
  pub state : last ≡ after calls (powered options image)
  pub in-range : valid (state_of last) ≡ true
  pub shows : (out : List ℕ) → length out ≡ 48 → report last out ≡ reporting 0 (reported (after calls (powered options image)))

-- a mask is bytes, as every lent slice is
abbrev pub Property2 : Type 0
Property2 =
    (options : Options) (image : List ℕ) (before : Machine) (start : Answer) → start ≡ power_on options image before → start.refusal ≡ 0
    → (calls : List Call) (last : Machine) → Every (λ (k : Call). Bytes k.mask) calls → Session start.machine calls last
    → Ruled options image calls last

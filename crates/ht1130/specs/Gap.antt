-- Document 02, wish 6, for a host that lends one machine record: after any list of calls from an accepted power-on the record's count, and what
-- `ht1130_gap_count` answers, is "the lesser of 65,535 and the number of gap accesses since the last power-on". Assumes nothing.
use Rattle.std.specs.Prelude.{ℕ, ◌*◌, ◌^◌, ◌≡◌, List}
use Rattle.rom.specs.Fetching.{Bytes}
use Rattle.machine.specs.Power.{powered, power_on}
use Rattle.machine.specs.Events.{Call, Every}
use Rattle.machine.specs.Gap.{gap_count, gap_accesses, lesser, Strayed}
use Rattle.machine.specs.declared.Machine.{Machine}
use Rattle.ht1130.specs.Lent.{left, options_of, gap_number}
use Rattle.ht1130.specs.Property2.{Lending}

-- `ht1130_gap_count` promises `gap_number (gap_count ..)` of the record: no refusal, and the count in bytes 4 and 5
pub record LentStrayed (calls : List Call) (first last : Machine) : Type 0 where
  pub strayed : Strayed calls first last
  pub number : gap_number (gap_count last) ≡ lesser 65535 (gap_accesses calls first) * 2 ^ 32

abbrev pub LentGapCounted : Type 0
LentGapCounted =
    (rate commons pm ps pp : ℕ) (image : List ℕ) (before first : Machine) → left 0 first ≡ power_on (options_of rate commons pm ps pp) image before
    → (calls : List Call) (last : Machine) → Every (λ (k : Call). Bytes k.mask) calls → Lending first calls last
    → LentStrayed calls (powered (options_of rate commons pm ps pp) image) last

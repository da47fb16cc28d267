use Rattle.std.proofs.Common.{◌≡◌, ℕ}
use Rattle.records.specs.Records.{offsets_from, offsets}
use Rattle.records.specs.Places.{places, places_left}
use Rattle.script.specs.Check.{Tells, first}
use Rattle.script.proofs.check.first.Given as goal

abbrev pub invariant-loop-record : goal.invariant-loop-record
invariant-loop-record g l =
    (at : ℕ) × (places_left l.record-iterator ≡ places l.script at)
    × ((number : ℕ → ℕ) → Tells (goal.F-post g l.rule) l.script number → first number (offsets l.script) ≡ first number (offsets_from l.script at))

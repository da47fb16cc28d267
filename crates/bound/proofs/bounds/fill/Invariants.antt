use mathlib.Core.Path.{◌≡◌}
use mathlib.Core.Bool.{true}
use Rattle.rom.specs.Fetching.{Bytes, sized}
use Rattle.checker.specs.Verdicts.{Marked, Safe}
use Rattle.bound.proofs.Filling.{Filling}
use Rattle.bound.proofs.bounds.fill.Given as goal

abbrev pub invariant-loop-address : goal.invariant-loop-address
invariant-loop-address l =
    (bytes : Bytes l.mask) (size : sized l.mask ≡ true) (marked : Marked l.mask l.marks) (safe : Safe l.mask) → Filling l.mask l.marks bytes size marked safe l.list l.found l.address

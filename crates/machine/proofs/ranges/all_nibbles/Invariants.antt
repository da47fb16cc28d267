use mathlib.Core.Path.{◌≡◌}
use mathlib.Core.Bool.{◌&&◌}
use lib.Dec.{ltb}
use lib.ListN.{drop}
use Rattle.cpu.specs.Range.{nibbles}
use Rattle.machine.proofs.ranges.all_nibbles.Given as goal

abbrev pub invariant-loop-x : goal.invariant-loop-x
invariant-loop-x l = nibbles l.s ≡ ltb l.top 16 && nibbles (drop l.x-index l.s)

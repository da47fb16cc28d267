use Prim.Native.Nat.{◌-◌}
use lib.ListN.{length}
use Rattle.assembler.proofs.Lining.{Heading}
use Rattle.assembler.proofs.lines.heading.Given as goal

abbrev pub invariant-loop-number : goal.invariant-loop-number
invariant-loop-number l = Heading l.text l.at l.key l.count l.i

abbrev pub decreases-loop-number : goal.decreases-loop-number
decreases-loop-number l = length l.text - l.i

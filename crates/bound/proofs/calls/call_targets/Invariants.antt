use Rattle.bound.proofs.Filling.{Calling}
use Rattle.bound.proofs.calls.call_targets.Given as goal

abbrev pub invariant-loop-address : goal.invariant-loop-address
invariant-loop-address l = Calling l.mask l.marks l.targets l.address

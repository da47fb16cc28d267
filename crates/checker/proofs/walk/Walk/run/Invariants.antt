use Prim.Native.Nat.{◌-◌}
use Rattle.reach.specs.Walk.{work}
use Rattle.reach.proofs.Trace.{Tracing}
use Rattle.checker.specs.Walk.{pairs, next_codes, fault_at}
use Rattle.checker.proofs.Naming.{NamingOf}
use Rattle.checker.proofs.walk.Walk.run.Given as goal

abbrev pub invariant-loop-head : goal.invariant-loop-head
invariant-loop-head l =
    Tracing pairs (next_codes l.mask) (work l.self.seen l.self.queue l.tail) l.self.starts l.head × NamingOf (next_codes l.mask) (fault_at l.mask) l.self.queue l.head l.named

abbrev pub decreases-loop-head : goal.decreases-loop-head
decreases-loop-head l = pairs - l.head

-- The delay for a lent record: the number of `ht1130_bound` is read back, and calls on one record are a `Session`. Assumes nothing.
use Rattle.machine.proofs.Lists.{session-after}
use Rattle.bound_laws.proofs.Delay.{delay-bounded}
use Rattle.ht1130.proofs.Property2.{session}
use Rattle.ht1130_tools.proofs.Numbers.{bound-reads}
use Rattle.host_guarantee.specs.Delay.{LentDelay}

pub lent-delay : LentDelay
lent-delay =
    record {
      delay = λ mask bytes n m b. delay-bounded mask bytes n m (bound-reads mask _ n b);
      lent = λ m last calls l. session-after m last calls (session l);
    }

-- Property 3 for a lent record: a mask that is answered with 0 passed, and calls on one record are a `Session`, whose theorem is the
-- guarantee's. Assumes nothing.
use mathlib.Core.Path.{refl}
use Rattle.guarantee.proofs.Property3.{property3}
use Rattle.ht1130.specs.Lent.{left, options_of}
use Rattle.ht1130.proofs.Property2.{session}
use Rattle.ht1130_tools.proofs.Numbers.{passed}
use Rattle.host_guarantee.specs.Property3.{LentProperty3}

pub lent-property3 : LentProperty3
lent-property3 mask old marks bytes checks rate commons pm ps pp image before first e calls last under lending =
    property3 mask old marks (options_of rate commons pm ps pp) image before (left 0 first)
    (record { bytes = bytes; passed = passed mask old marks checks; powering = e; accepted = refl }) calls last under (session lending)

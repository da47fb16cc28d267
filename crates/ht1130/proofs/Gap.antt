-- The count of a lent record: calls on one record are a `Session`, whose theorem is the machine's. Assumes nothing.
use mathlib.Core.Path.{refl, ap}
use Rattle.machine.proofs.Counts.{gap-counted}
use Rattle.ht1130.specs.Lent.{left, options_of, gap_number}
use Rattle.ht1130.specs.Gap.{LentGapCounted}
use Rattle.ht1130.proofs.Property2.{session}

pub lent-gap-counted : LentGapCounted
lent-gap-counted rate commons pm ps pp image before first e calls last bytes lending =
    let strayed = gap-counted (options_of rate commons pm ps pp) image before (left 0 first) e refl calls last bytes (session lending) in
    record { strayed = strayed; number = ap gap_number strayed.answers }

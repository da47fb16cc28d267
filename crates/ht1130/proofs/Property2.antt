-- Property 2 for a lent record: calls on one record are a `Session`, whose theorem is the machine's. Assumes nothing.
use mathlib.Core.Path.{refl}
use mathlib.Core.List.{List}
use Rattle.machine.specs.Events as E
use Rattle.machine.specs.Events.{Call, Session}
use Rattle.machine.specs.declared.Machine.{Machine}
use Rattle.machine.proofs.Lists.{property2}
use Rattle.ht1130.specs.Lent.{left, options_of}
use Rattle.ht1130.specs.Property2.{Lending, ended, powering, applying, LentProperty2}

pub session : {m last : Machine} {ks : List Call} → Lending m ks last → Session m ks last
session ended = E.ended
session (powering {n = n} rate commons pm ps pp image r e rest) = E.calling _ (left r n) e (session rest)
session (applying {n = n} kind count a b c mask r e rest) = E.calling _ (left r n) e (session rest)

pub lent-property2 : LentProperty2
lent-property2 rate commons pm ps pp image before first e calls last bytes lending =
    property2 (options_of rate commons pm ps pp) image before (left 0 first) e refl calls last bytes (session lending)

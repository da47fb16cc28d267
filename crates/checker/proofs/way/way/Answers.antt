-- `checker::way::way` meets its contract: the mask refused before the walk, what is listed of the way to the named code, and none named.
-- Assumes nothing.
use mathlib.Core.Path.{refl}
use Rattle.checker.proofs.Answer.{safe}
use Rattle.checker.proofs.Lengths.{mask-sized}
use Rattle.checker.proofs.Ways.{standing, answered}
use Rattle.checker.proofs.way.way.Goals as goal

pub list_to-requires : goal.list_to-requires
list_to-requires c =
    let walked = c.in-Some.ensures in
    standing c.args.mask.now _ _ _ walked.found walked.traced _ walked.names

pub returns-in-Some : goal.returns-in-Some
returns-in-Some c =
    let walked = c.in-Some.ensures in
    answered c.args.mask.now _ _ _ walked.found walked.traced _ walked.names _ _ _ (mask-sized c.args.mask.now c.in_ok-check_mask.ensures) c.list_to.ensures

pub returns-in-None : goal.returns-in-None
returns-in-None c =
    let walked = c.in-None.ensures in
    ((mask-sized c.args.mask.now c.in_ok-check_mask.ensures, safe c.args.mask.now _ walked.found walked.names), refl)

-- `machine_glass::sight_of` meets its contract.
use Rattle.std.proofs.Common.{◌≡◌, sym, ap, subst, ◌∙◌, Ok, Err}
use Rattle.std.specs.Result.{IsErrAnd}
use Rattle.refusals.specs.declared.Refusal.{Refusal}
use Rattle.machine.specs.declared.Machine.{Machine}
use Rattle.machine_glass.specs.Glass.{Sight, Sees, answered}
use Rattle.machine_glass.proofs.Pictures.{refused, seen}
use Rattle.machine_glass.proofs.sight_of.Goals as goal

-- an error is passed on
passed : (m : Machine) (x : Sight) (r : Refusal) → IsErrAnd x (λ q. q ≡ r) → Sees m (Err r) → Sees m x
passed m (Ok s) r e h = absurd e
passed m (Err q) r e h = subst (λ (y : Refusal). Sees m (Err y)) (sym e) h

pub returns-in_err-picture : goal.returns-in_err-picture
returns-in_err-picture c =
    passed c.args.machine c.from_residual.result c.in_err-picture.field-0.0 c.from_residual.ensures.1
    (refused c.args.machine c.in_err-picture.field-0.0 (ap answered (sym c.in_err-picture.was) ∙ c.picture_of.ensures))

pub returns : goal.returns
returns c = seen c.args.machine c.in_ok-picture.picture c.read.result (ap answered (sym c.in_ok-picture.was) ∙ c.picture_of.ensures) c.read.ensures

-- `machine::Machine::change` meets its contract: the refusal and the processor are the definitions'. Assumes nothing.
use Prim.Native.Nat.{ℕ}
use mathlib.Core.Path.{◌≡◌, refl, ◌∙◌}
use mathlib.Core.Bool.{true}
use mathlib.Core.List.{List}
use Rattle.machine.specs.Events.{applied, happened, mask_ok, refusal_of}
use Rattle.machine.specs.declared.events.Event.{Event}
use Rattle.machine.specs.declared.events.Event.TheVariants.{Run, Pins, Int, Tmclk, Res}
use Rattle.machine.proofs.Answers.{refused, done}
use Rattle.machine.proofs.Machine.change.Goals as goal

-- an event other than Run has no mask to test
unmasked : (mask : List ℕ) (e : Event) → ((n : ℕ) → e ≡ Run n → ⊥) → mask_ok mask e ≡ true
unfolding mask_ok
unmasked mask (Run n) quiet = absurd (quiet n refl)
unmasked mask (Pins pm ps pp) quiet = refl
unmasked mask (Int level) quiet = refl
unmasked mask (Tmclk n) quiet = refl
unmasked mask Res quiet = refl

pub returns-in-Err : goal.returns-in-Err
unfolding applied
returns-in-Err c mask no_run no-res =
    c.refused.ensures ∙ refused c.in-Err.refusal {k = refusal_of mask c.args.event c.args.self} (happened mask c.args.event c.args.self) c.args.self refl (c.in-Err.ensures mask c.args.self.trace (unmasked mask c.args.event no_run))

pub returns : goal.returns
unfolding applied
returns c mask no_run no-res =
    c.done.ensures ∙ done {k = refusal_of mask c.args.event c.args.self} (happened mask c.args.event c.args.self) c.args.self (c.in_default.ensures mask c.args.self.trace (unmasked mask c.args.event no_run)) (c.changed-next.ensures mask c.args.self.memory c.args.self.trace no_run no-res)

-- `script::check::values` meets its contract: a power-on has one nibble to test, and an event's values are tested as the machine tests them.
-- Assumes nothing.
use mathlib.Core.Path.{◌≡◌, sym, ap, ◌∙◌}
use mathlib.Core.Bool.{Bool}
use borrow.Author.Rules.{rules}
use Rattle.std.specs.Prelude.{Option, Some, None}
use Rattle.isa.specs.Choice.{pick}
use Rattle.machine.specs.Events.{named}
use Rattle.machine.specs.declared.events.Event.{Event}
use Rattle.script.specs.Format.{input_of}
use Rattle.script.specs.Check.{value_of}
use Rattle.script.specs.declared.Record.{Record}
use Rattle.script.specs.declared.Record.TheVariants.{Other}
use Rattle.script.proofs.Values.{filled-good, filled-bad}
use Rattle.script.proofs.check.values.Goals as goal

other : {i : Record} {n m : Option Event} → i ≡ Other n → n ≡ m → value_of (named m) ≡ value_of (input_of i)
other p q = sym (ap (λ (r : Record). value_of (input_of r)) p ∙ ap (λ (n : Option Event). value_of (named n)) q)

pub returns-in-Power : goal.returns-in-Power
unfolding value_of
returns-in-Power c =
    ap (λ (b : Bool). pick b 0 3) (sym (filled-bad 165 _ c.if-fill-gt15.true)) ∙ sym (ap (λ (r : Record). value_of (input_of r)) c.in-Power.is)

pub returns-in_default : goal.returns-in_default
unfolding value_of
returns-in_default c =
    ap (λ (b : Bool). pick b 0 3) (sym (filled-good 166 _ c.if-fill-gt15.false)) ∙ sym (ap (λ (r : Record). value_of (input_of r)) c.in-Power.is)

pub returns-in-Other-Some : goal.returns-in-Other-Some
unfolding value_of
returns-in-Other-Some c =
    ap (λ (b : Bool). pick b 0 3) c.if-not-values_ok.ensures ∙ other {m = Some c.in-Other-Some.event} c.in-Other-Some.is (search rules)

pub returns-in_default-2 : goal.returns-in_default-2
unfolding value_of
returns-in_default-2 c =
    ap (λ (b : Bool). pick b 0 3) c.if-not-values_ok.ensures ∙ other {m = Some c.in-Other-Some.event} c.in-Other-Some.is (search rules)

pub returns-in_default-3 : goal.returns-in_default-3
unfolding value_of
returns-in_default-3 c = other {m = None} c.in_default.is (search rules)

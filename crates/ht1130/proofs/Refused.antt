-- A refused call stores nothing: where an answer refuses, its machine is the one that was handed in. So the record that was lent, which then stays
-- as it was, is what the answer has. Assumes nothing.
use mathlib.Core.Path.{◌≡◌, refl, ap, ◌∙◌}
use Prim.Native.Nat.{ℕ}
use mathlib.Core.Bool.{Bool, true, false, not}
use mathlib.Core.List.{List}
use lib.Dec.{T, eqb, eqb→eq}
use Rattle.std.specs.Prelude.{Option, Some, None}
use Rattle.isa.specs.Choice.{pick}
use Rattle.cpu.specs.declared.Options.{Options}
use Rattle.machine.specs.Power.{powered, power_refusal, answered, power_on}
use Rattle.machine.specs.Events.{happened, refusal_of, applied, named_answer}
use Rattle.machine.specs.contracts.Machine as M
use Rattle.machine.specs.contracts.Answer as A
use Rattle.machine.specs.declared.Machine.{Machine}
use Rattle.machine.specs.declared.Answer.{Answer}
use Rattle.machine.specs.declared.events.Event.{Event}
use Rattle.ht1130.specs.Lent.{left}
use Rattle.ht1130.proofs.Wrapper.{Answers, Keeps}

-- the machine's answers
abbrev pub answers : Answers M.the_type
answers = record { name = (A.the_type).name; Answer = Answer; held = λ r. r.machine; refusal = λ r. r.refusal; one = (A.the_type).to_one; left = left; left_is = λ r. refl }

answered-keeps : (n : ℕ) (new old : Machine) → Keeps answers old (answered n new old)
answered-keeps n new old = go (eqb n 0)
  where
    go : (t : Bool) → T (not t) → old ≡ pick t new old
    go true z = absurd z
    go false z = refl

pub power-keeps : (options : Options) (image : List ℕ) (m : Machine) → Keeps answers m (power_on options image m)
unfolding power_on
power-keeps options image m = answered-keeps (power_refusal options image) (powered options image) m

pub event-keeps : (mask : List ℕ) (e : Option Event) (m : Machine) → Keeps answers m (named_answer mask e m)
unfolding applied
event-keeps mask (Some e) m = answered-keeps (refusal_of mask e m) (happened mask e m) m
event-keeps mask None m = answered-keeps (named_answer mask None m).refusal m m

-- a number that is not 0, as `Keeps` tests it
not-zero : (n : ℕ) → (n ≡ 0 → ⊥) → T (not (eqb n 0))
not-zero n f = go (eqb n 0) (λ z. f (eqb→eq n 0 z))
  where
    go : (t : Bool) → (T t → ⊥) → T (not t)
    go true g = absurd (g tt)
    go false g = tt

-- an answer a, computed as r
left-as-it-was : (m : Machine) (a r : Answer) → Keeps answers m a → r ≡ a → (r.refusal ≡ 0 → ⊥) → left r.refusal m ≡ a
left-as-it-was m a r keeps e refuses =
    ap (λ (x : Answer). left x.refusal m) e ∙ ap (left a.refusal) (keeps (not-zero a.refusal (λ z. refuses (ap (λ (x : Answer). x.refusal) e ∙ z))))

pub power_refused : (options : Options) (image : List ℕ) (m : Machine) (r : Answer) → r ≡ power_on options image m → (r.refusal ≡ 0 → ⊥)
    → left r.refusal m ≡ power_on options image m
power_refused options image m r = left-as-it-was m (power_on options image m) r (power-keeps options image m)

pub event_refused : (mask : List ℕ) (e : Option Event) (m : Machine) (r : Answer) → r ≡ named_answer mask e m → (r.refusal ≡ 0 → ⊥)
    → left r.refusal m ≡ named_answer mask e m
event_refused mask e m r = left-as-it-was m (named_answer mask e m) r (event-keeps mask e m)

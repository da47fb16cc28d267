-- An answer is refused or done, as the definition says it. Assumes nothing.
use Prim.Native.Nat.{ℕ}
use mathlib.Core.Path.{◌≡◌, refl, sym, ap, ◌∙◌}
use borrow.Author.Tests.{eq-eqb, ne_eqb}
use Rattle.refusals.specs.Numbers.{number_of}
use Rattle.refusals.specs.declared.Refusal.{Refusal}
use Rattle.refusals.proofs.Numbers.{not_zero}
use Rattle.machine.specs.Power.{answered}
use Rattle.machine.specs.declared.Machine.{Machine}
use Rattle.machine.specs.declared.Answer.{Answer}

pub refused : (r : Refusal) {k n : ℕ} (new old : Machine) → n ≡ number_of r → number_of r ≡ k → ◌≡◌ {A = Answer} (record { refusal = n; machine = old }) (answered k new old)
refused r new old p e = ap (λ (n : ℕ). record { refusal = n; machine = old }) (p ∙ e) ∙ rw (ne_eqb _ 0 (λ y. not_zero r (e ∙ y))) refl

pub done : {k : ℕ} (new old : Machine) {m : Machine} → 0 ≡ k → m ≡ new → ◌≡◌ {A = Answer} (record { refusal = 0; machine = m }) (answered k new old)
done {k} new old z p =
    ap (λ (m : Machine). record { refusal = 0; machine = m }) p
    ∙ rw (eq-eqb k 0 (sym z)) (ap (λ (r : ℕ). record { refusal = r; machine = new }) z)

-- Each refusal has a number of its own, and none has 0.
use Rattle.std.proofs.Common.{ℕ, ◌≡◌, List, [], ◌∷◌, get_or, refl, sym, ap, ◌∙◌}
use Rattle.refusals.specs.Numbers.{number_of}
use Rattle.refusals.specs.declared.Refusal.{Refusal}
use Rattle.refusals.specs.declared.Refusal.TheVariants as R

abbrev refusals : List Refusal
refusals = R.Mask ∷ R.Mask ∷ R.Buffer ∷ R.Value ∷ R.Choice ∷ R.Range ∷ R.Format ∷ R.Kind ∷ R.Start ∷ R.Room ∷ R.Passes ∷ R.List ∷ R.Line ∷ R.Operand
    ∷ R.Label ∷ R.Fails ∷ R.Glass ∷ []

stands : (r : Refusal) → get_or refusals (number_of r) R.Mask ≡ r
stands R.Mask = refl
stands R.Buffer = refl
stands R.Value = refl
stands R.Choice = refl
stands R.Range = refl
stands R.Format = refl
stands R.Kind = refl
stands R.Start = refl
stands R.Room = refl
stands R.Passes = refl
stands R.List = refl
stands R.Line = refl
stands R.Operand = refl
stands R.Label = refl
stands R.Fails = refl
stands R.Glass = refl

pub same_number : (r s : Refusal) → number_of r ≡ number_of s → r ≡ s
same_number r s e = sym (stands r) ∙ ap (λ (n : ℕ). get_or refusals n R.Mask) e ∙ stands s

pub not_zero : (r : Refusal) → number_of r ≡ 0 → ⊥
not_zero R.Mask e = cc
not_zero R.Buffer e = cc
not_zero R.Value e = cc
not_zero R.Choice e = cc
not_zero R.Range e = cc
not_zero R.Format e = cc
not_zero R.Kind e = cc
not_zero R.Start e = cc
not_zero R.Room e = cc
not_zero R.Passes e = cc
not_zero R.List e = cc
not_zero R.Line e = cc
not_zero R.Operand e = cc
not_zero R.Label e = cc
not_zero R.Fails e = cc
not_zero R.Glass e = cc

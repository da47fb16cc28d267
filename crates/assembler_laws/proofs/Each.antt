-- What holds of each thing of a list. Assumes nothing.
use mathlib.Core.Path.{◌≡◌, refl, ap, ◌∙◌}
use mathlib.Core.Bool.{Bool, true, ◌&&◌}
use mathlib.Core.List.Memᴰ
use mathlib.Core.List.{List, [], ◌∷◌, ◌++◌, map, Memᴰ}
use mathlib.Core.Logic.{⊎_elim}
use Rattle.isa.proofs.Exact.{and_left, and_right, and_both}

infixr 67 ◌and◌
pub data Each {A : Type 0} (P : A → Type 0) : List A → Type 0 where
  none : Each P []
  ◌and◌ : {a : A} {l : List A} → P a → Each P l → Each P (a ∷ l)

-- of what a function gives it holds of each
pub each_map : {A B : Type 0} (P : B → Type 0) (g : A → B) → ((a : A) → P (g a)) → (l : List A) → Each P (map g l)
each_map P g h [] = none
each_map P g h (a ∷ l) = h a and each_map P g h l

-- a test that each passes
abbrev pub every : {A : Type 0} → (A → Bool) → List A → Bool
every p [] = true
every p (a ∷ l) = p a && every p l

pub each-passes : {A : Type 0} (p : A → Bool) (l : List A) → every p l ≡ true → Each (λ (a : A). p a ≡ true) l
each-passes p [] e = none
each-passes p (a ∷ l) e = and_left (p a) (every p l) e and each-passes p l (and_right (p a) (every p l) e)

pub passes : {A : Type 0} (p : A → Bool) (a : A) (l : List A) → every p l ≡ true → Memᴰ a l → p a ≡ true
passes p a [] e m = absurd (Memᴰ.not-nil m)
passes p a (b ∷ l) e m =
    ⊎_elim (λ q. ap p q ∙ and_left (p b) (every p l) e) (λ q. passes p a l (and_right (p b) (every p l) e) q) (Memᴰ.cases_cons m)

pub every_append : {A : Type 0} (p : A → Bool) (s t : List A) → every p s ≡ true → every p t ≡ true → every p (s ++ t) ≡ true
every_append p [] t e f = f
every_append p (a ∷ s) t e f =
    and_both (p a) (every p (s ++ t)) (and_left (p a) (every p s) e) (every_append p s t (and_right (p a) (every p s) e) f)

pub every_of : {A : Type 0} (p q : A → Bool) → ((a : A) → p a ≡ true → q a ≡ true) → (l : List A) → every p l ≡ true → every q l ≡ true
every_of p q f [] e = refl
every_of p q f (a ∷ l) e = and_both (q a) (every q l) (f a (and_left (p a) (every p l) e)) (every_of p q f l (and_right (p a) (every p l) e))

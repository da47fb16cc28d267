-- Past the last form there is nothing. Assumes nothing.
use Prim.Native.Nat.{ℕ, zero, suc, ◌≤◌}
use mathlib.Core.Path.{◌≡◌, sym, ap}
use mathlib.Core.List.{List, [], ◌∷◌}
use native.Mathlib.Omega.{arith}
use types.Run.{OneOf}
use lib.ListN.{get_or-eq_default}
use Rattle.std.specs.Prelude.{None}
use Rattle.abi.specs.Forms.{Form, choice, meant, forms, named}

-- what the last arm of a `match` on a number knows: the number is none of the other arms', which stand last first
abbrev pub NoneOf : List (List ℕ) → ℕ → Type 0
NoneOf [] x = Unit {0}
NoneOf (ks ∷ arms) x = NoneOf arms x × (OneOf ks x → ⊥)

-- the arms 0 to n - 1
abbrev pub counted : ℕ → List (List ℕ)
counted zero = []
counted (suc n) = (n ∷ []) ∷ counted n

-- a number that is in none of them is not below n
pub past : (n x : ℕ) → NoneOf (counted n) x → n ≤ x
past zero x h = omega arith
past (suc n) x h = more (past n x h.0) h.1
  where
    more : n ≤ x → (x ≡ n → ⊥) → suc n ≤ x
    more l f = omega arith

pub no_form : (form a b : ℕ) → 60 ≤ form → None ≡ named form a b
unfolding forms named
no_form form a b h = sym (ap (λ (f : Form). meant f a b) (get_or-eq_default forms (choice []) h))

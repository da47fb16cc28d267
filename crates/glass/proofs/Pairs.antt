-- The digits of a picture, by the places of their nibbles. Assumes nothing.
use Prim.Native.Nat.{ℕ, zero, suc, ◌*◌}
use native.Mathlib.Omega.{arith}
use mathlib.Core.Path.{◌≡◌, refl, ap}
use mathlib.Core.Bool.{Bool, true, false, ◌&&◌}
use mathlib.Core.List.{List, [], ◌∷◌}
use lib.Dec.{ltb}
use lib.ListN.{length}
use borrow.Author.Tests.{ltb-true}
use Rattle.glass.specs.Shapes.{cells}
use Rattle.glass.specs.Reading.{all_nibbles}
use Rattle.glass.proofs.Walks.{Small}

pub cells-length : (s : List ℕ) (n : ℕ) → length s ≡ n * 2 → length (cells s) ≡ n
cells-length [] n e = omega (arith, e)
cells-length (x ∷ []) n e = absurd (omega (arith, e))
cells-length (x ∷ y ∷ s) zero e = absurd (omega (arith, e))
cells-length (x ∷ y ∷ s) (suc n) e = ap suc (cells-length s n (omega (arith, e)))

and_left : (a b : Bool) → a && b ≡ true → a ≡ true
and_left true b e = refl
and_left false b e = e

and_right : (a b : Bool) → a && b ≡ true → b ≡ true
and_right true b e = e
and_right false b e = absurd cc

pub all-after : (x y : ℕ) (s : List ℕ) → all_nibbles (x ∷ y ∷ s) ≡ true → all_nibbles s ≡ true
unfolding all_nibbles
all-after x y s e = and_right (ltb y 16) (all_nibbles s) (and_right (ltb x 16) (ltb y 16 && all_nibbles s) e)

pub cells-small : (s : List ℕ) → all_nibbles s ≡ true → Small (cells s)
unfolding all_nibbles
cells-small [] e = tt
cells-small (x ∷ []) e = tt
cells-small (x ∷ y ∷ s) e =
    let r = and_right (ltb x 16) (ltb y 16 && all_nibbles s) e in
    (record { first = ltb-true x 16 (and_left (ltb x 16) (ltb y 16 && all_nibbles s) e); second = ltb-true y 16 (and_left (ltb y 16) (all_nibbles s) r) }, cells-small s (and_right (ltb y 16) (all_nibbles s) r))

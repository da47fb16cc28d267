-- Two numbers are below a power of two exactly when their bits together are. Assumes nothing.
use Prim.Native.Nat.{ℕ, ◌+◌, ◌≤◌, ◌^◌}
use native.Mathlib.Omega.{arith}
use mathlib.Core.Path.{◌≡◌, refl}
use mathlib.Core.Bool.{Bool, true, false, ◌&&◌}
use lib.Bits.{bit_and, bit_or, and_le_l, and_le_r, or_add_and, or_lt}
use lib.Dec.{ltb}
use borrow.Author.Tests.{lt-ltb, le-ltb, ltb-true, ltb-false}

left : (a b : ℕ) → a ≤ bit_or a b
left a b = go (bit_or a b) (bit_and a b) (or_add_and a b) (and_le_r a b)
  where
    go : (o n : ℕ) → o + n ≡ a + b → n ≤ b → a ≤ o
    go o n e h = omega arith

right : (a b : ℕ) → b ≤ bit_or a b
right a b = go (bit_or a b) (bit_and a b) (or_add_and a b) (and_le_l a b)
  where
    go : (o n : ℕ) → o + n ≡ a + b → n ≤ a → b ≤ o
    go o n e h = omega arith

pub or-below : (k a b : ℕ) → ltb (bit_or a b) (2 ^ k) ≡ ltb a (2 ^ k) && ltb b (2 ^ k)
or-below k a b = go (ltb a (2 ^ k)) (ltb b (2 ^ k)) refl refl
  where
    over : (x n : ℕ) → n ≤ x → x ≤ bit_or a b → ltb (bit_or a b) n ≡ false
    over x n p q = le-ltb (bit_or a b) n (omega (arith, p, q))

    go : (x y : Bool) → ltb a (2 ^ k) ≡ x → ltb b (2 ^ k) ≡ y → ltb (bit_or a b) (2 ^ k) ≡ x && y
    go true true p q = lt-ltb (bit_or a b) (2 ^ k) (or_lt k a b (ltb-true a (2 ^ k) p) (ltb-true b (2 ^ k) q))
    go true false p q = over b (2 ^ k) (ltb-false b (2 ^ k) q) (right a b)
    go false y p q = over a (2 ^ k) (ltb-false a (2 ^ k) p) (left a b)

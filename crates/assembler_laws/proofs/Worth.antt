-- What the terms of an operand add and take away is worth what its tree is: by induction on the tree, with the laws of whole numbers. Assumes
-- nothing.
use Prim.Native.Nat.{ℕ, zero, suc, ◌+◌, ◌-◌, ◌<◌, ◌≤◌}
use native.Mathlib.Omega.{arith}
use mathlib.Core.Path.{◌≡◌, refl, sym, ap, ap₂, ◌∙◌}
use mathlib.Core.Bool.{Bool, true, false, not}
use mathlib.Core.List.{List, [], ◌∷◌, ◌++◌}
use lib.Dec.{leb, ltb}
use lib.IntN.{ℤ, pos, neg_ℤ, ◌+ℤ◌, ◌-ℤ◌, +ℤ_idl, +ℤ_assoc, +ℤ_comm, neg_ℤ-neg_ℤ, neg_ℤ-+ℤ, -ℤ-+ℤ_cancel}
use borrow.Author.Tests.{ltb-true, leb-true, lt-ltb, le-ltb, le-leb}
use Rattle.isa.specs.Choice.{pick}
use Rattle.isa.proofs.Exact.{and_left, and_right, and_both}
use Rattle.operand.specs.Operand as Reading
use Rattle.operand.specs.Operand.{Term, value_of, plus, minus}
use Rattle.assembler.specs.Program.{within}
use Rattle.assembler_laws.specs.Grammar.{Tree, number, label, sum, difference, terms_of, value_in, Counts}

-- ---- whole numbers
middle : (a b c d : ℤ) → (a +ℤ b) +ℤ (c +ℤ d) ≡ (a +ℤ c) +ℤ (b +ℤ d)
middle a b c d =
    +ℤ_assoc a b (c +ℤ d)
    ∙ ap (λ (z : ℤ). a +ℤ z) (sym (+ℤ_assoc b c d) ∙ ap (λ (z : ℤ). z +ℤ d) (+ℤ_comm b c) ∙ +ℤ_assoc c b d)
    ∙ sym (+ℤ_assoc a c (b +ℤ d))

-- a difference of sums
apart : (a b c d : ℕ) → pos (a + b) -ℤ pos (c + d) ≡ (pos a -ℤ pos c) +ℤ (pos b -ℤ pos d)
apart a b c d = ap (λ (z : ℤ). pos (a + b) +ℤ z) (neg_ℤ-+ℤ (pos c) (pos d)) ∙ middle (pos a) (pos b) (neg_ℤ (pos c)) (neg_ℤ (pos d))

less_none : (a b : ℕ) → b ≤ a → pos a -ℤ pos b ≡ pos (a - b)
less_none a zero h = ap pos (omega arith)
less_none a (suc b) h = rw (le-ltb a (suc b) h) refl

abbrev turned : Bool → ℤ → ℤ
turned true z = neg_ℤ z
turned false z = z

turned-sum : (away : Bool) (m k : ℤ) → turned away m +ℤ turned away k ≡ turned away (m +ℤ k)
turned-sum true m k = sym (neg_ℤ-+ℤ m k)
turned-sum false m k = refl

turned-difference : (away : Bool) (m k : ℤ) → turned away m +ℤ turned (not away) k ≡ turned away (m -ℤ k)
turned-difference true m k = ap (λ (z : ℤ). neg_ℤ m +ℤ z) (sym (neg_ℤ-neg_ℤ k)) ∙ sym (neg_ℤ-+ℤ m (neg_ℤ k))
turned-difference false m k = refl

-- ---- terms
module _ (names : List (List ℕ)) (addresses : List ℕ) where
  abbrev counted : List Term → ℤ
  counted ts = pos (plus names addresses ts) -ℤ pos (minus names addresses ts)

  plus-append : (xs ys : List Term) → plus names addresses (xs ++ ys) ≡ plus names addresses xs + plus names addresses ys
  plus-append [] ys = omega arith
  plus-append (x ∷ xs) ys = omega (arith, plus-append xs ys)

  minus-append : (xs ys : List Term) → minus names addresses (xs ++ ys) ≡ minus names addresses xs + minus names addresses ys
  minus-append [] ys = omega arith
  minus-append (x ∷ xs) ys = omega (arith, minus-append xs ys)

  counted-append : (xs ys : List Term) → counted (xs ++ ys) ≡ counted xs +ℤ counted ys
  counted-append xs ys =
      ap₂ (λ (n m : ℕ). pos n -ℤ pos m) (plus-append xs ys) (minus-append xs ys)
      ∙ apart (plus names addresses xs) (plus names addresses ys) (minus names addresses xs) (minus names addresses ys)

  -- one term
  one : (away : Bool) (v : ℕ) → pos (pick away 0 v + 0) -ℤ pos (pick away v 0 + 0) ≡ turned away (pos v)
  one true v = let e : v + 0 ≡ v = omega arith in ap (λ (n : ℕ). pos 0 -ℤ pos n) e ∙ +ℤ_idl (neg_ℤ (pos v))
  one false v = ap pos (omega arith)

  counted-tree : (away : Bool) (t : Tree) → counted (terms_of away t) ≡ turned away (value_in names addresses t)
  counted-tree away (number n) = one away n
  counted-tree away (label w) = one away (value_of names addresses (Reading.label w))
  counted-tree away (sum t u) =
      counted-append (terms_of away t) (terms_of away u)
      ∙ ap₂ ◌+ℤ◌ (counted-tree away t) (counted-tree away u)
      ∙ turned-sum away (value_in names addresses t) (value_in names addresses u)
  counted-tree away (difference t u) =
      counted-append (terms_of away t) (terms_of (not away) u)
      ∙ ap₂ ◌+ℤ◌ (counted-tree away t) (counted-tree (not away) u)
      ∙ turned-difference away (value_in names addresses t) (value_in names addresses u)

-- ---- the test of a value
pub counts : (a b : ℕ) (z : ℤ) → pos a -ℤ pos b ≡ z → Counts a b z
counts a b z e = record { worth = e; in_field = inside; field_in = outside }
  where
    inside : (n : ℕ) → within n a b ≡ true → (a - b < n) × (z ≡ pos (a - b))
    inside n t =
        (ltb-true (a - b) n (and_right (leb b a) (ltb (a - b) n) t), sym e ∙ less_none a b (leb-true b a (and_left (leb b a) (ltb (a - b) n) t)))

    outside : (n v : ℕ) → v < n → z ≡ pos v → within n a b ≡ true
    outside n v h q =
        let p : pos a ≡ pos (v + b) = sym (-ℤ-+ℤ_cancel (pos a) (pos b)) ∙ ap (λ (y : ℤ). y +ℤ pos b) (e ∙ q) in
        let r : a ≡ v + b = cc in
        and_both (leb b a) (ltb (a - b) n) (le-leb b a (omega arith)) (lt-ltb (a - b) n (omega arith))

pub tree-counts : (names : List (List ℕ)) (addresses : List ℕ) (t : Tree)
    → Counts (plus names addresses (terms_of false t)) (minus names addresses (terms_of false t)) (value_in names addresses t)
tree-counts names addresses t =
    counts (plus names addresses (terms_of false t)) (minus names addresses (terms_of false t)) (value_in names addresses t)
    (counted-tree names addresses false t)

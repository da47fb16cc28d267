-- The format of one record, test by test; and a record that passes them all. Assumes nothing.
use Prim.Native.Nat.{ℕ, ◌+◌, ◌≤◌}
use native.Mathlib.Omega.{arith}
use mathlib.Core.Path.{◌≡◌, refl, sym, ap, subst}
use mathlib.Core.Bool.{Bool, true, false}
use mathlib.Core.List.{List}
use Rattle.std.specs.Prelude.{Option, Some, None}
use lib.Dec.{eqb}
use lib.ListN.{length}
use borrow.Author.Tests.{ltb-false, eqb-true}
use Rattle.isa.specs.Choice.{pick}
use Rattle.records.specs.Records.{size_at, cut_off, size_refusal, format_by}

module _ (size : Option ℕ) (s : List ℕ) (at : ℕ) where
  pub format-cut : cut_off s at ≡ true → 6 ≡ format_by size s at
  format-cut h = rw h refl

  pub format-whole : cut_off s at ≡ false → size_refusal size (size_at s at) ≡ format_by size s at
  format-whole h = rw h refl

-- a record that is not cut off, of a known kind and of its length
pub record Whole (size : Option ℕ) (s : List ℕ) (at : ℕ) : Type 0 where
  pub inside : at + 4 + size_at s at ≤ length s
  pub right-size : size ≡ Some (size_at s at)

-- a size is one number, or no kind's
pub same_size : {m n : ℕ} → Some m ≡ Some n → m ≡ n
same_size {m} e = ap number e
  where
    number : Option ℕ → ℕ
    number (Some k) = k
    number None = 0

pub unknown-size : {n : ℕ} → None ≡ Some n → ⊥
unknown-size e = subst known (sym e) tt
  where
    known : Option ℕ → Type 0
    known (Some k) = Unit {0}
    known None = ⊥

right : (size : Option ℕ) (n : ℕ) → size_refusal size n ≡ 0 → size ≡ Some n
right (Some m) n e = go (eqb n m) refl e
  where
    go : (t : Bool) → eqb n m ≡ t → ◌≡◌ {A = ℕ} (pick t 0 6) 0 → Some m ≡ Some n
    go true p e = ap Some (sym (eqb-true n m p))
    go false p e = absurd (omega arith)
right None n e = absurd (omega arith)

pub whole : (size : Option ℕ) (s : List ℕ) (at : ℕ) → format_by size s at ≡ 0 → Whole size s at
whole size s at e = go (cut_off s at) refl e
  where
    go : (t : Bool) → cut_off s at ≡ t → ◌≡◌ {A = ℕ} (pick t 6 (size_refusal size (size_at s at))) 0 → Whole size s at
    go true p e = absurd (omega arith)
    go false p e = record {
      inside = ltb-false (length s) (at + 4 + size_at s at) p;
      right-size = right size (size_at s at) e;
    }

-- no other numbers
pub format-numbers : (P : ℕ → Type 0) → P 0 → P 6 → P 7 → (size : Option ℕ) (s : List ℕ) (at : ℕ) → P (format_by size s at)
format-numbers P z p q size s at = go (cut_off s at) size
  where
    of : (t : Bool) → P (pick t 0 6)
    of true = z
    of false = p

    go : (t : Bool) (size : Option ℕ) → P (pick t 6 (size_refusal size (size_at s at)))
    go true size = p
    go false (Some m) = of (eqb (size_at s at) m)
    go false None = q

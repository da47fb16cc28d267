-- What terms count, one after another, and a term by itself. Assumes nothing.
use Prim.Native.Nat.{ℕ, ◌+◌, ◌<◌, ◌≤◌}
use mathlib.Core.Path.{◌≡◌, refl, sym, ap, ◌∙◌}
use mathlib.Core.Bool.{Bool, true, false, ◌||◌}
use mathlib.Core.List.{List, [], ◌∷◌, ◌++◌}
use mathlib.Core.Option.{none, some}
use mathlib.Core.Option as Math
use native.Mathlib.Nat.{add_assoc, add-zero, zero-add}
use native.Mathlib.Omega.{arith}
use lib.ListN.{get_or}
use Rattle.std.specs.Prelude.{IfSome, Some, None}
use Rattle.isa.specs.Choice.{pick}
use Rattle.operand.specs.Words.{among, number_of, place}
use Rattle.operand.specs.Operand.{Part, Term, before, is_missing, label, minus, missing, number, plus, value_of}
use Rattle.operand.specs.Read.{Counts, address_in, befores, given, single_of}
use Rattle.operand.specs.declared.operands.Value.{Value}
use Rattle.operand.proofs.Scans.{none-some, some-is}
use Rattle.operand.proofs.Texts.{case}

pub befores-append : (a b : List Term) (o : Math.Option (List Term)) → befores (a ++ b) o ≡ befores a (befores b o)
befores-append [] b o = refl
befores-append (t ∷ a) b o = ap (before t) (befores-append a b o)

pub befores-none : (a : List Term) → befores a none ≡ none
befores-none [] = refl
befores-none (t ∷ a) = rw (befores-none a) refl

module _ (names : List (List ℕ)) (addresses : List ℕ) where
  pub plus-append : (a b : List Term) → plus names addresses (a ++ b) ≡ plus names addresses a + plus names addresses b
  plus-append [] b = sym (zero-add (plus names addresses b))
  plus-append (t ∷ a) b = rw
      (plus-append a b) (sym (add_assoc (pick t.taken 0 (value_of names addresses t.part)) (plus names addresses a) (plus names addresses b)))

  pub minus-append : (a b : List Term) → minus names addresses (a ++ b) ≡ minus names addresses a + minus names addresses b
  minus-append [] b = sym (zero-add (minus names addresses b))
  minus-append (t ∷ a) b = rw
      (minus-append a b) (sym (add_assoc (pick t.taken (value_of names addresses t.part) 0) (minus names addresses a) (minus names addresses b)))

pub missing-append : (names : List (List ℕ)) (a b : List Term) → missing names (a ++ b) ≡ (missing names a || missing names b)
missing-append names [] b = refl
missing-append names (t ∷ a) b = rw (missing-append names a b) (sym (or_assoc (is_missing names t.part) (missing names a) (missing names b)))
  where
    or_assoc : (x y z : Bool) → ((x || y) || z) ≡ (x || (y || z))
    or_assoc true y z = refl
    or_assoc false y z = refl

-- a number or a label by itself
module _ (names : List (List ℕ)) (addresses : List ℕ) (at next : ℕ) (on : at < next) where
  abbrev Alone : Bool → Part → Value → Type 0
  Alone taken p v = Counts names addresses at (record { taken = taken; part = p } ∷ []) (record { value = v; next = next })

  pub number-counts : (taken : Bool) (n : ℕ) → n ≤ 65535 → Alone taken (number n) (single_of (Some n) taken)
  number-counts true n h = record { added = refl; taken = sym (add-zero n); missed = refl; low = omega arith; less = omega arith }
  number-counts false n h = record { added = sym (add-zero n); taken = refl; missed = refl; low = omega arith; less = omega arith }

  -- an address is a number of two bytes
  pub label-counts : (taken : Bool) (w : List ℕ) → IfSome (address_in names addresses w) (λ (n : ℕ). n < 65536)
      → Alone taken (label w) (single_of (address_in names addresses w) taken)
  label-counts taken w small = case (among names w) (λ e. rw e (present e (rw e at small) taken)) (λ e. rw e (lacking e taken))
    where
      present : among names w ≡ true → get_or addresses (place names w) 0 < 65536 → (taken : Bool) → Alone taken (label w) (single_of (Some (get_or addresses (place names w) 0)) taken)
      present e s true = record {
        added = refl;
        taken = rw e (sym (add-zero (get_or addresses (place names w) 0)));
        missed = rw e refl;
        low = omega arith;
        less = omega (arith, s);
      }
      present e s false = record {
        added = rw e (sym (add-zero (get_or addresses (place names w) 0)));
        taken = refl;
        missed = rw e refl;
        low = omega (arith, s);
        less = omega arith;
      }

      lacking : among names w ≡ false → (taken : Bool) → Alone taken (label w) (single_of None taken)
      lacking e true = record { added = refl; taken = rw e refl; missed = rw e refl; low = omega arith; less = omega arith }
      lacking e false = record { added = rw e refl; taken = refl; missed = rw e refl; low = omega arith; less = omega arith }

-- a number that is read is at most 65,535
pub number-read : (w : List ℕ) (n : ℕ) → Some n ≡ given (number_of w) → (number_of w ≡ some n)
number-read w n e = case_of (number_of w) refl
  where
    case_of : (o : Math.Option ℕ) → number_of w ≡ o → number_of w ≡ some n
    case_of none q = absurd (none-some (sym (e ∙ ap given q)))
    case_of (some v) q = q ∙ ap some (some-is (sym (e ∙ ap given q)))

pub no_number : (w : List ℕ) → None ≡ given (number_of w) → number_of w ≡ none
no_number w e = case_of (number_of w) refl
  where
    case_of : (o : Math.Option ℕ) → number_of w ≡ o → number_of w ≡ none
    case_of none q = q
    case_of (some v) q = absurd (none-some (e ∙ ap given q))

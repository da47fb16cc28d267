-- Digits and their values. Assumes nothing.
use Prim.Native.Nat.{ℕ, zero, suc, ◌+◌, ◌*◌, ◌-◌, ◌<◌, ◌≤◌}
use mathlib.Core.Path.{◌≡◌, refl, sym, ap, ◌∙◌}
use mathlib.Core.Bool.{true, false}
use mathlib.Core.List.{List, [], ◌∷◌}
use mathlib.Core.Option.{none}
use native.Mathlib.Nat.{mul-suc}
use native.Mathlib.Omega.{arith}
use borrow.Author.Tests.{le-leb, le-ltb, lt-leb, lt-ltb, ltb-true}
use lib.Dec.{eqb, ltb}
use lib.ListN.{drop, drop_of_length-le, get_or, length, take}
use lib.Pointwise.{pointwise}
use lib.Seq.{drop-cons}
use Rattle.std.specs.Prelude.{Some, None}
use Rattle.operand.specs.Text.{in_word, is_digit, is_letter}
use Rattle.operand.specs.Words.{at_most, digit_value, first, in_base, last, number_of}
use Rattle.operand.specs.Read.{digit_in}
use Rattle.operand.proofs.Scans.{none-some, some-is}
use Rattle.operand.proofs.Texts.{case, differ}

module _ (c : ℕ) where
  pub decimal-digit : 48 ≤ c → c ≤ 57 → digit_value c ≡ c - 48
  unfolding digit_value
  decimal-digit l u = rw (le-leb 48 c l, le-leb c 57 u) refl

  pub letter-digit : 65 ≤ c → c ≤ 70 → digit_value c ≡ c - 65 + 10
  unfolding digit_value
  letter-digit l u = rw (le-leb 48 c (omega arith), lt-leb c 57 (omega arith), le-leb 65 c l, le-leb c 70 u) refl

  module _ (base : ℕ) (few : base ≤ 16) where
    no-value : digit_value c ≡ 16 → None ≡ digit_in base c
    no-value e = rw (e, le-ltb 16 base few) refl

    pub below_digits : c < 48 → None ≡ digit_in base c
    unfolding digit_value
    below_digits h = no-value (rw (lt-leb 48 c h, lt-leb 65 c (omega arith)) refl)

    pub between_digits : 57 < c → c < 65 → None ≡ digit_in base c
    unfolding digit_value
    between_digits l u = no-value (rw (le-leb 48 c (omega arith), lt-leb c 57 l, lt-leb 65 c u) refl)

    pub above_digits : 70 < c → None ≡ digit_in base c
    unfolding digit_value
    above_digits h = no-value (rw (le-leb 48 c (omega arith), lt-leb c 57 (omega arith), le-leb 65 c (omega arith), lt-leb c 70 h) refl)

  pub a_digit : (base v : ℕ) → digit_value c ≡ v → v < base → Some v ≡ digit_in base c
  a_digit base v e h = rw (e, lt-ltb v base h) refl

  pub no-digit : (base v : ℕ) → digit_value c ≡ v → base ≤ v → None ≡ digit_in base c
  no-digit base v e h = rw (e, le-ltb v base h) refl

-- a value that is too large stays so
pub over : (base v : ℕ) (s : List ℕ) → 65535 < v → at_most 65535 (in_base base v s) ≡ none
over base v [] h = rw (lt-leb v 65535 h) refl
over base v (c ∷ s) h = case (ltb (digit_value c) base)
    (λ e. rw e (over base (v * base + digit_value c) s (grows v base (digit_value c) (ltb-true (digit_value c) base e) h)))
    (λ e. rw e refl)
  where
    grows : (v base d : ℕ) → d < base → 65535 < v → 65535 < v * base + d
    grows v zero d b h = absurd (omega arith)
    grows v (suc n) d b h = rw mul-suc (omega arith)

module _ (base v c : ℕ) (s : List ℕ) where
  pub over-next : 65535 < v * base → at_most 65535 (in_base base v (c ∷ s)) ≡ none
  over-next h = case (ltb (digit_value c) base) (λ e. rw e (over base (v * base + digit_value c) s (omega arith))) (λ e. rw e refl)

  pub digit-ends : digit_in base c ≡ None → in_base base v (c ∷ s) ≡ none
  digit-ends h = case (ltb (digit_value c) base) (λ e. absurd (none-some (sym (rw e at h)))) (λ e. rw e refl)

  pub digit-on : {d : ℕ} → digit_in base c ≡ Some d → in_base base v (c ∷ s) ≡ in_base base (v * base + d) s
  digit-on {d} h = case (ltb (digit_value c) base)
      (λ e. rw e (ap (λ (k : ℕ). in_base base (v * base + k) s) (some-is (rw e at h)))) (λ e. absurd (none-some (rw e at h)))

-- the same of the digits of a word from a place on
module _ (w : List ℕ) (i base v : ℕ) (inside : i < length w) where
  here : drop i w ≡ get_or w i 0 ∷ drop (suc i) w
  here = drop-cons w i 0 inside

  pub over-there : 65535 < v * base → at_most 65535 (in_base base v (drop i w)) ≡ none
  over-there h = rw here (over-next base v (get_or w i 0) (drop (suc i) w) h)

  pub digit-ends-there : digit_in base (get_or w i 0) ≡ None → at_most 65535 (in_base base v (drop i w)) ≡ none
  digit-ends-there h = ap (λ (s : List ℕ). at_most 65535 (in_base base v s)) here
      ∙ ap (at_most 65535) (digit-ends base v (get_or w i 0) (drop (suc i) w) h)

  module _ (d : ℕ) (is : digit_in base (get_or w i 0) ≡ Some d) where
    pub digit-on-there : at_most 65535 (in_base base v (drop i w)) ≡ at_most 65535 (in_base base (v * base + d) (drop (suc i) w))
    digit-on-there = ap (λ (s : List ℕ). at_most 65535 (in_base base v s)) here
        ∙ ap (at_most 65535) (digit-on base v (get_or w i 0) (drop (suc i) w) is)

    pub over-with : 65535 < v * base + d → at_most 65535 (in_base base v (drop i w)) ≡ none
    over-with h = digit-on-there ∙ over base (v * base + d) (drop (suc i) w) h

-- a number's value is that of its digits, by its last character
module _ (w : List ℕ) (digit : is_digit (first w) ≡ true) where
  pub some_first : 0 < length w
  some_first = not-empty w digit
    where
      not-empty : (w : List ℕ) → is_digit (first w) ≡ true → 0 < length w
      not-empty [] e = absurd (differ e)
      not-empty (c ∷ s) e = omega arith

  last-only : drop (length w - 1) w ≡ last w ∷ []
  last-only = drop-cons w (length w - 1) 0 (omega (arith, some_first))
      ∙ ap (λ (s : List ℕ). last w ∷ s) (drop_of_length-le w {i = suc (length w - 1)} (omega (arith, some_first)))

  pub ends_in : pointwise eqb (drop (length w - 1) w) (72 ∷ []) ≡ eqb (last w) 72
  ends_in = rw last-only (case (eqb (last w) 72) (λ e. rw e refl) (λ e. rw e refl))

  pub hexadecimal : eqb (last w) 72 ≡ true → number_of w ≡ at_most 65535 (in_base 16 0 (take (length w - 1) w))
  unfolding number_of
  hexadecimal e = rw (digit, e) refl

  pub decimal : eqb (last w) 72 ≡ false → number_of w ≡ at_most 65535 (in_base 10 0 w)
  unfolding number_of
  decimal e = rw (digit, e) refl

pub digit-word : (c : ℕ) → is_digit c ≡ true → in_word c ≡ true
unfolding in_word
digit-word c e = case (is_letter c) (λ h. rw (h) refl) (λ h. rw (h) e)

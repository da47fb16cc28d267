-- A token by its kind: which token stands where a reader answers one, and what an operand makes of it. Assumes nothing.
use Prim.Native.Nat.{ℕ}
use mathlib.Core.Path.{◌≡◌, refl, sym, ap, ◌∙◌}
use mathlib.Core.Bool.{Bool, true, false, not}
use mathlib.Core.List.{List, [], ◌∷◌}
use mathlib.Core.Option.{none}
use native.Mathlib.Omega.{arith}
use borrow.Author.Tests.{eqb-true, ne_eqb}
use lib.Dec.{eqb}
use lib.ListN.{get_or}
use Rattle.std.specs.Prelude.{Some, None}
use Rattle.mnemonic.specs.Spelling.{Token, letters, mark}
use Rattle.operand.specs.Text.{LF, in_word, is_digit, is_letter}
use Rattle.operand.specs.Words.{first, fixed_words, is_fixed, is_label, number_of, place}
use Rattle.operand.specs.Operand.{as_number, followed, part_of, wanted}
use Rattle.operand.specs.Read.{Next, Stops, ended, going_on, sign, tokens_at, word, word_at, word_kind}
use Rattle.operand.specs.declared.tokens.Kind.{Kind}
use Rattle.operand.specs.declared.tokens.Kind.TheVariants.{End, Fixed, Label, Number, Sign}
use Rattle.operand.specs.declared.tokens.Lexeme.{Lexeme}
use Rattle.operand.proofs.Scans.{none-some, some-of}
use Rattle.operand.proofs.Texts.{case, differ, not-letter, word_on}

-- kinds that differ in this are apart
abbrev tag : Kind → ℕ
tag End = 0
tag Label = 1
tag Number = 2
tag (Fixed k) = 3
tag (Sign c) = 4

pub apart : {a b : Kind} → (tag a ≡ tag b → ⊥) → a ≡ b → ⊥
apart f e = f (ap tag e)

abbrev character : Kind → ℕ
character End = 0
character Label = 0
character Number = 0
character (Fixed k) = 0
character (Sign c) = c

-- the kinds of words
module _ (w : List ℕ) where
  word-case : {A : Type 0} → (is_digit (first w) ≡ true → word_kind w ≡ Number → A)
      → (is_digit (first w) ≡ false → is_fixed w ≡ true → word_kind w ≡ Fixed (place fixed_words w) → A)
      → (is_digit (first w) ≡ false → is_fixed w ≡ false → word_kind w ≡ Label → A) → A
  unfolding word_kind
  word-case f g h = case (is_digit (first w)) (λ e. f e (rw e refl))
      (λ e. case (is_fixed w) (λ q. g e q (rw (e, q) refl)) (λ q. h e q (rw (e, q) refl)))

  no-sign-kind : (c : ℕ) → word_kind w ≡ Sign c → ⊥
  no-sign-kind c q = word-case (λ e k. apart (λ z. omega arith) (sym k ∙ q)) (λ e f k. apart (λ z. omega arith) (sym k ∙ q))
      (λ e f k. apart (λ z. omega arith) (sym k ∙ q))

  no-end-kind : word_kind w ≡ End → ⊥
  no-end-kind q = word-case (λ e k. apart (λ z. omega arith) (sym k ∙ q)) (λ e f k. apart (λ z. omega arith) (sym k ∙ q))
      (λ e f k. apart (λ z. omega arith) (sym k ∙ q))

  number_is : word_kind w ≡ Number → is_digit (first w) ≡ true
  number_is q = word-case (λ e k. e) (λ e f k. absurd (apart (λ z. omega arith) (sym k ∙ q)))
      (λ e f k. absurd (apart (λ z. omega arith) (sym k ∙ q)))

  label_is : in_word (first w) ≡ true → word_kind w ≡ Label → is_label w ≡ true
  unfolding is_label in_word
  label_is i q = word-case (λ e k. absurd (apart (λ z. omega arith) (sym k ∙ q))) (λ e f k. absurd (apart (λ z. omega arith) (sym k ∙ q)))
      (λ e f k. case (is_letter (first w)) (λ l. rw (l, f) refl) (λ l. absurd (differ (sym (rw (l, e) refl) ∙ i))))

  -- a word that starts with a digit is no label
  digit-no-label : is_digit (first w) ≡ true → part_of w ≡ as_number (number_of w)
  unfolding part_of is_label
  digit-no-label e = rw (not-letter (first w) e) refl

  fixed-no-part : (word_kind w ≡ Label → ⊥) → (word_kind w ≡ Number → ⊥) → part_of w ≡ none
  unfolding part_of is_label number_of
  fixed-no-part a b = word-case (λ e k. absurd (b k))
      (λ e f k. case (is_letter (first w)) (λ l. rw (l, f, e) refl) (λ l. rw (l, e) refl)) (λ e f k. absurd (a k))

pub sign-is : {c k : ℕ} → Sign c ≡ Sign k → c ≡ k
sign-is e = ap character e

-- what goes on with a sum is one of two signs
pub going : (kind : Kind) (all taken : Bool) {A : Type 0} → going_on kind all ≡ Some taken → (kind ≡ Sign 43 → taken ≡ all → A)
    → (kind ≡ Sign 45 → taken ≡ not all → A) → A
going End all taken e f g = absurd (none-some e)
going Label all taken e f g = absurd (none-some e)
going Number all taken e f g = absurd (none-some e)
going (Fixed k) all taken e f g = absurd (none-some e)
going (Sign c) all taken e f g = case (eqb c 43)
    (λ a. f (ap Sign (eqb-true c 43 a)) (sym (some-of all (rw a at e))))
    (λ a. case (eqb c 45) (λ b. g (ap Sign (eqb-true c 45 b)) (sym (some-of all (rw (a, b) at e))))
    (λ b. absurd (none-some (rw (a, b) at e))))

module _ {text : List ℕ} {ts : List Token} {r : Lexeme} where
  pub as-sign : Next text ts r → (k : ℕ) → r.kind ≡ Sign k → ts ≡ mark k ∷ tokens_at text r.next
  as-sign (ended e q g) k h = absurd (apart (λ z. omega arith) (sym q ∙ h))
  as-sign (word e q n i w) k h = absurd (no-sign-kind (word_at text r.start) k (sym q ∙ h))
  as-sign (sign c e q) k h = e ∙ ap (λ (d : ℕ). mark d ∷ tokens_at text r.next) (sign-is (sym q ∙ h))

  pub as-end : Next text ts r → r.kind ≡ End → (ts ≡ []) × (get_or text r.next LF ≡ LF)
  as-end (ended e q g) h = (e, g)
  as-end (word e q n i w) h = absurd (no-end-kind (word_at text r.start) (sym q ∙ h))
  as-end (sign c e q) h = absurd (apart (λ z. omega arith) (sym q ∙ h))

  -- a label, a number, or nothing that an operand can have here
  pub as-label : Next text ts r → r.kind ≡ Label → (ts ≡ letters (word_at text r.start) ∷ tokens_at text r.next) ×
      (is_label (word_at text r.start) ≡ true)
  as-label (ended e q g) h = absurd (apart (λ z. omega arith) (sym q ∙ h))
  as-label (word e q n i w) h = (e, label_is (word_at text r.start) (rw (word_on text r.start w) w) (sym q ∙ h))
  as-label (sign c e q) h = absurd (apart (λ z. omega arith) (sym q ∙ h))

  pub as-number : Next text ts r → r.kind ≡ Number → (ts ≡ letters (word_at text r.start) ∷ tokens_at text r.next)
      × (part_of (word_at text r.start) ≡ as_number (number_of (word_at text r.start))) × (is_digit (first (word_at text r.start)) ≡ true)
  as-number (ended e q g) h = absurd (apart (λ z. omega arith) (sym q ∙ h))
  as-number (word e q n i w) h =
      let d = number_is (word_at text r.start) (sym q ∙ h) in (e, digit-no-label (word_at text r.start) d, d)
  as-number (sign c e q) h = absurd (apart (λ z. omega arith) (sym q ∙ h))

  pub as_none : Next text ts r → (r.kind ≡ Label → ⊥) → (r.kind ≡ Number → ⊥) → (r.kind ≡ Sign 40 → ⊥)
      → (minus here : Bool) (outer : List Bool) → wanted ts minus here outer ≡ none
  as_none (ended e q g) a b p minus here outer = rw e refl
  as_none (word e q n i w) a b p minus here outer =
      rw (e, fixed-no-part (word_at text r.start) (λ x. a (q ∙ x)) (λ x. b (q ∙ x))) refl
  as_none (sign c e q) a b p minus here outer = rw (e, ne_eqb c 40 (λ x. p (q ∙ ap Sign x))) refl

  -- no sum goes on where the kind is neither + nor -
  pub as-stop : Next text ts r → (all : Bool) → going_on r.kind all ≡ None → Stops ts
  as-stop (ended e q g) all h = rw e tt
  as-stop (word e q n i w) all h = rw e tt
  as-stop (sign c e q) all h =
      let k : going_on (Sign c) all ≡ None = ap (λ (x : Kind). going_on x all) (sym q) ∙ h in
      rw e (case (eqb c 43) (λ a. absurd (none-some (sym (rw a at k))))
      (λ a. case (eqb c 45) (λ b. absurd (none-some (sym (rw (a, b) at k)))) (λ b. (a, b))))

  -- past an operand that stops, a parenthesis is closed here or nowhere
  pub as-closing : Next text ts r → Stops ts → (r.kind ≡ Sign 41 → ⊥) → (here o : Bool) (os : List Bool) → followed ts here (o ∷ os) ≡ none
  as-closing (ended e q g) s n here o os = rw e refl
  as-closing (word e q k i w) s n here o os = rw e refl
  as-closing (sign c e q) s n here o os =
      let stop : Stops (mark c ∷ tokens_at text r.next) = rw e at s in
      rw (e, stop.0, stop.1, ne_eqb c 41 (λ x. n (q ∙ ap Sign x))) refl

  -- at the end of the line an operand has ended, and not before
  pub as-over : Next text ts r → Stops ts → (r.kind ≡ End → ⊥) → (here : Bool) → followed ts here [] ≡ none
  as-over (ended e q g) s n here = absurd (n q)
  as-over (word e q k i w) s n here = rw e refl
  as-over (sign c e q) s n here =
      let stop : Stops (mark c ∷ tokens_at text r.next) = rw e at s in rw (e, stop.0, stop.1) refl

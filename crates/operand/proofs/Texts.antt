-- Laws of the text: what a line's tokens are from a position on, by the character there. Assumes nothing.
use Prim.Native.Nat.{ℕ, zero, suc, ◌+◌, ◌<◌, ◌≤◌}
use Prim.Native.Char.{code}
use mathlib.Core.Path.{◌≡◌, refl, sym, ap, ◌∙◌}
use mathlib.Core.Bool.{Bool, true, false, ◌&&◌, ◌||◌, not}
use mathlib.Core.List.{List, [], ◌∷◌}
use native.Mathlib.Nat.{add-suc, add-zero, suc-add, zero-add}
use native.Mathlib.Omega.{arith}
use borrow.Author.Tests.{eq-eqb, eqb-true, leb-true, ltb-false, ltb-true, ne_eqb}
use lib.Dec.{eqb, leb, ltb}
use lib.ListN.{get_or, length, drop, drop_of_length-le, length-drop, get_or-eq_default, take}
use lib.Seq.{drop-cons, drop-drop, slice, take-nil, take-take}
use Rattle.isa.specs.Choice.{pick}
use Rattle.mnemonic.specs.Spelling.{letters, mark}
use Rattle.operand.specs.Text.{LF, begins, in_word, is_digit, is_letter, tokens}
use Rattle.operand.specs.Words.{same}
use Rattle.operand.specs.Read.{run, tokens_at, up_to_lf, word_at}

pub case : {A : Type 0} (b : Bool) → (b ≡ true → A) → (b ≡ false → A) → A
case true f g = f refl
case false f g = g refl

abbrev pub differ : false ≡ true → ⊥
differ z = let y : ◌≡◌ {A = ℕ} 0 1 = cc in omega arith

pub both : (a b : Bool) → (a && b) ≡ true → (a ≡ true) × (b ≡ true)
both true b e = (refl, e)
both false b e = absurd (differ e)

pub neither : (a b : Bool) → (a || b) ≡ false → (a ≡ false) × (b ≡ false)
neither true b e = absurd (differ (sym e))
neither false b e = (refl, e)

-- a character of a word is over every space and LF
pub in-word-over : (c : ℕ) → in_word c ≡ true → 47 < c
unfolding in_word
in-word-over c e = case (leb 65 c) (λ h. omega (arith, leb-true 65 c h))
    (λ h. case (leb 48 c) (λ k. omega (arith, leb-true 48 c k)) (λ k. absurd (differ (rw (h, k) at e))))

in-word-under : (c : ℕ) → in_word c ≡ true → c < 256
unfolding in_word
in-word-under c e = case (leb c 90) (λ h. omega (arith, leb-true c 90 h))
    (λ h. case (leb c 57) (λ k. omega (arith, leb-true c 57 k)) (λ k. absurd (differ (sym (none h k) ∙ e))))
  where
    none : leb c 90 ≡ false → leb c 57 ≡ false → (is_letter c || is_digit c) ≡ false
    none h k = rw (h, k) (case (leb 65 c) (λ a. rw a (case (leb 48 c) (λ b. rw b refl) (λ b. rw b refl)))
        (λ a. rw a (case (leb 48 c) (λ b. rw b refl) (λ b. rw b refl))))

pub below_word : (c : ℕ) → c < 48 → in_word c ≡ false
below_word c h = case (in_word c) (λ e. absurd (omega (arith, in-word-over c e))) (λ e. e)

pub word-here : (text : List ℕ) (at : ℕ) → word_at text at ≡ pick (in_word (get_or text at 0)) (get_or text at 0 ∷ word_at text (suc at)) []
word-here [] zero = rw (below_word 0 (omega arith)) refl
word-here [] (suc n) = rw (below_word 0 (omega arith)) refl
word-here (c ∷ s) zero = refl
word-here (c ∷ s) (suc n) = word-here s n

-- the word that starts here goes on with the next character
pub word_on : (text : List ℕ) (at : ℕ) → in_word (get_or text at 0) ≡ true → word_at text at ≡ get_or text at 0 ∷ word_at text (suc at)
word_on text at e = word-here text at ∙ rw e refl

pub no_word : (text : List ℕ) (at : ℕ) → in_word (get_or text at 0) ≡ false → word_at text at ≡ []
no_word text at e = word-here text at ∙ rw e refl

up-to-word : (s : List ℕ) → begins (up_to_lf s) ≡ begins s
up-to-word [] = refl
up-to-word (c ∷ s) = case (eqb c LF) (λ e. rw (e, eqb-true c LF e, below_word 10 (omega arith)) refl) (λ e. rw e refl)

run_none : (s : List ℕ) → begins s ≡ false → run s ≡ []
run_none [] e = refl
run_none (c ∷ s) e = rw e refl

-- a word, and what follows it
tokens-word : (s : List ℕ) → begins s ≡ true → tokens (up_to_lf s) ≡ letters (run s) ∷ tokens (up_to_lf (drop (length (run s)) s))
tokens-word [] e = absurd (differ e)
tokens-word (c ∷ s) e =
    let over = in-word-over c e in
    rw (ne_eqb c 10 (λ q. omega arith), ne_eqb c 32 (λ q. omega arith), e, up-to-word s)
    (case (begins s)
    (λ b. rw (b, tokens-word s b) refl)
    (λ b. rw (b, run_none s b) refl))

module _ (text : List ℕ) (at : ℕ) where
  pub at-end : length text ≤ at → tokens_at text at ≡ []
  at-end h = rw (drop_of_length-le text h) refl

  module _ (within : at < length text) where
    pub at-lf : get_or text at 0 ≡ LF → tokens_at text at ≡ []
    at-lf e = rw (drop-cons text at 0 within, e) refl

    pub at_sign : (get_or text at 0 ≡ LF → ⊥) → eqb (get_or text at 0) (code " ") ≡ false → in_word (get_or text at 0) ≡ false
        → tokens_at text at ≡ mark (get_or text at 0) ∷ tokens_at text (suc at)
    at_sign l s w = rw (drop-cons text at 0 within, ne_eqb (get_or text at 0) LF l, s, w) refl

    pub at-word : in_word (get_or text at 0) ≡ true
        → tokens_at text at ≡ letters (word_at text at) ∷ tokens_at text (at + length (word_at text at))
    at-word w =
        let b : begins (drop at text) ≡ true = rw (drop-cons text at 0 within) w in
        tokens-word (drop at text) b ∙ rw drop-drop refl

-- no word past the end
pub word-past : (text : List ℕ) (at : ℕ) → length text ≤ at → word_at text at ≡ []
word-past text at h = rw (drop_of_length-le text h) refl

pub in-text : (text : List ℕ) (at : ℕ) → in_word (get_or text at 0) ≡ true → at < length text
in-text text at e = case (ltb at (length text)) (λ h. ltb-true at (length text) h)
    (λ h. absurd (differ (sym (rw (get_or-eq_default text 0 (ltb-false at (length text) h)) (below_word 0 (omega arith))) ∙ e)))

-- the characters of a word are the text's
pub get_d-word : (text : List ℕ) (at k : ℕ) → k < length (word_at text at) → get_or (word_at text at) k 0 ≡ get_or text (at + k) 0
get_d-word text at zero h = case (in_word (get_or text at 0)) (λ e. rw (word_on text at e, add-zero) refl)
    (λ e. absurd (omega (arith, ap length (no_word text at e))))
get_d-word text at (suc k) h = case (in_word (get_or text at 0))
    (λ e. rw (word_on text at e) (get_d-word text (suc at) k (omega (arith, ap length (word_on text at e))) ∙ rw (suc-add, add-suc) refl))
    (λ e. absurd (omega (arith, ap length (no_word text at e))))

pub word-within : (text : List ℕ) (at : ℕ) → at ≤ length text → at + length (word_at text at) ≤ length text
word-within text at h = omega (arith, length-drop at text, run_short (drop at text))
  where
    run_short : (s : List ℕ) → length (run s) ≤ length s
    run_short [] = omega arith
    run_short (c ∷ s) = case (in_word c) (λ e. rw e (omega (arith, run_short s))) (λ e. rw e (omega arith))

module _ (text : List ℕ) where
  pub same_none : (k : ℕ) → same [] (word_at text k) ≡ not (in_word (get_or text k 0))
  same_none k = case (in_word (get_or text k 0)) (λ e. rw (word_on text k e, e) refl) (λ e. rw (no_word text k e, e) refl)

  pub same-differ : (i k : ℕ) → in_word (get_or text i 0) ≡ true → (get_or text i 0 ≡ get_or text k 0 → ⊥) → same (word_at text i) (word_at text k) ≡ false
  same-differ i k e d = rw (word_on text i e) (case (in_word (get_or text k 0))
      (λ f. rw (word_on text k f, ne_eqb (get_or text i 0) (get_or text k 0) d) refl)
      (λ f. rw (no_word text k f) refl))

  pub same-on : (i k : ℕ) → in_word (get_or text i 0) ≡ true → get_or text i 0 ≡ get_or text k 0
      → same (word_at text i) (word_at text k) ≡ same (word_at text (suc i)) (word_at text (suc k))
  same-on i k e d = rw (word_on text i e, word_on text k (sym (ap in_word d) ∙ e), eq-eqb (get_or text i 0) (get_or text k 0) d) refl

pub run_take : (s : List ℕ) → take (length (run s)) s ≡ run s
run_take [] = refl
run_take (c ∷ s) = case (in_word c) (λ e. rw e (ap (λ (t : List ℕ). c ∷ t) (run_take s))) (λ e. rw e refl)

drop-take : (at n : ℕ) (s : List ℕ) → drop at (take (at + n) s) ≡ take n (drop at s)
drop-take zero n s = rw zero-add refl
drop-take (suc at) n [] = rw suc-add (sym (take-nil n))
drop-take (suc at) n (c ∷ s) = rw suc-add (drop-take at n s)

-- a word is what stands between its two ends; without its last characters, what stands before them
pub word_slice : (text : List ℕ) (at n : ℕ) → n ≤ length (word_at text at) → slice at (at + n) text ≡ take n (word_at text at)
word_slice text at n h =
    drop-take at n text ∙ sym (take-take n (length (word_at text at)) (drop at text) h) ∙ ap (take n) (run_take (drop at text))

run-characters : (s : List ℕ) (k : ℕ) → k < length (run s) → in_word (get_or (run s) k 0) ≡ true
run-characters [] k h = absurd (omega arith)
run-characters (c ∷ s) zero h = case (in_word c) (λ e. rw e e) (λ e. absurd (omega (arith, rw e at h)))
run-characters (c ∷ s) (suc k) h = case (in_word c) (λ e. rw e (run-characters s k (omega (arith, rw e at h))))
    (λ e. absurd (omega (arith, rw e at h)))

pub word-characters : (text : List ℕ) (at k : ℕ) → k < length (word_at text at) → (0 < get_or (word_at text at) k 0) × (get_or (word_at text at) k 0 < 256)
word-characters text at k h =
    let e = run-characters (drop at text) k h in
    (omega (arith, in-word-over (get_or (word_at text at) k 0) e), in-word-under (get_or (word_at text at) k 0) e)

-- within a list the default does not matter
pub get_d-in : (text : List ℕ) (at : ℕ) → at < length text → get_or text at LF ≡ get_or text at 0
get_d-in [] at h = absurd (omega arith)
get_d-in (c ∷ s) zero h = refl
get_d-in (c ∷ s) (suc at) h = get_d-in s at (omega arith)

pub not-letter : (c : ℕ) → is_digit c ≡ true → is_letter c ≡ false
not-letter c e = case (leb 65 c)
    (λ h. absurd (let under : leb c 57 ≡ true = case (leb 48 c) (λ k. rw k at e) (λ k. absurd (differ (rw k at e))) in
    omega (arith, leb-true 65 c h, leb-true c 57 under)))
    (λ h. rw h refl)

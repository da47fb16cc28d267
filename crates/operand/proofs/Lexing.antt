-- The next token of a line: where the spaces end, what stands there, and that it is the first of the line's tokens. Assumes nothing.
use Prim.Native.Nat.{ℕ, ◌+◌, ◌<◌, ◌≤◌}
use Prim.Native.Char.{code}
use mathlib.Core.Path.{◌≡◌, refl, sym, ap, subst, ◌∙◌}
use mathlib.Core.Bool.{true, false}
use mathlib.Core.List.{List, [], ◌∷◌}
use native.Mathlib.Numerals.{add-one}
use native.Mathlib.Omega.{arith}
use borrow.Author.Tests.{eqb-false, eqb-true, ltb-false, ltb-true, ne_eqb}
use lib.Dec.{eqb, ltb}
use lib.ListN.{get_or, length, drop, length-drop, get_or-eq_default}
use lib.Seq.{drop-drop, get_or-drop}
use Rattle.operand.specs.Text.{LF, in_word, tokens}
use Rattle.operand.specs.Read.{Lexed, ended, lexeme_at, lexeme_from, past_spaces, sign, spaces, tokens_at, up_to_lf, word, word_at, word_kind}
use Rattle.operand.specs.declared.tokens.Kind.{Kind}
use Rattle.operand.specs.declared.tokens.Kind.TheVariants.{End, Sign}
use Rattle.operand.specs.declared.tokens.Lexeme.{Lexeme}
use Rattle.operand.proofs.Texts.{at-end, at-lf, at_sign, at-word, case, get_d-in, word_on, word-within}

-- ---- past the spaces
spaces-short : (s : List ℕ) → spaces s ≤ length s
spaces-short [] = omega arith
spaces-short (c ∷ s) = case (eqb c 32) (λ e. rw e (omega (arith, spaces-short s))) (λ e. rw e (omega arith))

-- a line's tokens are those past its spaces
spaces-same : (s : List ℕ) → tokens (up_to_lf (drop (spaces s) s)) ≡ tokens (up_to_lf s)
spaces-same [] = refl
spaces-same (c ∷ s) = case (eqb c 32) (λ e. rw (eqb-true c 32 e) (spaces-same s)) (λ e. rw e refl)

spaces-stop : (s : List ℕ) → spaces s < length s → eqb (get_or s (spaces s) 0) 32 ≡ false
spaces-stop [] h = absurd (omega arith)
spaces-stop (c ∷ s) h = case (eqb c 32) (λ e. rw e (spaces-stop s (omega (arith, rw e at h)))) (λ e. rw e e)

record Skipped (text : List ℕ) (at r : ℕ) : Type 0 where
  from : at ≤ r
  within : r ≤ length text
  same : tokens_at text r ≡ tokens_at text at
  stops : r < length text → eqb (get_or text r 0) (code " ") ≡ false

skipped : (text : List ℕ) (at : ℕ) → at ≤ length text → Skipped text at (past_spaces text at)
skipped text at h =
    let s = drop at text in
    let n = length-drop at text in
    record {
      from = omega arith;
      within = omega (arith, spaces-short s, n);
      same = ap (λ (u : List ℕ). tokens (up_to_lf u)) (sym (drop-drop (spaces s) at text)) ∙ spaces-same s;
      stops = λ l. ap (λ (c : ℕ). eqb c 32) (sym (get_or-drop at text (spaces s) 0)) ∙ spaces-stop s (omega (arith, n));
    }

-- ---- what stands there
module _ (text : List ℕ) (at : ℕ) where
  pub ends-past : length text ≤ at → record { kind = End; start = at; next = at } ≡ lexeme_from text at
  ends-past h = rw (get_or-eq_default text LF h) refl

  module _ (within : at < length text) where
    pub ends-lf : get_or text at 0 ≡ LF → record { kind = End; start = at; next = at } ≡ lexeme_from text at
    ends-lf e = rw (get_d-in text at within, e) refl

    module _ (here : get_or text at 0 ≡ LF → ⊥) where
      pub word-from : (kind : Kind) (next : ℕ) → in_word (get_or text at 0) ≡ true → kind ≡ word_kind (word_at text at) → next ≡ at + length (word_at text at)
          → record { kind = kind; start = at; next = next } ≡ lexeme_from text at
      word-from kind next i k n = rw (get_d-in text at within, ne_eqb (get_or text at 0) LF here, i, k, n) refl

      pub sign-from : in_word (get_or text at 0) ≡ false → record { kind = Sign (get_or text at 0); start = at; next = at + 1 } ≡ lexeme_from text at
      sign-from i = rw (get_d-in text at within, ne_eqb (get_or text at 0) LF here, i) refl

-- ---- it is the first of the line's tokens
module _ (text : List ℕ) (at from : ℕ) (k : Skipped text from at) where
  ended-there : tokens_at text at ≡ [] → get_or text at LF ≡ LF → Lexed text from (record { kind = End; start = at; next = at })
  ended-there e g = record {
    from = k.from;
    starts = omega arith;
    within = k.within;
    moves = λ h. absurd (h refl);
    next = ended (sym k.same ∙ e) refl g;
  }

  module _ (within : at < length text) (here : get_or text at 0 ≡ LF → ⊥) where
    word-there : in_word (get_or text at 0) ≡ true
        → Lexed text from (record { kind = word_kind (word_at text at); start = at; next = at + length (word_at text at) })
    word-there i =
        let w = ap length (word_on text at i) in
        record {
          from = k.from;
          starts = omega arith;
          within = word-within text at k.within;
          moves = λ h. omega arith;
          next = word (sym k.same ∙ at-word text at within i) refl refl within i;
        }

    sign-there : in_word (get_or text at 0) ≡ false
        → Lexed text from (record { kind = Sign (get_or text at 0); start = at; next = at + 1 })
    sign-there i = record {
      from = k.from;
      starts = omega arith;
      within = omega arith;
      moves = λ h. omega arith;
      next = sign (get_or text at 0) (sym k.same ∙ at_sign text at within here (k.stops within) i ∙ rw add-one refl) refl;
    }

  from-there : Lexed text from (lexeme_from text at)
  from-there = case (ltb at (length text))
      (λ e. let within = ltb-true at (length text) e in
      rw (get_d-in text at within) (case (eqb (get_or text at 0) LF)
      (λ f. let g = eqb-true (get_or text at 0) LF f in
      rw f (ended-there (at-lf text at within g) (get_d-in text at within ∙ g)))
      (λ f. rw f (case (in_word (get_or text at 0))
      (λ i. rw i (word-there within (eqb-false (get_or text at 0) LF f) i))
      (λ i. rw i (sign-there within (eqb-false (get_or text at 0) LF f) i))))))
      (λ e. let past = ltb-false at (length text) e in
      subst (Lexed text from) (ends-past text at past) (ended-there (at-end text at past) (get_or-eq_default text LF past)))

pub lexed : (text : List ℕ) (at : ℕ) {r : Lexeme} → at ≤ length text → r ≡ lexeme_at text at → Lexed text at r
lexed text at h e = subst (Lexed text at) (sym e) (from-there text (past_spaces text at) at (skipped text at h))

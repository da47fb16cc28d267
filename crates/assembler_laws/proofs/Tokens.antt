-- What is spelt reads back as its tokens, an operand as the word of its number, and as one line: laws of a word, a sign and a space, put together for
-- every list of tokens of which a test that computes says that no two words touch. Assumes nothing.
use Prim.Native.Nat.{ℕ, zero, suc, ◌+◌, ◌≤◌}
use native.Mathlib.Omega.{arith}
use mathlib.Core.Path.{◌≡◌, refl, sym, ap, subst, ◌∙◌}
use mathlib.Core.Bool.{Bool, true, false, ◌&&◌, not, false≢true}
use mathlib.Core.List.{List, [], ◌∷◌, ◌++◌, map, append-nil}
use lib.Dec.{eqb}
use lib.ListN.{length, length-append}
use borrow.Author.Tests.{eqb-true, not-true}
use Rattle.isa.specs.Choice.{pick}
use Rattle.isa.proofs.Exact.{and_left, and_right, and_both}
use Rattle.mnemonic.specs.Spelling.{Token, letters, mark, operand, codes, number, spelt, closed, spelling}
use Rattle.operand.specs.Text.{LF, in_word, lines, begins, on_word, tokens}
use Rattle.assembler_laws.proofs.Each.{every, every_append, every_of}
use Rattle.assembler_laws.proofs.Numbers.{Led, number-led, number-length}

-- a token as it is read
abbrev pub heard : Token → Token
heard (letters w) = letters w
heard (mark c) = mark c
heard (operand n v) = letters (number n v)

-- whether it is a word
abbrev pub is_word : Token → Bool
is_word (letters w) = true
is_word (mark c) = false
is_word (operand n v) = true

abbrev filled : List ℕ → Bool
filled [] = false
filled (c ∷ w) = every in_word (c ∷ w)

abbrev pub not_lf : ℕ → Bool
not_lf c = not (eqb c LF)

-- whether it can be read
abbrev pub readable : Token → Bool
readable (letters w) = filled w
readable (mark c) = not (in_word c) && (not (eqb c 32) && not_lf c)
readable (operand zero v) = false
readable (operand (suc n) v) = true

-- whether tokens with nothing between them can be
abbrev pub tight : List Token → Bool
tight [] = true
tight (t ∷ []) = readable t
tight (t ∷ u ∷ ts) = readable t && (not (is_word t && is_word u) && tight (u ∷ ts))

abbrev pub spaced : List Token → Bool
spaced [] = true
spaced (t ∷ ts) = readable t && tight ts

-- ---- characters
other : (c d : ℕ) → in_word c ≡ true → in_word d ≡ false → eqb c d ≡ false
other c d e f = go (eqb c d) refl
  where
    go : (t : Bool) → eqb c d ≡ t → t ≡ false
    go true q =
        let p : in_word c ≡ false = subst (λ (n : ℕ). in_word n ≡ false) (sym (eqb-true c d q)) f in
        absurd (false≢true (sym p ∙ e))
    go false q = refl

space : in_word 32 ≡ false
unfolding in_word
space = refl

feed : in_word LF ≡ false
unfolding in_word
feed = refl

-- ---- a word, a sign, a token
letter : (c : ℕ) (s : List ℕ) → in_word c ≡ true → tokens (c ∷ s) ≡ pick (begins s) (on_word c (tokens s)) (letters (c ∷ []) ∷ tokens s)
letter c s e = rw (other c 32 e space, e) refl

word : (w s : List ℕ) → filled w ≡ true → begins s ≡ false → tokens (w ++ s) ≡ letters w ∷ tokens s
word [] s e b = absurd (false≢true e)
word (c ∷ []) s e b = letter c s (and_left (in_word c) true e) ∙ rw b refl
word (c ∷ d ∷ w) s e b =
    let q : every in_word (d ∷ w) ≡ true = and_right (in_word c) (every in_word (d ∷ w)) e in
    letter c ((d ∷ w) ++ s) (and_left (in_word c) (every in_word (d ∷ w)) e)
    ∙ ap (λ (t : Bool). pick t (on_word c (tokens ((d ∷ w) ++ s))) (letters (c ∷ []) ∷ tokens ((d ∷ w) ++ s))) (and_left (in_word d) (every in_word w) q)
    ∙ ap (on_word c) (word (d ∷ w) s q b)

sign : (c : ℕ) (s : List ℕ) → in_word c ≡ false → eqb c 32 ≡ false → tokens (c ∷ s) ≡ mark c ∷ tokens s
sign c s e f = rw (e, f) refl

number-filled : (n v : ℕ) → filled (number (suc n) v) ≡ true
number-filled n v = go (number (suc n) v) (number-led n v)
  where
    go : (s : List ℕ) → Led s → filled s ≡ true
    go [] l = l.digit-first
    go (c ∷ s) l = l.word

not-word : (c : ℕ) → readable (mark c) ≡ true → in_word c ≡ false
not-word c e = not-true (in_word c) (and_left (not (in_word c)) (not (eqb c 32) && not_lf c) e)

token : (t : Token) (s : List ℕ) → readable t ≡ true → (is_word t ≡ true → begins s ≡ false) → tokens (spelt t ++ s) ≡ heard t ∷ tokens s
token (letters w) s e b = word w s e (b refl)
token (mark c) s e b =
    sign c s (not-word c e) (not-true (eqb c 32) (and_left (not (eqb c 32)) (not_lf c) (and_right (not (in_word c)) (not (eqb c 32) && not_lf c) e)))
token (operand zero v) s e b = absurd (false≢true e)
token (operand (suc n) v) s e b = word (number (suc n) v) s (number-filled n v) (b refl)

-- ---- tokens with nothing between them
-- no word begins with what stands after a word
apart : (t u : Token) (ts : List Token) → not (is_word t && is_word u) ≡ true → tight (u ∷ ts) ≡ true → is_word t ≡ true
    → begins (closed (u ∷ ts)) ≡ false
apart t (letters w) ts n e f = absurd (false≢true (rw f at n))
apart t (mark c) [] n e f = not-word c e
apart t (mark c) (u ∷ ts) n e f = not-word c (and_left (readable (mark c)) (not (is_word (mark c) && is_word u) && tight (u ∷ ts)) e)
apart t (operand m v) ts n e f = absurd (false≢true (rw f at n))

heard-closed : (ts : List Token) → tight ts ≡ true → tokens (closed ts) ≡ map heard ts
heard-closed [] e = refl
heard-closed (t ∷ []) e = ap tokens (sym (append-nil (spelt t))) ∙ token t [] e (λ p. refl)
heard-closed (t ∷ u ∷ ts) e =
    let n = and_right (readable t) (not (is_word t && is_word u) && tight (u ∷ ts)) e in
    let k = and_right (not (is_word t && is_word u)) (tight (u ∷ ts)) n in
    token t (closed (u ∷ ts)) (and_left (readable t) (not (is_word t && is_word u) && tight (u ∷ ts)) e)
    (apart t u ts (and_left (not (is_word t && is_word u)) (tight (u ∷ ts)) n) k)
    ∙ ap (λ (us : List Token). heard t ∷ us) (heard-closed (u ∷ ts) k)

pub heard-spelling : (ts : List Token) → spaced ts ≡ true → tokens (spelling ts) ≡ map heard ts
heard-spelling [] e = refl
heard-spelling (t ∷ []) e = ap tokens (sym (append-nil (spelt t))) ∙ token t [] (and_left (readable t) true e) (λ p. refl)
heard-spelling (t ∷ u ∷ ts) e =
    token t (codes " " ++ closed (u ∷ ts)) (and_left (readable t) (tight (u ∷ ts)) e) (λ p. space)
    ∙ ap (λ (us : List Token). heard t ∷ us) (heard-closed (u ∷ ts) (and_right (readable t) (tight (u ∷ ts)) e))

-- ---- lines
pub one_line : (s : List ℕ) → every not_lf s ≡ true → lines s ≡ s ∷ []
one_line [] e = refl
one_line (c ∷ s) e = rw (not-true (eqb c LF) (and_left (not_lf c) (every not_lf s) e), one_line s (and_right (not_lf c) (every not_lf s) e)) refl

pub first-line : (s t : List ℕ) → every not_lf s ≡ true → lines (s ++ (LF ∷ t)) ≡ s ∷ lines t
first-line [] t e = refl
first-line (c ∷ s) t e = rw (not-true (eqb c LF) (and_left (not_lf c) (every not_lf s) e), first-line s t (and_right (not_lf c) (every not_lf s) e)) refl

word_line : (w : List ℕ) → filled w ≡ true → every not_lf w ≡ true
word_line [] e = refl
word_line (c ∷ w) e = every_of in_word not_lf (λ d p. rw (other d LF p feed) refl) (c ∷ w) e

token-line : (t : Token) → readable t ≡ true → every not_lf (spelt t) ≡ true
token-line (letters w) e = word_line w e
token-line (mark c) e = and_both (not_lf c) true (and_right (not (eqb c 32)) (not_lf c) (and_right (not (in_word c)) (not (eqb c 32) && not_lf c) e)) refl
token-line (operand zero v) e = absurd (false≢true e)
token-line (operand (suc n) v) e = word_line (number (suc n) v) (number-filled n v)

closed-line : (ts : List Token) → tight ts ≡ true → every not_lf (closed ts) ≡ true
closed-line [] e = refl
closed-line (t ∷ []) e = token-line t e
closed-line (t ∷ u ∷ ts) e =
    every_append not_lf (spelt t) (closed (u ∷ ts)) (token-line t (and_left (readable t) (not (is_word t && is_word u) && tight (u ∷ ts)) e))
    (closed-line (u ∷ ts)
    (and_right (not (is_word t && is_word u)) (tight (u ∷ ts)) (and_right (readable t) (not (is_word t && is_word u) && tight (u ∷ ts)) e)))

pub spelling-line : (ts : List Token) → spaced ts ≡ true → every not_lf (spelling ts) ≡ true
spelling-line [] e = refl
spelling-line (t ∷ []) e = token-line t (and_left (readable t) true e)
spelling-line (t ∷ u ∷ ts) e =
    every_append not_lf (spelt t) (codes " " ++ closed (u ∷ ts)) (token-line t (and_left (readable t) (tight (u ∷ ts)) e))
    (closed-line (u ∷ ts) (and_right (readable t) (tight (u ∷ ts)) e))

-- ---- length
abbrev pub wide : Token → ℕ
wide (letters w) = length w
wide (mark c) = 1
wide (operand n v) = n + 2

abbrev pub widths : List Token → ℕ
widths [] = 0
widths (t ∷ ts) = wide t + widths ts

token-length : (t : Token) → length (spelt t) ≤ wide t
token-length (letters w) = omega arith
token-length (mark c) = omega arith
token-length (operand n v) = number-length n v

closed-length : (ts : List Token) → length (closed ts) ≤ widths ts
closed-length [] = omega arith
closed-length (t ∷ []) = omega (arith, token-length t)
closed-length (t ∷ u ∷ ts) = omega (arith, length-append (spelt t) (closed (u ∷ ts)), token-length t, closed-length (u ∷ ts))

pub spelling-length : (ts : List Token) → length (spelling ts) ≤ suc (widths ts)
spelling-length [] = omega arith
spelling-length (t ∷ []) = omega (arith, token-length t)
spelling-length (t ∷ u ∷ ts) = omega (arith, length-append (spelt t) (codes " " ++ closed (u ∷ ts)), token-length t, closed-length (u ∷ ts))

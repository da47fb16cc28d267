-- Words as numbers, which tell them apart, and the words of labels. Assumes nothing.
use Prim.Native.Nat.{ℕ, zero, suc, ◌<◌, ◌≤◌}
use mathlib.Core.Path.{◌≡◌, refl, sym, ◌∙◌}
use mathlib.Core.Bool.{Bool, true, ◌&&◌}
use mathlib.Core.List.{List, [], ◌∷◌}
use native.Mathlib.Omega.{arith}
use borrow.Author.Tests.{eq-eqb, eqb-false, eqb-true, ltb-true, ne_eqb}
use lib.Dec.{eqb, ltb}
use lib.ListN.{get_or, length, length-map, take}
use lib.Seq.{length-take-le}
use Rattle.operand.specs.Words.{fixed_words, same}
use Rattle.operand.specs.Read.{names_at, packed, word_at}
use Rattle.operand.proofs.Texts.{both, case}

-- characters that are a byte and not 0
abbrev pub Characters : List ℕ → Type 0
Characters w = (k : ℕ) → k < length w → (0 < get_or w k 0) × (get_or w k 0 < 256)

pub same_refl : (w : List ℕ) → same w w ≡ true
same_refl [] = refl
same_refl (c ∷ s) = rw (eq-eqb c c refl) (same_refl s)

-- two words are the same where their numbers are
pub same-packed : (v w : List ℕ) → Characters v → Characters w → same v w ≡ eqb (packed v) (packed w)
same-packed [] [] p q = refl
same-packed [] (d ∷ w) p q = sym (ne_eqb 0 (packed (d ∷ w)) (λ e. omega (arith, (q 0 (omega arith)).0)))
same-packed (c ∷ v) [] p q = sym (ne_eqb (packed (c ∷ v)) 0 (λ e. omega (arith, (p 0 (omega arith)).0)))
same-packed (c ∷ v) (d ∷ w) p q =
    let rest = same-packed v w (λ k h. p (suc k) (omega arith)) (λ k h. q (suc k) (omega arith)) in
    case (eqb c d)
    (λ e. rw (e, rest) (case (eqb (packed v) (packed w))
    (λ f. rw f (sym (eq-eqb (packed (c ∷ v)) (packed (d ∷ w)) (omega (arith, eqb-true c d e, eqb-true (packed v) (packed w) f)))))
    (λ f. rw f (sym (ne_eqb (packed (c ∷ v)) (packed (d ∷ w)) (λ g. eqb-false (packed v) (packed w) f
    (omega (arith, g, (p 0 (omega arith)).1, (q 0 (omega arith)).1, eqb-true c d e))))))))
    (λ e. rw e (sym (ne_eqb (packed (c ∷ v)) (packed (d ∷ w)) (λ g. eqb-false c d e
    (omega (arith, g, (p 0 (omega arith)).1, (q 0 (omega arith)).1))))))

-- the same as a test, which antt computes
abbrev pub characters : List ℕ → Bool
characters [] = true
characters (c ∷ w) = ltb 0 c && ltb c 256 && characters w

pub fixed-count : length fixed_words ≡ 61
unfolding fixed_words
fixed-count = refl

pub characters-are : (w : List ℕ) → characters w ≡ true → Characters w
characters-are [] e k h = absurd (omega arith)
characters-are (c ∷ w) e zero h =
    let ab = both (ltb 0 c && ltb c 256) (characters w) e in
    let a = both (ltb 0 c) (ltb c 256) ab.0 in (ltb-true 0 c a.0, ltb-true c 256 a.1)
characters-are (c ∷ w) e (suc k) h = characters-are w (both (ltb 0 c && ltb c 256) (characters w) e).1 k (omega arith)

pub names-length : (text starts : List ℕ) (count : ℕ) → length (names_at text starts count) ≡ length (take count starts)
names-length text starts count = length-map (take count starts) (word_at text)

pub names-count : (text starts : List ℕ) (count : ℕ) → count ≤ length starts → length (names_at text starts count) ≡ count
names-count text starts count h = names-length text starts count ∙ length-take-le count starts h

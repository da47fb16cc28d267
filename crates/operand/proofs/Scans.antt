-- What the library finds in a text, by the definitions' words: a word, spaces, and the place of a word. Assumes nothing.
use Prim.Native.Nat.{ℕ, suc, ◌+◌}
use mathlib.Core.Path.{◌≡◌, refl, sym, ap, ◌∙◌}
use mathlib.Core.Bool.{Bool, true, false, ◌&&◌, not}
use mathlib.Core.List.{List, [], ◌∷◌, map}
use native.Mathlib.Nat.{add-suc, add-zero, suc-add, zero-add}
use native.Mathlib.Numerals.{add-one}
use native.Mathlib.Omega.{arith}
use borrow.Author.Tests.{eqb-true, le-ltb, lt-ltb, ltb-false, ltb-true}
use lib.Dec.{eqb, ltb}
use lib.ListN.{drop, length, take}
use Rattle.std.specs.Prelude.{is_some, Option, Some, None, unwrap_or}
use Rattle.std.specs.Cmp.Lexicographic.{pointwise}
use Rattle.std.specs.List.{list_all, position_from, take_while}
use Rattle.std.proofs.lemmas.List.Sums.{take_while-cons}
use Rattle.isa.specs.Choice.{pick}
use Rattle.operand.specs.Text.{begins, in_word}
use Rattle.operand.specs.Words.{among, place, same}
use Rattle.operand.specs.Read.{found_in, run, spaces}
use Rattle.operand.proofs.Texts.{case, differ, run_take}

run-is : (s : List ℕ) → take_while in_word s ≡ run s
run-is [] = refl
run-is (c ∷ s) = take_while-cons in_word c s ∙ case (in_word c) (λ e. rw e (ap (λ (t : List ℕ). c ∷ t) (run-is s))) (λ e. rw e refl)

pub take_run : (s : List ℕ) → take (length (take_while in_word s)) s ≡ run s
take_run s = rw (run-is s) (run_take s)

pub spaces_are : (s : List ℕ) → length (take_while (λ (c : ℕ). eqb c 32) s) ≡ spaces s
spaces_are [] = refl
spaces_are (c ∷ s) = ap length (take_while-cons (λ (d : ℕ). eqb d 32) c s) ∙ case (eqb c 32) (λ e. rw e (ap suc (spaces_are s))) (λ e. rw e refl)

-- the word that a text starts with is this one where it has this one's characters, all of them a word's, and none follows
and-false : (b : Bool) → (b && false) ≡ false
and-false true = refl
and-false false = refl

pub is-first : (s name : List ℕ)
    → same (run s) name ≡ (pointwise eqb (take (length name) s) name && (not (begins (drop (length name) s)) && list_all in_word name))
is-first [] [] = refl
is-first (c ∷ s) [] = case (in_word c) (λ e. rw e refl) (λ e. rw e refl)
is-first [] (d ∷ n) = refl
is-first (c ∷ s) (d ∷ n) = case (eqb c d)
    (λ e. let g : in_word c ≡ in_word d = ap in_word (eqb-true c d e) in
    case (in_word d) (λ f. rw (g ∙ f, e, f) (is-first s n))
    (λ f. rw (g ∙ f, e, f, and-false (not (begins (drop (length n) s))), and-false (pointwise eqb (take (length n) s) n)) refl))
    (λ e. rw e (case (in_word c) (λ f. rw (f, e) refl) (λ f. rw f refl)))

-- a word found among others stands at its place
ltb-suc : (m n : ℕ) → ltb (suc m) (suc n) ≡ ltb m n
ltb-suc m n = case (ltb m n) (λ e. lt-ltb (suc m) (suc n) (omega (arith, ltb-true m n e)) ∙ sym e)
    (λ e. le-ltb (suc m) (suc n) (omega (arith, ltb-false m n e)) ∙ sym e)

found-from : {A : Type 0} (f : A → List ℕ) (w : List ℕ) (i : ℕ) (xs : List A)
    → position_from (λ (x : A). same (f x) w) i xs ≡ pick (among (map f xs) w) (Some (i + place (map f xs) w)) None
found-from f w i [] = refl
found-from f w i (x ∷ xs) = case (same (f x) w)
    (λ e. rw (e, lt-ltb 0 (suc (length (map f xs))) (omega arith), add-zero i) refl)
    (λ e. rw (e, ltb-suc (place (map f xs) w) (length (map f xs)), add-suc i (place (map f xs) w))
    (found-from f w (i + 1) xs ∙ rw (add-one i, suc-add i (place (map f xs) w)) refl))

pub found : {A : Type 0} (f : A → List ℕ) (w : List ℕ) (xs : List A) → position_from (λ (x : A). same (f x) w) 0 xs ≡ found_in (map f xs) w
found f w xs = found-from f w 0 xs ∙ rw zero-add refl

-- what is found stands there, and what is not found nowhere
pub some-of : {A : Type 0} (d : A) {a b : A} → ◌≡◌ {A = Option A} (Some a) (Some b) → a ≡ b
some-of d {a} {b} e = ap (λ (o : Option _). unwrap_or o d) e

pub some-is : {a b : ℕ} → ◌≡◌ {A = Option ℕ} (Some a) (Some b) → a ≡ b
some-is e = some-of 0 e

pub none-some : {A : Type 0} {a : A} → ◌≡◌ {A = Option A} None (Some a) → ⊥
none-some {A} {a} e = differ (ap there e)
  where
    there : Option A → Bool
    there None = false
    there (Some n) = true

pub found-some : (ws : List (List ℕ)) (w : List ℕ) {k : ℕ} → found_in ws w ≡ Some k → (among ws w ≡ true) × (place ws w ≡ k)
found-some ws w h = case (among ws w) (λ e. (e, some-is (rw e at h))) (λ e. absurd (none-some (rw e at h)))

pub found-none : (ws : List (List ℕ)) (w : List ℕ) → found_in ws w ≡ None → among ws w ≡ false
found-none ws w h = case (among ws w) (λ e. absurd (none-some (sym (rw e at h)))) (λ e. e)

pub is-found : (ws : List (List ℕ)) (w : List ℕ) → is_some (found_in ws w) ≡ among ws w
is-found ws w = case (among ws w) (λ e. rw e refl) (λ e. rw e refl)

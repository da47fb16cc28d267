-- The characters of a report's line, one by one. Assumes nothing.
use Prim.Native.Nat.{ℕ, zero, suc, ◌+◌, ◌*◌, ◌/◌, ◌%◌, ◌<◌, ◌≤◌}
use native.Mathlib.Omega.{arith}
use mathlib.Core.Path.{◌≡◌, refl, sym, ap, ap₂, subst, ◌∙◌}
use mathlib.Core.Bool.{Bool, true, false}
use mathlib.Core.List.{List, [], ◌∷◌}
use lib.Dec.{eqb}
use lib.ListN.{length, get_or}
use borrow.Author.Tests.{eqb-true, eqb-false}
use denote.Param.Members.{Mut, Called}
use Rattle.std.specs.Array.{IsFromFnResult, IsFromFnResultFrom}
use Rattle.std.proofs.lemmas.List.{ext_get_or}
use Rattle.isa.specs.Choice.{pick}
use Rattle.script.specs.Hex.{digit, hex_line}

pub line-length : (r : List ℕ) → length (hex_line r) ≡ 2 * length r + 1
unfolding hex_line
line-length [] = refl
line-length (x ∷ r) = let h = line-length r in omega arith

pub newline : (r : List ℕ) (i : ℕ) → i ≡ 2 * length r → get_or (hex_line r) i 0 ≡ 10
unfolding hex_line
newline [] i e = ap (λ (k : ℕ). get_or (10 ∷ []) k 0) e
newline (x ∷ r) zero e = absurd (omega arith)
newline (x ∷ r) (suc zero) e = absurd (omega arith)
newline (x ∷ r) (suc (suc i)) e = newline r i (omega arith)

-- a digit's half of its byte
abbrev pub half : ℕ → ℕ → ℕ
half i x = pick (eqb (i % 2) 0) (x / 16) (x % 16)

pub character : (r : List ℕ) (i : ℕ) → i < 2 * length r → get_or (hex_line r) i 0 ≡ digit (half i (get_or r (i / 2) 0))
unfolding hex_line
character [] i h = absurd (omega arith)
character (x ∷ r) zero h = refl
character (x ∷ r) (suc zero) h = refl
character (x ∷ r) (suc (suc i)) h =
    character r i (omega arith)
    ∙ ap₂ (λ (m k : ℕ). digit (pick (eqb m 0) (get_or (x ∷ r) k 0 / 16) (get_or (x ∷ r) k 0 % 16))) (same i) (sym (next i))
  where
    same : (i : ℕ) → i % 2 ≡ suc (suc i) % 2
    same i = omega arith

    next : (i : ℕ) → suc (suc i) / 2 ≡ suc (i / 2)
    next i = omega arith

-- an array of calls, where each call gives what is wanted and leaves a state in which the next one does
module _ {F : Type 0} (g : Mut F (ℕ × Unit {0}) ℕ) (P : F → Type 0) (want : ℕ → ℕ)
    (step : (p : F) (i y : ℕ) (q : F) → P p → Called g p (i, tt) y q → (y ≡ want i) × P q) (ys : List ℕ) where
  called : (n i : ℕ) (f : F) → P f → IsFromFnResultFrom g f ys i n → (k : ℕ) → i ≤ k → k < i + n → get_or ys k 0 ≡ want k
  called zero i f p r k l h = absurd (omega arith)
  called (suc n) i f p (q, y, e, c, r) k l h =
      let s = step f i y q p c in
      go (eqb k i) refl s.0 (λ d. called n (i + 1) q s.1 r k (omega (arith, d)) (omega arith))
    where
      go : (t : Bool) → eqb k i ≡ t → y ≡ want i → ((k ≡ i → ⊥) → get_or ys k 0 ≡ want k) → get_or ys k 0 ≡ want k
      go true z w later = subst (λ (k : ℕ). get_or ys k 0 ≡ want k) (sym (eqb-true k i z)) (e.1 0 ∙ w)
      go false z w later = later (eqb-false k i z)

  pub all_called : (n : ℕ) (f : F) → P f → IsFromFnResult g f ys n → (xs : List ℕ) → n ≡ length xs → ((i : ℕ) → want i ≡ get_or xs i 0) → ys ≡ xs
  all_called n f p r xs e w =
      ext_get_or 0 ys xs (r.long ∙ e) (λ i h. called n 0 f p r.each i (omega arith) (omega (arith, r.long)) ∙ w i)

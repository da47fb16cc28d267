-- A text over zeros is the padded text. Assumes nothing.
use Prim.Native.Nat.{ℕ, zero, suc, ◌+◌, ◌-◌, ◌≤◌}
use native.Mathlib.Nat.{not-suc-le-zero, le_of_suc-le-suc}
use mathlib.Core.Path.{◌≡◌, refl, sym, ap, ◌∙◌}
use mathlib.Core.List.{List, [], ◌∷◌, ◌++◌}
use native.Mathlib.Omega.{arith}
use lib.ListN.{length, drop, replicate, length-append}
use lib.Seq.{take-append_seam, drop-append_seam, drop-drop}
use borrow.Rule.Slice.PartMut.{put_mid}
use Rattle.std.proofs.lemmas.List.{append_assoc}
use Rattle.mnemonic.specs.Held.{padded}

empty : (n : ℕ) → replicate n 0 ≡ padded n []
empty zero = refl
empty (suc n) = ap (λ (s : List ℕ). 0 ∷ s) (empty n)

pub over_zeros : (n : ℕ) (s : List ℕ) → length s ≤ n → s ++ drop (length s) (replicate n 0) ≡ padded n s
over_zeros zero [] h = refl
over_zeros zero (c ∷ s) h = absurd (not-suc-le-zero h)
over_zeros (suc n) [] h = empty (suc n)
over_zeros (suc n) (c ∷ s) h = ap (λ (s : List ℕ). c ∷ s) (over_zeros n s (le_of_suc-le-suc h))

-- what two writes over zeros, one after the other, leave
pub written : (n : ℕ) (f b g h : List ℕ) → g ≡ f → h ≡ b → length f + length b ≤ n
    → put_mid (length f) (length f + length b - length f) (g ++ drop (length f) (replicate n 0)) h ≡ padded n (f ++ b)
written n f b g h p q l =
    let zeros : List ℕ = replicate n 0 in
    let k : length f + length b - length f ≡ length b = omega arith in
    rw (p, q, k, take-append_seam f (drop (length f) zeros), drop-append_seam f (drop (length f) zeros), drop-drop {A = ℕ} (length b) (length f) zeros)
    (sym (append_assoc f b (drop (length f + length b) zeros))
    ∙ ap (λ (m : ℕ). (f ++ b) ++ drop m zeros) (sym (length-append f b))
    ∙ over_zeros n (f ++ b) (rw (length-append f b) l))

-- The flags of each address in its part of three. Assumes nothing.
use Prim.Native.Nat.{ℕ, zero, suc, ◌+◌, ◌-◌, ◌*◌, ◌/◌, ◌<◌, ◌≤◌}
use native.Mathlib.Omega.{arith}
use mathlib.Core.Path.{◌≡◌, refl, ap, ◌∙◌}
use mathlib.Core.List.{List, []}
use lib.ListN.{length, get_or, drop}
use lib.Seq.{get_or-take, get_or-drop}
use Rattle.std.specs.Simd.{first_chunks}

chunk-at : (n : ℕ) (xs : List ℕ) (a j i : ℕ) → a < n → j < 3 → i ≡ a * 3 + j → get_or (get_or (first_chunks 3 n xs) a []) j 0 ≡ get_or xs i 0
chunk-at zero xs a j i h g e = absurd (omega arith)
chunk-at (suc n) xs zero j i h g e =
    let p : j ≡ i = omega arith in
    get_or-take 3 xs j 0 g ∙ ap (λ (k : ℕ). get_or xs k 0) p
chunk-at (suc n) xs (suc a) j i h g e =
    let p : 3 + (i - 3) ≡ i = omega arith in
    chunk-at n (drop 3 xs) a j (i - 3) (omega arith) g (omega arith) ∙ get_or-drop 3 xs (i - 3) 0 ∙ ap (λ (k : ℕ). get_or xs k 0) p

pub flags-at : (parts : List (List ℕ)) (seen : List ℕ) → parts ≡ first_chunks 3 (length seen / 3) seen → length parts ≡ length seen / 3 → (a : ℕ) → a < length parts
    → (get_or (get_or parts a []) 0 0 ≡ get_or seen (a * 3) 0)
    × (get_or (get_or parts a []) 1 0 ≡ get_or seen (a * 3 + 1) 0)
    × (get_or (get_or parts a []) 2 0 ≡ get_or seen (a * 3 + 2) 0)
flags-at parts seen e l a h = (flag 0 (a * 3) (omega arith) (omega arith), flag 1 (a * 3 + 1) (omega arith) refl, flag 2 (a * 3 + 2) (omega arith) refl)
  where
    flag : (j i : ℕ) → j < 3 → i ≡ a * 3 + j → get_or (get_or parts a []) j 0 ≡ get_or seen i 0
    flag j i g f =
        ap (λ (ps : List (List ℕ)). get_or (get_or ps a []) j 0) e ∙ chunk-at (length seen / 3) seen a j i (omega arith) g f

-- and so each is 0 or 1
pub bits_at : (parts : List (List ℕ)) (seen : List ℕ) → parts ≡ first_chunks 3 (length seen / 3) seen → length parts ≡ length seen / 3 → ((k : ℕ) → get_or seen k 0 ≤ 1)
    → (a : ℕ) → a < length parts → (get_or (get_or parts a []) 0 0 ≤ 1) × (get_or (get_or parts a []) 1 0 ≤ 1) × (get_or (get_or parts a []) 2 0 ≤ 1)
bits_at parts seen e l b a h =
    let f = flags-at parts seen e l a h in (omega (arith, f.0, b (a * 3)), omega (arith, f.1, b (a * 3 + 1)), omega (arith, f.2, b (a * 3 + 2)))

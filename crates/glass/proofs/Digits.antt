-- A digit more at the right end: what the digits show then. Assumes nothing.
use Prim.Native.Nat.{ℕ, suc, ◌+◌, ◌*◌, ◌^◌, ◌<◌, ◌≤◌}
use native.Mathlib.Nat.{mul_assoc, mul-le-mul_right, pow-suc}
use native.Mathlib.Omega.{arith}
use mathlib.Core.Path.{◌≡◌, refl, sym, ap, ◌∙◌}
use mathlib.Core.Bool.{Bool, true, false, cond}
use mathlib.Core.List.{List, [], ◌∷◌, ◌++◌, map, append_assoc, map-append}
use lib.ListN.{length, replicate, length-append}
use Rattle.glass.specs.Shapes.{Cell, blank, hyphen}
use Rattle.glass.specs.Pictures.{Digit, lit, laid, Numerals, points, whole, after_point}

pub length-snoc : (ds : List Digit) (d : Digit) → length (ds ++ (d ∷ [])) ≡ suc (length ds)
length-snoc ds d = length-append ds (d ∷ []) ∙ omega arith

-- a figure moves one place to the left
moved : (n k w : ℕ) (d : ℕ) → n * 10 ^ suc k + (w * 10 + d) ≡ (n * 10 ^ k + w) * 10 + d
moved n k w d =
    let e : n * 10 ^ suc k ≡ n * 10 ^ k * 10 = ap (λ (x : ℕ). n * x) (pow-suc 10 k) ∙ sym (mul_assoc n (10 ^ k) 10) in
    rw e (omega arith)

pub whole-snoc : (ds : List Digit) (d : Digit) → whole (ds ++ (d ∷ [])) ≡ whole ds * 10 + d.numeral
whole-snoc [] d = omega arith
whole-snoc (e ∷ ds) d =
    ap (λ (w : ℕ). e.numeral * 10 ^ length (ds ++ (d ∷ [])) + w) (whole-snoc ds d)
    ∙ ap (λ (k : ℕ). e.numeral * 10 ^ k + (whole ds * 10 + d.numeral)) (length-snoc ds d)
    ∙ moved e.numeral (length ds) (whole ds) d.numeral

pub points-snoc : (ds : List Digit) (d : Digit) → points (ds ++ (d ∷ [])) ≡ points ds + cond d.pointed 1 0
points-snoc [] d = omega arith
points-snoc (e ∷ ds) d = let h = points-snoc ds d in omega (arith, h)

pub no-places : (ds : List Digit) → points ds ≡ 0 → after_point ds ≡ 0
no-places [] h = refl
no-places (e ∷ ds) h = go e.pointed refl h (no-places ds)
  where
    go : (b : Bool) → e.pointed ≡ b → cond b 1 0 + points ds ≡ 0 → (points ds ≡ 0 → after_point ds ≡ 0) → cond b (length ds) (after_point ds) ≡ 0
    go true k p r = absurd (omega (arith, p))
    go false k p r = r (omega (arith, p))

pub places-snoc-none : (ds : List Digit) (d : Digit) → points ds ≡ 0 → after_point (ds ++ (d ∷ [])) ≡ 0
places-snoc-none [] d h = go d.pointed
  where
    go : (b : Bool) → ◌≡◌ {A = ℕ} (cond b 0 0) 0
    go true = refl
    go false = refl
places-snoc-none (e ∷ ds) d h = go e.pointed h (places-snoc-none ds d)
  where
    go : (b : Bool) → cond b 1 0 + points ds ≡ 0 → (points ds ≡ 0 → after_point (ds ++ (d ∷ [])) ≡ 0) → cond b (length (ds ++ (d ∷ []))) (after_point (ds ++ (d ∷ []))) ≡ 0
    go true p r = absurd (omega (arith, p))
    go false p r = r (omega (arith, p))

pub places-snoc-one : (ds : List Digit) (d : Digit) → points ds ≡ 1 → after_point (ds ++ (d ∷ [])) ≡ after_point ds + 1
places-snoc-one [] d h = absurd (omega (arith, h))
places-snoc-one (e ∷ ds) d h = go e.pointed h (places-snoc-one ds d)
  where
    go : (b : Bool) → cond b 1 0 + points ds ≡ 1 → (points ds ≡ 1 → after_point (ds ++ (d ∷ [])) ≡ after_point ds + 1)
        → cond b (length (ds ++ (d ∷ []))) (after_point (ds ++ (d ∷ []))) ≡ cond b (length ds) (after_point ds) + 1
    go true p r = let k = length-snoc ds d in omega (arith, k)
    go false p r = r (omega (arith, p))

pub numerals-snoc : (ds : List Digit) (d : Digit) → Numerals ds → d.numeral < 10 → Numerals (ds ++ (d ∷ []))
numerals-snoc [] d h k = (k, tt)
numerals-snoc (e ∷ ds) d h k = (h.0, numerals-snoc ds d h.1 k)

pub laid-snoc : (n : ℕ) (m : Bool) (ds : List Digit) (d : Digit) → laid n m ds ++ (lit d ∷ []) ≡ laid n m (ds ++ (d ∷ []))
laid-snoc n m ds d =
    append_assoc (replicate n blank) (cond m (hyphen ∷ []) [] ++ map lit ds) (lit d ∷ [])
    ∙ ap (λ (s : List Cell). replicate n blank ++ s)
    (append_assoc (cond m (hyphen ∷ []) []) (map lit ds) (lit d ∷ []) ∙ ap (λ (s : List Cell). cond m (hyphen ∷ []) [] ++ s) (sym (map-append lit ds (d ∷ []))))

-- digits hold no more than their number of places, and one stands before the point
pub whole-under : (ds : List Digit) → Numerals ds → whole ds < 10 ^ length ds
whole-under [] h = omega arith
whole-under (d ∷ ds) h =
    let r = whole-under ds h.1 in
    rw (pow-suc 10 (length ds)) (under d.numeral (10 ^ length ds) (whole ds) h.0 r)
  where
    under : (n x w : ℕ) → n < 10 → w < x → n * x + w < x * 10
    under n x w hn hw = let k : n * x ≤ 9 * x = mul-le-mul_right x (omega (arith, hn)) in omega (arith, k, hw)

pub places-under : (ds : List Digit) → 0 < length ds → after_point ds < length ds
places-under [] h = h
places-under (d ∷ ds) h = go d.pointed (at_most ds)
  where
    at_most : (es : List Digit) → after_point es ≤ length es
    at_most [] = omega arith
    at_most (e ∷ es) = one e.pointed (at_most es)
      where
        one : (b : Bool) → after_point es ≤ length es → cond b (length es) (after_point es) ≤ suc (length es)
        one true k = omega arith
        one false k = omega (arith, k)

    go : (b : Bool) → after_point ds ≤ length ds → cond b (length ds) (after_point ds) < suc (length ds)
    go true k = omega arith
    go false k = omega (arith, k)

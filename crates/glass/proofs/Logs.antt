-- A text tells its reading: characters of a number are told apart, a digit's from a point's and from a minus's, and the digits tell size and count.
-- Assumes nothing.
use Prim.Native.Nat.{ℕ, ◌+◌, ◌*◌, ◌%◌, ◌<◌}
use native.Mathlib.Omega.{arith}
use mathlib.Core.Path.{◌≡◌, refl, sym, ap, ap₂, ◌∙◌}
use mathlib.Core.Bool.{Bool, true, false, cond}
use mathlib.Core.List.{List, [], ◌∷◌, ◌++◌}
use lib.IntN.{nat_abs}
use Rattle.glass.specs.Pictures.{Digit, digit, Numerals, whole, after_point, signed}
use Rattle.glass.specs.Drawing.{fewest, digits_of, is_negative, fitting}
use Rattle.glass.specs.Text.{spelt, written, text_of, packed}
use Rattle.glass.specs.Laws.{TextTells}
use Rattle.glass.specs.declared.Reading.{Reading}
use Rattle.glass.specs.declared.Reading.TheVariants.{Dark, Number}
use Rattle.glass.proofs.Laws.{numerals-of, drawn-size, drawn-count, signed-size}
use Rattle.glass.proofs.Texts.{Characters, written-characters}

packed-tells : (xs ys : List ℕ) → Characters xs → Characters ys → packed xs ≡ packed ys → xs ≡ ys
packed-tells [] [] h k e = refl
packed-tells [] (y ∷ ys) h k e = absurd (let p = k.0.0 in omega (arith, e, p))
packed-tells (x ∷ xs) [] h k e = absurd (let p = h.0.0 in omega (arith, e, p))
packed-tells (x ∷ xs) (y ∷ ys) h k e =
    let p : x < 256 = let l = h.0.1 in omega (arith, l) in
    let q : y < 256 = let l = k.0.1 in omega (arith, l) in
    let same : x ≡ y = low x (packed xs) p ∙ ap (λ (n : ℕ). n % 256) e ∙ sym (low y (packed ys) q) in
    ap₂ {C = List ℕ} (λ (a : ℕ) (s : List ℕ). a ∷ s) same (packed-tells xs ys h.1 k.1 (omega (arith, e, same)))
  where
    low : (a b : ℕ) → a < 256 → a ≡ (a + 256 * b) % 256
    low a b l = omega (arith, l)

-- a text of digits starts with a digit, or is empty: with no character under 48
no-sign-first : (ds : List Digit) (x : ℕ) (xs : List ℕ) → x < 48 → spelt ds ≡ x ∷ xs → ⊥
no-sign-first [] x xs h e = cc
no-sign-first (d ∷ ds) x xs h e = let k : 48 + d.numeral ≡ x = cc in omega (arith, k, h)

spelt-tells : (ds es : List Digit) → spelt ds ≡ spelt es → ds ≡ es
spelt-tells [] [] e = refl
spelt-tells [] (f ∷ es) e = cc
spelt-tells (d ∷ ds) [] e = cc
spelt-tells (d ∷ ds) (f ∷ es) e =
    let k : 48 + d.numeral ≡ 48 + f.numeral = cc in
    let n : d.numeral ≡ f.numeral = omega (arith, k) in
    let rest : cond d.pointed (46 ∷ []) [] ++ spelt ds ≡ cond f.pointed (46 ∷ []) [] ++ spelt es = cc in
    go d.pointed f.pointed n rest (spelt-tells ds es)
  where
    go : (p q : Bool) → d.numeral ≡ f.numeral → cond p (46 ∷ []) [] ++ spelt ds ≡ cond q (46 ∷ []) [] ++ spelt es → (spelt ds ≡ spelt es → ds ≡ es)
        → ◌≡◌ {A = List Digit} (digit d.numeral p ∷ ds) (digit f.numeral q ∷ es)
    go true true n k r = let e = r cc in cc
    go true false n k r = absurd (no-sign-first es 46 (spelt ds) (omega arith) (sym k))
    go false true n k r = absurd (no-sign-first ds 46 (spelt es) (omega arith) k)
    go false false n k r = let e = r k in cc

-- the sign and the digits of a text
pub record Apart (a b : Bool) (ds es : List Digit) : Type 0 where
  pub sign : a ≡ b
  pub digits : ds ≡ es

signed-tells : (a b : Bool) (ds es : List Digit) → cond a (45 ∷ []) [] ++ spelt ds ≡ cond b (45 ∷ []) [] ++ spelt es → Apart a b ds es
signed-tells true true ds es e = record { sign = refl; digits = spelt-tells ds es cc }
signed-tells true false ds es e = absurd (no-sign-first es 45 (spelt ds) (omega arith) (sym e))
signed-tells false true ds es e = absurd (no-sign-first ds 45 (spelt es) (omega arith) e)
signed-tells false false ds es e = record { sign = refl; digits = spelt-tells ds es e }

-- a number's text does not start as `dark` does
not-dark : (b : Bool) (ds : List Digit) (xs : List ℕ) → Numerals ds → cond b (45 ∷ []) [] ++ spelt ds ≡ 100 ∷ xs → ⊥
not-dark true ds xs ns e = let k : ◌≡◌ {A = ℕ} 45 100 = cc in omega (arith, k)
not-dark false [] xs ns e = cc
not-dark false (d ∷ ds) xs ns e = let k : 48 + d.numeral ≡ 100 = cc in let h = ns.0 in omega (arith, k, h)

written-tells : (r t : Reading) → fitting r ≡ true → fitting t ≡ true → written r ≡ written t → r ≡ t
written-tells Dark Dark f g e = refl
written-tells Dark (Number w d) f g e =
    absurd (not-dark (is_negative w) (digits_of (fewest (nat_abs w) d) (nat_abs w) d) _ (numerals-of (fewest (nat_abs w) d) (nat_abs w) d) (sym e))
written-tells (Number v c) Dark f g e =
    absurd (not-dark (is_negative v) (digits_of (fewest (nat_abs v) c) (nat_abs v) c) _ (numerals-of (fewest (nat_abs v) c) (nat_abs v) c) e)
written-tells (Number v c) (Number w d) f g e =
    let k = signed-tells (is_negative v) (is_negative w) (digits_of (fewest (nat_abs v) c) (nat_abs v) c) (digits_of (fewest (nat_abs w) d) (nat_abs w) d) e in
    let size : nat_abs v ≡ nat_abs w = sym (drawn-size v c f) ∙ ap whole k.digits ∙ drawn-size w d g in
    let count : c ≡ d = sym (drawn-count v c f) ∙ ap after_point k.digits ∙ drawn-count w d g in
    ap₂ {C = Reading} Number (signed-size v ∙ ap₂ signed k.sign size ∙ sym (signed-size w)) count

pub text-tells : TextTells
unfolding text_of
text-tells r t f g e =
    written-tells r t f g
    (packed-tells (written r) (written t) (written-characters r) (written-characters t)
    (ap (λ (b : Bool). packed (cond b (written r) [])) (sym f) ∙ e ∙ ap (λ (b : Bool). packed (cond b (written t) [])) g))

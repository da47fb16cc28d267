-- The characters of digits, one more at the left each turn; that a number of eight bytes holds them, and that its bytes are the characters, none
-- of them 0, with zeros behind. Assumes nothing.
use Prim.Native.Nat.{ℕ, zero, suc, ◌+◌, ◌*◌, ◌-◌, ◌/◌, ◌%◌, ◌^◌, ◌<◌, ◌≤◌}
use native.Mathlib.Nat.{pow-suc, pow-le-pow_right}
use native.Mathlib.Omega.{arith}
use mathlib.Core.Path.{◌≡◌, refl, sym, ap, ◌∙◌}
use mathlib.Core.Bool.{Bool, true, false, cond}
use mathlib.Core.List.{List, [], ◌∷◌, ◌++◌}
use lib.Dec.{lit<, eqb, ltb}
use lib.IntN.{nat_abs}
use lib.ListN.{length, get_or}
use borrow.Author.Tests.{ne_eqb, ltb-false}
use Rattle.std.specs.Prelude.{replicate, take, IsUtf8, IsAscii, Some, None}
use Rattle.std.specs.Option.{unwrap_or}
use Rattle.std.specs.List.{position_or_len}
use Rattle.std.specs.Int.{w64, to_le_bytes, from_le_bytes}
use Rattle.std.proofs.Math.Seq.{take-append_seam}
use Rattle.std.proofs.lemmas.List.{length-append, length-replicate}
use Rattle.std.proofs.lemmas.List.Recursion.{is_position_or_len}
use Rattle.std.proofs.lemmas.Nat.{le_bytes_8}
use Rattle.std.proofs.lemmas.Str.{IsUtf8-from_ascii}
use Rattle.glass.specs.Pictures.{Digit, Numerals}
use Rattle.glass.specs.Drawing.{fewest, digits_of, is_negative, fits, fitting, point_at}
use Rattle.glass.specs.Text.{packed, spelt, written, text_of}
use Rattle.glass.specs.Walk.{place_in}
use Rattle.glass.specs.declared.Reading.{Reading}
use Rattle.glass.specs.declared.Reading.TheVariants.{Dark, Number}
use Rattle.glass.proofs.Laws.{numerals-of}
use Rattle.glass.proofs.Rows.{fits_under}

-- ---- the number

-- a point before the text
dotted : (b : Bool) (s : List ℕ) → packed (cond b (46 ∷ []) [] ++ s) ≡ cond b (46 + 256 * packed s) (packed s)
dotted true s = refl
dotted false s = refl

pub more : (size count after t k q : ℕ) (p : Bool) → k ≡ size / 10 ^ after % 10 → p ≡ point_at after count → t ≡ packed (spelt (digits_of after size count))
    → q ≡ 48 + k + 256 * cond p (46 + 256 * t) t → q ≡ packed (spelt (digits_of (suc after) size count))
more size count after t k q p e f g h = h ∙ rw (e, f, g) (ap (λ (x : ℕ). 48 + size / 10 ^ after % 10 + 256 * x) (sym (dotted (point_at after count) (spelt (digits_of after size count)))))

-- a turn adds two characters at most
pub wider : (t k q after : ℕ) (p : Bool) → t < 65536 ^ after → k < 10 → q ≡ 48 + k + 256 * cond p (46 + 256 * t) t → q < 65536 ^ suc after
wider t k q after p h n e = rw (pow-suc 65536 after) (go (65536 ^ after) p h e)
  where
    go : (x : ℕ) (b : Bool) → t < x → q ≡ 48 + k + 256 * cond b (46 + 256 * t) t → q < x * 65536
    go x true i f = omega (arith, i, n, f)
    go x false i f = omega (arith, i, n, f)

pub narrow : (t after n : ℕ) → after ≤ n → t < 65536 ^ after → t < 65536 ^ n
narrow t after n h k = let a : 65536 ^ after ≤ 65536 ^ n = pow-le-pow_right (lit< tt) h in omega (arith, a, k)

-- with a minus there are three digits at most
pub short : (minus : Bool) (n t : ℕ) → fits minus n ≡ true → minus ≡ true → t < 65536 ^ n → t < 281474976710656
short minus n t f m h =
    let k : n + cond true 1 0 ≤ 4 = fits_under true n (ap (λ (b : Bool). fits b n) (sym m) ∙ f) in
    narrow t n 3 (omega (arith, k)) h

-- ---- its bytes

-- each character is one byte, below 128, and none is 0
abbrev pub Characters : List ℕ → Type 0
Characters [] = Unit {0}
Characters (x ∷ xs) = ((0 < x) × (x < 128)) × Characters xs

digits-characters : (ds : List Digit) → Numerals ds → Characters (spelt ds)
digits-characters [] ns = tt
digits-characters (d ∷ ds) ns = let h = ns.0 in ((omega arith, omega (arith, h)), go d.pointed (digits-characters ds ns.1))
  where
    go : (b : Bool) → Characters (spelt ds) → Characters (cond b (46 ∷ []) [] ++ spelt ds)
    go true k = ((omega arith, omega arith), k)
    go false k = k

pub written-characters : (r : Reading) → Characters (written r)
written-characters Dark = ((omega arith, omega arith), ((omega arith, omega arith), ((omega arith, omega arith), ((omega arith, omega arith), tt))))
written-characters (Number v c) = go (is_negative v) (digits-characters (digits_of (fewest (nat_abs v) c) (nat_abs v) c) (numerals-of (fewest (nat_abs v) c) (nat_abs v) c))
  where
    go : (b : Bool) → Characters (spelt (digits_of (fewest (nat_abs v) c) (nat_abs v) c)) → Characters (cond b (45 ∷ []) [] ++ spelt (digits_of (fewest (nat_abs v) c) (nat_abs v) c))
    go true k = ((omega arith, omega arith), k)
    go false k = k

digits-length : (n size count : ℕ) → length (spelt (digits_of n size count)) ≤ 2 * n
digits-length zero size count = omega arith
digits-length (suc n) size count = go (point_at n count) (digits-length n size count)
  where
    go : (b : Bool) → length (spelt (digits_of n size count)) ≤ 2 * n → suc (length (cond b (46 ∷ []) [] ++ spelt (digits_of n size count))) ≤ 2 * suc n
    go true h = omega (arith, h)
    go false h = omega (arith, h)

written-length : (r : Reading) → fitting r ≡ true → length (written r) ≤ 8
written-length Dark f = omega arith
written-length (Number v c) f = go (is_negative v) (fewest (nat_abs v) c) (fits_under (is_negative v) (fewest (nat_abs v) c) f)
  where
    go : (b : Bool) (n : ℕ) → n + cond b 1 0 ≤ 4 → length (cond b (45 ∷ []) [] ++ spelt (digits_of n (nat_abs v) c)) ≤ 8
    go true n h = let k = digits-length n (nat_abs v) c in omega (arith, h, k)
    go false n h = let k = digits-length n (nat_abs v) c in omega (arith, h, k)

-- what holds of every text
pub record Eight (s : List ℕ) : Type 0 where
  pub room : length s ≤ 8
  pub characters : Characters s

pub text-eight : (r : Reading) → Eight (text_of r)
unfolding text_of
text-eight r = go (fitting r) refl
  where
    go : (b : Bool) → fitting r ≡ b → Eight (cond b (written r) [])
    go true e = record { room = written-length r e; characters = written-characters r }
    go false e = record { room = omega arith; characters = tt }

zeros : (k : ℕ) → packed (replicate k 0) ≡ 0
zeros zero = refl
zeros (suc k) = let h = zeros k in omega (arith, h)

padded : (s : List ℕ) (k : ℕ) → packed (s ++ replicate k 0) ≡ packed s
padded [] k = zeros k
padded (x ∷ s) k = ap (λ (n : ℕ). x + 256 * n) (padded s k)

same-number : (s : List ℕ) → length s ≡ 8 → packed s ≡ from_le_bytes w64 s
same-number [] e = absurd (omega (arith, e))
same-number (a ∷ []) e = absurd (omega (arith, e))
same-number (a ∷ b ∷ []) e = absurd (omega (arith, e))
same-number (a ∷ b ∷ c ∷ []) e = absurd (omega (arith, e))
same-number (a ∷ b ∷ c ∷ d ∷ []) e = absurd (omega (arith, e))
same-number (a ∷ b ∷ c ∷ d ∷ f ∷ []) e = absurd (omega (arith, e))
same-number (a ∷ b ∷ c ∷ d ∷ f ∷ g ∷ []) e = absurd (omega (arith, e))
same-number (a ∷ b ∷ c ∷ d ∷ f ∷ g ∷ h ∷ []) e = absurd (omega (arith, e))
same-number (a ∷ b ∷ c ∷ d ∷ f ∷ g ∷ h ∷ i ∷ []) e = omega arith
same-number (a ∷ b ∷ c ∷ d ∷ f ∷ g ∷ h ∷ i ∷ j ∷ s) e = absurd (omega (arith, e))

small : (s : List ℕ) (k i : ℕ) → Characters s → get_or (s ++ replicate k 0) i 0 < 128
small [] zero i h = omega arith
small [] (suc k) zero h = omega arith
small [] (suc k) (suc i) h = small [] k i h
small (x ∷ s) k zero h = h.0.1
small (x ∷ s) k (suc i) h = small s k i h.1

pub bytes : (s : List ℕ) → Eight s → to_le_bytes w64 (packed s) ≡ s ++ replicate (8 - length s) 0
bytes s h =
    let n : length (s ++ replicate (8 - length s) 0) ≡ 8 = let r = h.room in omega (arith, r, length-append s (replicate (8 - length s) 0), length-replicate {A = ℕ} (8 - length s) 0) in
    le_bytes_8 (s ++ replicate (8 - length s) 0) (packed s) n (λ i. let k = small s (8 - length s) i h.characters in omega (arith, k))
    (sym (padded s (8 - length s)) ∙ same-number (s ++ replicate (8 - length s) 0) n)

-- they end before the first 0
ends : (s : List ℕ) (k : ℕ) → Characters s → place_in (s ++ replicate k 0) 0 ≡ length s
ends [] zero h = refl
ends [] (suc k) h = refl
ends (x ∷ s) k h = ap (λ (b : Bool). cond b 0 (suc (place_in (s ++ replicate k 0) 0))) (ne_eqb 0 x (λ z. let p = h.0.0 in omega (arith, p, z))) ∙ ap suc (ends s k h.1)

ascii : (s : List ℕ) → Characters s → IsAscii s
ascii [] h i = omega arith
ascii (x ∷ s) h zero = h.0.1
ascii (x ∷ s) h (suc i) = ascii s h.1 i

pub before-0 : (s b : List ℕ) → Eight s → b ≡ to_le_bytes w64 (packed s) → take (place_in b 0) b ≡ s
before-0 s b h e =
    rw (e ∙ bytes s h) (ap (λ (n : ℕ). take n (s ++ replicate (8 - length s) 0)) (ends s (8 - length s) h.characters) ∙ take-append_seam s (replicate (8 - length s) 0))

pub is-utf8 : (s : List ℕ) → Eight s → IsUtf8 s
is-utf8 s h = IsUtf8-from_ascii s (ascii s h.characters)

-- where they end is what a search for the first 0 finds
pub first-0 : (l : List ℕ) (n : ℕ) → length l ≡ n
    → unwrap_or (cond (ltb (position_or_len (λ (y : ℕ). eqb 0 y) l) (length l)) (Some (position_or_len (λ (y : ℕ). eqb 0 y) l)) None) n ≡ place_in l 0
first-0 l n e =
    rw (sym (is_position_or_len (λ (s : List ℕ). place_in s 0) (λ (y : ℕ). eqb 0 y) refl step l))
    (at (place_in l 0) (ltb (place_in l 0) (length l)) refl (inside l))
  where
    step : (x : ℕ) (s : List ℕ) → place_in (x ∷ s) 0 ≡ cond (eqb 0 x) 0 (1 + place_in s 0)
    step x s = ap (cond (eqb 0 x) 0) (let e : suc (place_in s 0) ≡ 1 + place_in s 0 = omega arith in e)

    turn : (b : Bool) (m k : ℕ) → m ≤ k → cond b 0 (suc m) ≤ suc k
    turn true m k h = omega arith
    turn false m k h = omega (arith, h)

    inside : (s : List ℕ) → place_in s 0 ≤ length s
    inside [] = omega arith
    inside (x ∷ s) = turn (eqb 0 x) (place_in s 0) (length s) (inside s)

    at : (p : ℕ) (b : Bool) → ltb p (length l) ≡ b → p ≤ length l → unwrap_or (cond b (Some p) None) n ≡ p
    at p true f h = refl
    at p false f h = let k = ltb-false p (length l) f in omega (arith, k, h, e)

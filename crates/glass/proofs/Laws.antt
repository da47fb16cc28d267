-- A picture has one answer, and reading and drawing are inverse where a reading fits. Digits of a number's size have that size (`whole_of`), and the point
-- stands where the count says (`places_of`). Assumes nothing.
use Prim.Native.Nat.{ℕ, zero, suc, ◌+◌, ◌*◌, ◌-◌, ◌/◌, ◌%◌, ◌^◌, ◌<◌, ◌≤◌}
use native.Mathlib.Nat.{add-mul, add-mul-mod_self_left, div-add-mod, mod-eq_of_lt, mod-lt, mul_assoc, mul_comm, mul-le-mul_right, one-le-pow, pow-le-pow_right, pow-suc}
use native.Mathlib.Omega.{arith}
use mathlib.Core.Path.{◌≡◌, refl, sym, ap, ap₂, ◌∙◌, subst}
use mathlib.Core.Bool.{Bool, true, false, not, cond, ◌&&◌}
use mathlib.Core.List.{List, [], ◌∷◌, ◌++◌, map}
use lib.Dec.{eqb, ltb, lit<}
use lib.ListN.{length, replicate, length-append, length-map, length-replicate}
use lib.IntN.{ℤ, pos, negsuc, neg_ℤ, nat_abs}
use borrow.Author.Tests.{ltb-true, ltb-false, eqb-true, eqb-false, eq-eqb, ne_eqb, lt-ltb, le-leb}
use Rattle.std.specs.Prelude.{Ok, Err}
use Rattle.glass.specs.Shapes.{Cell, glass, blank, hyphen, shape, cells, nibbles}
use Rattle.glass.specs.Pictures.{Digit, lit, laid, Numerals, points, whole, after_point, signed, Numbered, Reads}
use Rattle.glass.specs.Reading.{Seen, Leftmost, all_nibbles, SeenAnswers, SeenDetermined}
use Rattle.glass.specs.Drawing.{enough, first_enough, fewest, digits_of, is_negative, width, fits, drawn_number, fitting, drawn, drawing, drawn_over}
use Rattle.glass.specs.Walk.{code_of, shown_as, reading_of}
use Rattle.glass.specs.Laws.{UsualShapes, ReadsBack, DrawsAgain, OnNoPicture, FewestDigits, MinusZero}
use Rattle.glass.specs.declared.Reading.{Reading}
use Rattle.glass.specs.declared.Reading.TheVariants.{Dark, Number}
use Rattle.glass.specs.declared.Unseen.TheVariants.{BadLength, BadNibble, Unreadable}
use Rattle.glass.proofs.Cells.{small, no-point}
use Rattle.glass.proofs.Marks.{Nibbles, mark-found}
use Rattle.glass.proofs.Pairs.{cells-length}
use Rattle.glass.proofs.Digits.{whole-under, places-under, no-places}
use Rattle.glass.proofs.Complete.{complete}
use Rattle.glass.proofs.Walks.{Small}
use Rattle.glass.proofs.Rows.{some-digit, fits_under}

-- ---- one answer

-- a picture has one reading
one-reading : (p : List Cell) (r t : Reading) → Reads p r → Reads p t → r ≡ t
one-reading p r t a b =
    let x = complete p r a in
    let y = complete p t b in
    sym x.reading ∙ ap reading_of (let e = sym x.ends ∙ y.ends in cc) ∙ y.reading

-- a valid picture has no wrong digit
none-wrong : (p : List Cell) (r : Reading) (k : ℕ) → Reads p r → Leftmost p k → ⊥
none-wrong p r k a l = l.wrong (record { other = p; size = refl; same = refl; valid = (r, a) })

one-leftmost : (p : List Cell) (j k : ℕ) → Leftmost p j → Leftmost p k → j ≡ k
one-leftmost p j k a b = go (ltb j k) (ltb k j) refl refl
  where
    go : (x y : Bool) → ltb j k ≡ x → ltb k j ≡ y → j ≡ k
    go true y e f = absurd (b.first j (ltb-true j k e) a.wrong)
    go false true e f = absurd (a.first k (ltb-true k j f) b.wrong)
    go false false e f = let h = ltb-false j k e in let i = ltb-false k j f in omega (arith, h, i)

pub true-false : (b : Bool) → b ≡ true → b ≡ false → ⊥
true-false true e f = cc
true-false false e f = cc

pub seen-determined : SeenDetermined
seen-determined s (Ok r) (Ok t) a b = ap {B = Seen} Ok (one-reading (cells s) r t a.1 b.1)
seen-determined s (Ok r) (Err BadLength) a b = absurd (b a.0.0)
seen-determined s (Ok r) (Err BadNibble) a b = absurd (true-false (all_nibbles s) a.0.1 b.1)
seen-determined s (Ok r) (Err (Unreadable k)) a b = absurd (none-wrong (cells s) r k a.1 b.1)
seen-determined s (Err BadLength) (Ok t) a b = absurd (a b.0.0)
seen-determined s (Err BadLength) (Err BadLength) a b = refl
seen-determined s (Err BadLength) (Err BadNibble) a b = absurd (a b.0)
seen-determined s (Err BadLength) (Err (Unreadable k)) a b = absurd (a b.0.0)
seen-determined s (Err BadNibble) (Ok t) a b = absurd (true-false (all_nibbles s) b.0.1 a.1)
seen-determined s (Err BadNibble) (Err BadLength) a b = absurd (b a.0)
seen-determined s (Err BadNibble) (Err BadNibble) a b = refl
seen-determined s (Err BadNibble) (Err (Unreadable k)) a b = absurd (true-false (all_nibbles s) b.0.1 a.1)
seen-determined s (Err (Unreadable j)) (Ok t) a b = absurd (none-wrong (cells s) t j b.1 a.1)
seen-determined s (Err (Unreadable j)) (Err BadLength) a b = absurd (b a.0.0)
seen-determined s (Err (Unreadable j)) (Err BadNibble) a b = absurd (true-false (all_nibbles s) a.0.1 b.1)
seen-determined s (Err (Unreadable j)) (Err (Unreadable k)) a b = ap {B = Seen} (λ (k : ℕ). Err (Unreadable k)) (one-leftmost (cells s) j k a.1 b.1)

-- ---- the digits of a number

length-of : (n size count : ℕ) → length (digits_of n size count) ≡ n
length-of zero size count = refl
length-of (suc n) size count = ap suc (length-of n size count)

pub numerals-of : (n size count : ℕ) → Numerals (digits_of n size count)
numerals-of zero size count = tt
numerals-of (suc n) size count = (mod-lt (size / 10 ^ n) (lit< tt), numerals-of n size count)

-- a digit more: the remainder by ten times x
ten-more : (s x : ℕ) → 0 < x → s / x % 10 * x + s % x ≡ s % (x * 10)
ten-more s x h =
    let q : ℕ = s / x in
    let low : ℕ = q % 10 * x + s % x in
    let a : q % 10 * x ≤ 9 * x = mul-le-mul_right x (let k = mod-lt q {m = 10} (lit< tt) in omega (arith, k)) in
    let b : s % x < x = mod-lt s h in
    let under : low < x * 10 = omega (arith, a, b) in
    let c : q * x ≡ (10 * (q / 10) + q % 10) * x = ap (λ (k : ℕ). k * x) (sym (div-add-mod q 10)) in
    let d : (10 * (q / 10) + q % 10) * x ≡ 10 * (q / 10) * x + q % 10 * x = add-mul (10 * (q / 10)) (q % 10) x in
    let e : 10 * (q / 10) * x ≡ x * 10 * (q / 10) = mul_comm (10 * (q / 10)) x ∙ sym (mul_assoc x 10 (q / 10)) in
    let f : x * q ≡ q * x = mul_comm x q in
    let g : s ≡ low + x * 10 * (q / 10) = sym (div-add-mod s x) ∙ omega (arith, c, d, e, f) in
    sym (ap (λ (k : ℕ). k % (x * 10)) g ∙ add-mul-mod_self_left low (x * 10) (q / 10) ∙ mod-eq_of_lt under)

whole_of : (n size count : ℕ) → whole (digits_of n size count) ≡ size % 10 ^ n
whole_of zero size count = omega arith
whole_of (suc n) size count =
    ap₂ (λ (k w : ℕ). size / 10 ^ n % 10 * 10 ^ k + w) (length-of n size count) (whole_of n size count)
    ∙ ten-more size (10 ^ n) (one-le-pow n 10 (lit< tt)) ∙ ap (λ (x : ℕ). size % x) (sym (pow-suc 10 n))

not-below : (n count : ℕ) → n < count → eqb n count && not (eqb count 0) ≡ false
not-below n count h = ap (λ (b : Bool). b && not (eqb count 0)) (ne_eqb n count (λ e. absurd (omega (arith, e, h))))

no-points : (n size count : ℕ) → n ≤ count → points (digits_of n size count) ≡ 0
no-points zero size count h = refl
no-points (suc n) size count h = ap₂ (λ (b : Bool) (k : ℕ). cond b 1 0 + k) (not-below n count h) (no-points n size count (omega (arith, h)))

points-of : (n size count : ℕ) → points (digits_of n size count) ≤ 1
points-of zero size count = omega arith
points-of (suc n) size count = go (eqb n count) refl (points-of n size count) (no-points n size count)
  where
    one : (b : Bool) (k : ℕ) → k ≡ 0 → cond b 1 0 + k ≤ 1
    one true k e = omega (arith, e)
    one false k e = omega (arith, e)

    go : (b : Bool) → eqb n count ≡ b → points (digits_of n size count) ≤ 1 → (n ≤ count → points (digits_of n size count) ≡ 0) → cond (b && not (eqb count 0)) 1 0 + points (digits_of n size count) ≤ 1
    go true e h z = let k = eqb-true n count e in one (not (eqb count 0)) (points (digits_of n size count)) (z (omega (arith, k)))
    go false e h z = omega (arith, h)

places_of : (n size count : ℕ) → count < n → after_point (digits_of n size count) ≡ count
places_of zero size count h = absurd (omega (arith, h))
places_of (suc n) size count h = go (eqb n count) (eqb count 0) refl refl (length-of n size count) (places_of n size count)
  where
    go : (b z : Bool) → eqb n count ≡ b → eqb count 0 ≡ z → length (digits_of n size count) ≡ n → (count < n → after_point (digits_of n size count) ≡ count)
        → cond (b && not z) (length (digits_of n size count)) (after_point (digits_of n size count)) ≡ count
    go true true e f l r =
        let k = eqb-true n count e in
        let o = eqb-true count 0 f in
        no-places (digits_of n size count) (no-points n size count (omega (arith, k))) ∙ sym o
    go true false e f l r = let k = eqb-true n count e in l ∙ k
    go false z e f l r = let k = eqb-false n count e in r (omega (arith, k, h))

-- ---- the fewest digits

-- what is answered before the end is enough
first_holds : (size count more n : ℕ) → first_enough size count more n < n + more → enough size count (first_enough size count more n) ≡ true
first_holds size count zero n h = absurd (omega (arith, h))
first_holds size count (suc more) n h = go (enough size count n) refl h (first_holds size count more (suc n))
  where
    go : (b : Bool) → enough size count n ≡ b → cond b n (first_enough size count more (suc n)) < n + suc more
        → (first_enough size count more (suc n) < suc n + more → enough size count (first_enough size count more (suc n)) ≡ true)
        → enough size count (cond b n (first_enough size count more (suc n))) ≡ true
    go true e h r = e
    go false e h r = r (omega (arith, h))

-- and nothing less is
first-least : (size count more n m : ℕ) → n ≤ m → m < n + more → enough size count m ≡ true → first_enough size count more n ≤ m
first-least size count zero n m l h e = absurd (omega (arith, l, h))
first-least size count (suc more) n m l h e = go (enough size count n) refl (first-least size count more (suc n) m)
  where
    go : (b : Bool) → enough size count n ≡ b → (suc n ≤ m → m < suc n + more → enough size count m ≡ true → first_enough size count more (suc n) ≤ m)
        → cond b n (first_enough size count more (suc n)) ≤ m
    go true k r = l
    go false k r =
        let d : n ≡ m → ⊥ = λ q. true-false (enough size count m) e (ap (enough size count) (sym q) ∙ k) in
        r (omega (arith, l, d)) (omega (arith, h)) e

and_both : (a b : Bool) → a && b ≡ true → (a ≡ true) × (b ≡ true)
and_both true b e = (refl, e)
and_both false b e = absurd cc

enough-means : (size count n : ℕ) → enough size count n ≡ true → (size < 10 ^ n) × (count < n)
enough-means size count n e =
    let b = and_both (ltb size (10 ^ n)) (ltb count n) e in
    (ltb-true size (10 ^ n) b.0, ltb-true count n b.1)

means-enough : (size count n : ℕ) → size < 10 ^ n → count < n → enough size count n ≡ true
means-enough size count n h k = ap₂ (λ (a b : Bool). a && b) (lt-ltb size (10 ^ n) h) (lt-ltb count n k)

size-signed : (m : Bool) (n : ℕ) → nat_abs (signed m n) ≡ n
size-signed true zero = refl
size-signed true (suc n) = refl
size-signed false n = refl

length-laid : (b : ℕ) (m : Bool) (ds : List Digit) → length (laid b m ds) ≡ b + (cond m 1 0 + length ds)
length-laid b m ds =
    length-append (replicate b blank) (cond m (hyphen ∷ []) [] ++ map lit ds)
    ∙ ap₂ (λ (i j : ℕ). i + j) (length-replicate b blank)
    (length-append (cond m (hyphen ∷ []) []) (map lit ds) ∙ ap₂ (λ (i j : ℕ). i + j) (sign m) (length-map ds lit))
  where
    sign : (m : Bool) → length (cond m (hyphen ∷ []) []) ≡ cond m 1 0
    sign true = refl
    sign false = refl

pub fewest-digits : FewestDigits
fewest-digits p value count n l =
    let ds = n.digits in
    let a : nat_abs value ≡ whole ds = ap nat_abs n.valued ∙ size-signed n.minus (whole ds) in
    let w = whole-under ds n.numerals in
    let c = n.counted in
    let k = places-under ds n.some in
    let t = sym (length-laid n.blanks n.minus ds) ∙ sym (ap length n.parts) ∙ l in
    let i = n.some in
    first-least (nat_abs value) count 4 1 (length ds) (omega (arith, i)) (omega (arith, t))
    (means-enough (nat_abs value) count (length ds) (omega (arith, a, w)) (omega (arith, c, k)))

-- ---- drawn and read back

pub signed-size : (v : ℤ) → v ≡ signed (is_negative v) (nat_abs v)
signed-size (pos n) = refl
signed-size (negsuc n) = refl

-- what the drawn digits show
drawn-enough : (v : ℤ) (c : ℕ) → fits (is_negative v) (fewest (nat_abs v) c) ≡ true → (nat_abs v < 10 ^ fewest (nat_abs v) c) × (c < fewest (nat_abs v) c)
drawn-enough v c f =
    let u = fits_under (is_negative v) (fewest (nat_abs v) c) f in
    enough-means (nat_abs v) c (fewest (nat_abs v) c) (first_holds (nat_abs v) c 4 1 (omega (arith, u)))

pub drawn-size : (v : ℤ) (c : ℕ) → fits (is_negative v) (fewest (nat_abs v) c) ≡ true → whole (digits_of (fewest (nat_abs v) c) (nat_abs v) c) ≡ nat_abs v
drawn-size v c f = whole_of (fewest (nat_abs v) c) (nat_abs v) c ∙ mod-eq_of_lt (drawn-enough v c f).0

pub drawn-count : (v : ℤ) (c : ℕ) → fits (is_negative v) (fewest (nat_abs v) c) ≡ true → after_point (digits_of (fewest (nat_abs v) c) (nat_abs v) c) ≡ c
drawn-count v c f = places_of (fewest (nat_abs v) c) (nat_abs v) c (drawn-enough v c f).1

read_number : (v : ℤ) (c : ℕ) → fits (is_negative v) (fewest (nat_abs v) c) ≡ true → Numbered (drawn_number v c) v c
read_number v c f =
    let n : ℕ = fewest (nat_abs v) c in
    let ds : List Digit = digits_of n (nat_abs v) c in
    record {
      blanks = glass - width (is_negative v) (length ds);
      minus = is_negative v;
      digits = ds;
      some = let l = length-of n (nat_abs v) c in let s = some-digit (nat_abs v) c in omega (arith, l, s);
      numerals = numerals-of n (nat_abs v) c;
      one-point = points-of n (nat_abs v) c;
      parts = refl;
      valued = signed-size v ∙ ap (signed (is_negative v)) (sym (drawn-size v c f));
      counted = sym (drawn-count v c f);
    }

back : (cs : List Cell) → cells (nibbles cs) ≡ cs
back [] = refl
back (c ∷ cs) = ap {B = List Cell} (λ (s : List Cell). c ∷ s) (back cs)

length-nibbles : (cs : List Cell) → length (nibbles cs) ≡ length cs * 2
length-nibbles [] = refl
length-nibbles (c ∷ cs) = let h = length-nibbles cs in omega (arith, h)

-- every cell of a picture of a number is two nibbles
small-lit : (d : Digit) → Nibbles (lit d)
small-lit d = record { first = small d.numeral; second = go d.pointed (no-point d.numeral) }
  where
    go : (b : Bool) → (shape d.numeral).efgp < 8 → (shape d.numeral).efgp + cond b 8 0 < 16
    go true h = omega (arith, h)
    go false h = omega (arith, h)

small-digits : (ds : List Digit) → Small (map lit ds)
small-digits [] = tt
small-digits (d ∷ ds) = (small-lit d, small-digits ds)

small-blanks : (n : ℕ) (rest : List Cell) → Small rest → Small (replicate n blank ++ rest)
small-blanks zero rest h = h
small-blanks (suc n) rest h = (record { first = lit< tt; second = lit< tt }, small-blanks n rest h)

small_signed : (m : Bool) (rest : List Cell) → Small rest → Small (cond m (hyphen ∷ []) [] ++ rest)
small_signed true rest h = (record { first = lit< tt; second = lit< tt }, h)
small_signed false rest h = h

small-laid : (b : ℕ) (m : Bool) (ds : List Digit) → Small (laid b m ds)
small-laid b m ds = small-blanks b (cond m (hyphen ∷ []) [] ++ map lit ds) (small_signed m (map lit ds) (small-digits ds))

in-range : (cs : List Cell) → Small cs → all_nibbles (nibbles cs) ≡ true
unfolding all_nibbles
in-range [] h = refl
in-range (c ∷ cs) h = rw (lt-ltb c.abcd 16 h.0.first, lt-ltb c.efgp 16 h.0.second) (in-range cs h.1)

length-drawn : (v : ℤ) (c : ℕ) → fits (is_negative v) (fewest (nat_abs v) c) ≡ true → length (drawn_number v c) ≡ 4
length-drawn v c f =
    let n : ℕ = fewest (nat_abs v) c in
    let u = fits_under (is_negative v) n f in
    let l = length-of n (nat_abs v) c in
    length-laid (glass - width (is_negative v) (length (digits_of n (nat_abs v) c))) (is_negative v) (digits_of n (nat_abs v) c) ∙ omega (arith, u, l)

back-again : (r : Reading) → fitting r ≡ true → SeenAnswers (nibbles (drawn r)) (Ok r)
unfolding all_nibbles
back-again Dark f = ((refl, refl), refl)
back-again (Number v c) f =
    let p : List Cell = drawn_number v c in
    let l = length-nibbles p in
    let k = length-drawn v c f in (
      (omega (arith, l, k), in-range p (small-laid (glass - width (is_negative v) (length (digits_of (fewest (nat_abs v) c) (nat_abs v) c))) (is_negative v) (digits_of (fewest (nat_abs v) c) (nat_abs v) c))),
      subst (λ (q : List Cell). Numbered q v c) (sym (back p)) (read_number v c f),
    )

-- what is drawn, by the two tests
pub reads-back : ReadsBack
unfolding drawn_over
reads-back r old e = go (eqb (length old) 8) (fitting r) refl e
  where
    go : (a b : Bool) → fitting r ≡ b → (cond a (cond b (drawing 0 0 (nibbles (drawn r))) (drawing 16 0 old)) (drawing 2 0 old)).refusal ≡ 0
        → SeenAnswers (cond a (cond b (drawing 0 0 (nibbles (drawn r))) (drawing 16 0 old)) (drawing 2 0 old)).picture (Ok r)
    go true true f e = back-again r f
    go true false f e = absurd (omega (arith, e))
    go false b f e = absurd (omega (arith, e))

-- a negative number was read behind a minus
minus-taken : (v : ℤ) (m : Bool) (w : ℕ) → v ≡ signed m w → cond (is_negative v) 1 0 ≤ cond m 1 0
minus-taken v m w e = rw e (go m w)
  where
    at_most : (b : Bool) → cond b 1 0 ≤ 1
    at_most true = omega arith
    at_most false = omega arith

    go : (m : Bool) (w : ℕ) → cond (is_negative (signed m w)) 1 0 ≤ cond m 1 0
    go true w = at_most (is_negative (neg_ℤ (pos w)))
    go false w = omega arith

fits-again : (s : List ℕ) (r : Reading) → SeenAnswers s (Ok r) → fitting r ≡ true
fits-again s Dark a = refl
fits-again s (Number v c) a =
    let n = a.1 in
    let l = cells-length s 4 a.0.0 in
    let h = fewest-digits (cells s) v c n l in
    let m = minus-taken v n.minus (whole n.digits) n.valued in
    let t = sym (length-laid n.blanks n.minus n.digits) ∙ sym (ap length n.parts) ∙ l in
    le-leb (width (is_negative v) (fewest (nat_abs v) c)) 4 (omega (arith, h, m, t))

pub draws-again : DrawsAgain
unfolding drawn_over
draws-again s old r a l =
    let f = fits-again s r a in
    rw (eq-eqb (length old) 8 l, f) (back-again r f)

pub on-no-picture : OnNoPicture
unfolding drawn_over
on-no-picture s old r e a = go (eqb (length old) 8) (fitting r) (fits-again s r a) e
  where
    go : (x y : Bool) → y ≡ true → (cond x (cond y (drawing 0 0 (nibbles (drawn r))) (drawing 16 0 old)) (drawing 2 0 old)).refusal ≡ 16 → ⊥
    go true true f e = omega (arith, e)
    go true false f e = true-false false f refl
    go false y f e = omega (arith, e)

pub minus-zero : MinusZero
minus-zero s blanks digits p e some ns one z = (
  p,
  record {
    blanks = blanks;
    minus = true;
    digits = digits;
    some = some;
    numerals = ns;
    one-point = one;
    parts = e;
    valued = ap (signed true) (sym z);
    counted = refl;
  },
)

-- the shapes are told apart by what the reader makes of them
pub usual-shapes : UsualShapes
usual-shapes =
    record {
      six = refl;
      seven = refl;
      nine = refl;
      apart = λ i j h k e. sym (mark-found i h) ∙ ap (λ (c : Cell). shown_as (code_of c)) e ∙ mark-found j k;
    }

-- what a picture shows is small
pub shown-under : (s : List ℕ) (v : ℤ) (c : ℕ) → SeenAnswers s (Ok (Number v c)) → (nat_abs v < 10000) × (c < 4)
shown-under s v c a =
    let n = a.1 in
    let ds = n.digits in
    let l = cells-length s 4 a.0.0 in
    let t = sym (length-laid n.blanks n.minus ds) ∙ sym (ap length n.parts) ∙ l in
    let e : nat_abs v ≡ whole ds = ap nat_abs n.valued ∙ size-signed n.minus (whole ds) in
    let w = whole-under ds n.numerals in
    let d : length ds ≤ 4 = omega (arith, t) in
    let p : 10 ^ length ds ≤ 10 ^ 4 = pow-le-pow_right (lit< tt) d in
    let i = n.counted in
    let k = places-under ds n.some in
    (omega (arith, e, w, p), omega (arith, i, k, d))

pub unreadable-under : (s : List ℕ) (k : ℕ) → SeenAnswers s (Err (Unreadable k)) → k < 4
unreadable-under s k a = let h = a.1.inside in let l = cells-length s 4 a.0.0 in omega (arith, h, l)

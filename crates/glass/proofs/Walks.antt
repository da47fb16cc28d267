-- The reader's way over the digits of a picture. What it has read so far is always the front of a valid picture (`Came`), so that what it ends with is
-- the reading (`sound`). Assumes nothing.
use Prim.Native.Nat.{ℕ, suc, ◌+◌, ◌*◌, ◌^◌, ◌<◌, ◌≤◌}
use native.Mathlib.Nat.{pow-suc}
use native.Mathlib.Omega.{arith}
use mathlib.Core.Path.{◌≡◌, refl, sym, ap, ap₂, ◌∙◌, subst}
use mathlib.Core.Bool.{Bool, true, false, cond}
use mathlib.Core.List.{List, [], ◌∷◌, ◌++◌, append-nil}
use lib.Dec.{eqb}
use lib.ListN.{length, replicate, length-replicate, replicate-append-replicate}
use lib.Seq.{append_snoc}
use borrow.Author.Tests.{eq-eqb, ne_eqb, eqb-true, eqb-false}
use Rattle.glass.specs.Shapes.{Cell, blank}
use Rattle.glass.specs.Pictures.{Digit, digit, lit, laid, Numerals, points, whole, after_point, signed, Reads}
use Rattle.std.specs.Prelude.{Option, Some, None}
use Rattle.glass.specs.Walk.{front, start, has_point, is_blank, numeral_taken, reading_of}
use Rattle.glass.specs.declared.Reading.TheVariants.{Dark, Number}
use Rattle.glass.specs.declared.read.Front.{Front}
use Rattle.glass.specs.declared.read.Stage.{Stage}
use Rattle.glass.specs.declared.read.Stage.TheVariants.{Blanks, Signed, Digits, Fraction}
use Rattle.glass.proofs.Marks.{Nibbles, next, Stepping, digit-more, blank-more, minus-more, none, view}
use Rattle.glass.proofs.Digits.{length-snoc, whole-snoc, points-snoc, places-snoc-none, places-snoc-one, numerals-snoc, laid-snoc}

-- where the reader ends: with what it has read, or at a digit
pub data Walked : Type 0 where
  ended : Front → Walked
  stopped : ℕ → Walked

abbrev pub later : Walked → Walked
later (ended f) = ended f
later (stopped k) = stopped (suc k)

abbrev pub empty : List Cell → Bool
empty [] = true
empty (c ∷ cs) = false

abbrev pub onward : Option Front → (Front → Walked) → Walked
onward (Some f) w = later (w f)
onward None w = stopped 0

abbrev pub walked : List Cell → Front → Walked
walked [] f = ended f
walked (c ∷ cs) f = onward (next f c (empty cs)) (walked cs)

later-ended : (w : Walked) {g : Front} → later w ≡ ended g → w ≡ ended g
later-ended (ended f) e = e
later-ended (stopped k) e = absurd cc

some_some : {f g : Front} → Some f ≡ Some g → f ≡ g
some_some e = cc

pub record Later (w : Walked) (k : ℕ) : Type 0 where
  pub before : ℕ
  pub stops : w ≡ stopped before
  pub next-to : k ≡ suc before

pub later-stopped : (w : Walked) {k : ℕ} → later w ≡ stopped k → Later w k
later-stopped (ended f) e = absurd cc
later-stopped (stopped j) e = record { before = j; stops = refl; next-to = cc }

-- ---- a numeral more

pub record Grown (f : Front) (n : ℕ) (p : Bool) (g : Front) : Type 0 where
  pub value : g.value ≡ f.value * 10 + n
  pub past : g.stage ≡ Signed → ⊥
  pub places : g.places ≤ f.places + 1

pub grown : (f : Front) (n : ℕ) (p : Bool) (g : Front) → Some g ≡ numeral_taken f n p → Grown f n p g
unfolding numeral_taken
grown f n p g e = go (has_point f.stage) p e
  where
    by : (h : Front) → Some g ≡ Some h → Grown f n p h → Grown f n p g
    by h k r = let q : h ≡ g = cc in subst (Grown f n p) q r

    go : (b q : Bool) → Some g ≡ cond b (cond q None (Some (front (f.value * 10 + n) Fraction f.minus (f.places + 1)))) (Some (front (f.value * 10 + n) (cond q Fraction Digits) f.minus 0)) → Grown f n p g
    go true true k = cc
    go true false k = by (front (f.value * 10 + n) Fraction f.minus (f.places + 1)) k (record { value = refl; past = λ x. cc; places = omega arith })
    go false true k = by (front (f.value * 10 + n) Fraction f.minus 0) k (record { value = refl; past = λ x. cc; places = omega arith })
    go false false k = by (front (f.value * 10 + n) Digits f.minus 0) k (record { value = refl; past = λ x. cc; places = omega arith })

-- the numbers stay small: so many digits hold a number below that power of 10
pub record Held (k : ℕ) (f : Front) : Type 0 where
  pub value : f.value < 10 ^ k
  pub places : f.places ≤ k

pub held_next : (k : ℕ) (f : Front) (c : Cell) (last : Bool) (g : Front) → Nibbles c → Held k f → next f c last ≡ Some g → Held (suc k) g
held_next k f c last g n h e = go (view f c last n)
  where
    more : (v w x m : ℕ) → m < 10 → v < x → w ≡ v * 10 + m → w < x * 10
    more v w x m a b d = omega (arith, a, b, d)

    go : Stepping f c last (next f c last) → Held (suc k) g
    go (digit-more m p a b d) =
        let t = grown f m p g (sym e ∙ d) in
        record { value = rw (pow-suc 10 k) (more f.value g.value (10 ^ k) m a h.value t.value); places = let u = t.places in let w = h.places in omega (arith, u, w) }
    go (blank-more b s d) =
        let q : g ≡ f = some_some (sym e ∙ d) in
        rw q (record { value = rw (pow-suc 10 k) (let v = h.value in omega (arith, v)); places = let w = h.places in omega (arith, w) })
    go (minus-more b s l d) =
        let q : g ≡ front 0 Signed true 0 = some_some (sym e ∙ d) in
        rw q (record { value = rw (pow-suc 10 k) (let v = h.value in omega (arith, v)); places = omega arith })
    go (none d) = cc

-- ---- what has been read is the front of a valid picture

-- what the reader holds after digits
abbrev stage_of : ℕ → Stage
stage_of n = cond (eqb n 0) Digits Fraction

abbrev pub after : Bool → List Digit → Front
after m ds = front (whole ds) (stage_of (points ds)) m (after_point ds)

-- digits are no blanks
not_blanks : {f : Front} (m : Bool) (ds : List Digit) → f ≡ after m ds → f.stage ≡ Blanks → ⊥
not_blanks m ds q s = go (eqb (points ds) 0) (sym s ∙ ap (λ (x : Front). x.stage) q)
  where
    go : (b : Bool) → Blanks ≡ cond b Digits Fraction → ⊥
    go true e = cc
    go false e = cc

stage-none : (n : ℕ) → n ≡ 0 → stage_of n ≡ Digits
stage-none n e = rw (eq-eqb n 0 e) refl

stage-one : (n : ℕ) → (n ≡ 0 → ⊥) → stage_of n ≡ Fraction
stage-one n e = rw (ne_eqb n 0 e) refl

alike : (m : Bool) (v c w u : ℕ) (s t : Stage) → v ≡ w → s ≡ t → c ≡ u → Some (front v s m c) ≡ Some (front w t m u)
alike m v c w u s t x y z = cc

-- a digit more is taken where no second point is lit
pub digit-on : (m : Bool) (ds : List Digit) (k : ℕ) (p : Bool) → points (ds ++ (digit k p ∷ [])) ≤ 1 → numeral_taken (after m ds) k p ≡ Some (after m (ds ++ (digit k p ∷ [])))
unfolding numeral_taken
digit-on m ds k p h = go (eqb (points ds) 0) p refl refl
  where
    n : ℕ
    n = points (ds ++ (digit k p ∷ []))

    go : (b q : Bool) → eqb (points ds) 0 ≡ b → p ≡ q
        → cond (has_point (cond b Digits Fraction)) (cond q None (Some (front (whole ds * 10 + k) Fraction m (after_point ds + 1)))) (Some (front (whole ds * 10 + k) (cond q Fraction Digits) m 0)) ≡ Some (after m (ds ++ (digit k p ∷ [])))
    go false true i j =
        let a = eqb-false (points ds) 0 i in
        let c : n ≡ points ds + 1 = points-snoc ds (digit k p) ∙ ap (λ (x : Bool). points ds + cond x 1 0) j in
        absurd (omega (arith, a, c, h))
    go false false i j =
        let a = eqb-false (points ds) 0 i in
        let c : n ≡ points ds + 0 = points-snoc ds (digit k p) ∙ ap (λ (x : Bool). points ds + cond x 1 0) j in
        alike m (whole ds * 10 + k) (after_point ds + 1) (whole (ds ++ (digit k p ∷ []))) (after_point (ds ++ (digit k p ∷ []))) Fraction (stage_of n)
        (sym (whole-snoc ds (digit k p))) (sym (stage-one n (λ z. omega (arith, a, c, z)))) (sym (places-snoc-one ds (digit k p) (omega (arith, a, c, h))))
    go true q i j =
        let a = eqb-true (points ds) 0 i in
        let c : n ≡ points ds + cond q 1 0 = points-snoc ds (digit k p) ∙ ap (λ (x : Bool). points ds + cond x 1 0) j in
        alike m (whole ds * 10 + k) 0 (whole (ds ++ (digit k p ∷ []))) (after_point (ds ++ (digit k p ∷ []))) (cond q Fraction Digits) (stage_of n)
        (sym (whole-snoc ds (digit k p))) (stage q n (omega (arith, a, c))) (sym (places-snoc-none ds (digit k p) a))
      where
        stage : (q : Bool) (x : ℕ) → x ≡ cond q 1 0 → cond q Fraction Digits ≡ stage_of x
        stage true x e = sym (stage-one x (λ z. omega (arith, e, z)))
        stage false x e = sym (stage-none x e)

-- a second point is not
digit-off : (m : Bool) (ds : List Digit) (k : ℕ) → points ds ≡ 1 → numeral_taken (after m ds) k true ≡ None
unfolding numeral_taken
digit-off m ds k h = rw (ne_eqb (points ds) 0 (λ z. omega (arith, h, z))) refl

pub data Came (done : List Cell) (f : Front) : Type 0 where
  by-blanks : (n : ℕ) → done ≡ replicate n blank → f ≡ start → Came done f
  by-minus : (n : ℕ) → done ≡ laid n true [] → f ≡ front 0 Signed true 0 → Came done f
  by_digits : (n : ℕ) (m : Bool) (ds : List Digit) → 0 < length ds → Numerals ds → points ds ≤ 1 → done ≡ laid n m ds → f ≡ after m ds → Came done f

-- a digit that the reader takes behind digits, or behind none
on-digit : (n : ℕ) (m : Bool) (ds : List Digit) (k : ℕ) (p : Bool) (done : List Cell) (g : Front) → Numerals ds → points ds ≤ 1 → k < 10
    → done ≡ laid n m ds ++ (lit (digit k p) ∷ []) → Some g ≡ numeral_taken (after m ds) k p → Came done g
on-digit n m ds k p done g ns one h e r = go (eqb (points ds) 1) p refl refl
  where
    put : points (ds ++ (digit k p ∷ [])) ≤ 1 → Came done g
    put o =
        by_digits n m (ds ++ (digit k p ∷ [])) (let l = length-snoc ds (digit k p) in omega (arith, l)) (numerals-snoc ds (digit k p) ns h) o
        (e ∙ laid-snoc n m ds (digit k p)) (some_some (r ∙ digit-on m ds k p o))

    go : (b q : Bool) → eqb (points ds) 1 ≡ b → p ≡ q → Came done g
    go true true i j = let e = r ∙ ap (λ (x : Bool). numeral_taken (after m ds) k x) j ∙ digit-off m ds k (eqb-true (points ds) 1 i) in cc
    go true false i j =
        let c : points (ds ++ (digit k p ∷ [])) ≡ points ds + 0 = points-snoc ds (digit k p) ∙ ap (λ (x : Bool). points ds + cond x 1 0) j in
        put (omega (arith, c, one))
    go false true i j =
        let a = eqb-false (points ds) 1 i in
        let c : points (ds ++ (digit k p ∷ [])) ≡ points ds + 1 = points-snoc ds (digit k p) ∙ ap (λ (x : Bool). points ds + cond x 1 0) j in
        put (omega (arith, a, c, one))
    go false false i j =
        let c : points (ds ++ (digit k p ∷ [])) ≡ points ds + 0 = points-snoc ds (digit k p) ∙ ap (λ (x : Bool). points ds + cond x 1 0) j in
        put (omega (arith, c, one))

-- blanks alone and a minus are as no digits yet
pub from_start : (k : ℕ) (p : Bool) → numeral_taken start k p ≡ numeral_taken (after false []) k p
unfolding numeral_taken
from_start k p = refl

pub from-minus : (k : ℕ) (p : Bool) → numeral_taken (front 0 Signed true 0) k p ≡ numeral_taken (after true []) k p
unfolding numeral_taken
from-minus k p = refl

blanks-laid : (n : ℕ) → replicate n blank ≡ laid n false []
blanks-laid n = sym (append-nil (replicate n blank))

pub came-next : (done : List Cell) (f : Front) (c : Cell) (last : Bool) (g : Front) → Nibbles c → Came done f → next f c last ≡ Some g → Came (done ++ (c ∷ [])) g
came-next done f c last g n ca e = go ca (view f c last n)
  where
    more : {x : List Cell} {y : Cell} → done ≡ x → c ≡ y → done ++ (c ∷ []) ≡ x ++ (y ∷ [])
    more a b = ap₂ (λ (s : List Cell) (k : Cell). s ++ (k ∷ [])) a b

    go : Came done f → Stepping f c last (next f c last) → Came (done ++ (c ∷ [])) g
    go (by-blanks i a q) (digit-more k p h b d) =
        on-digit i false [] k p (done ++ (c ∷ [])) g tt (omega arith) h (more (a ∙ blanks-laid i) b) (sym e ∙ d ∙ ap (λ (x : Front). numeral_taken x k p) q ∙ from_start k p)
    go (by-blanks i a q) (blank-more b s d) = by-blanks (i + 1) (more a b ∙ replicate-append-replicate i 1 blank) (some_some (sym e ∙ d) ∙ q)
    go (by-blanks i a q) (minus-more b s l d) = by-minus i (more a b) (some_some (sym e ∙ d))
    go (by-minus i a q) (digit-more k p h b d) =
        on-digit i true [] k p (done ++ (c ∷ [])) g tt (omega arith) h (more a b) (sym e ∙ d ∙ ap (λ (x : Front). numeral_taken x k p) q ∙ from-minus k p)
    go (by-minus i a q) (blank-more b s d) = absurd (let e = sym s ∙ ap (λ (x : Front). x.stage) q in cc)
    go (by-minus i a q) (minus-more b s l d) = absurd (let e = sym s ∙ ap (λ (x : Front). x.stage) q in cc)
    go (by_digits i m ds some ns one a q) (digit-more k p h b d) =
        on-digit i m ds k p (done ++ (c ∷ [])) g ns one h (more a b) (sym e ∙ d ∙ ap (λ (x : Front). numeral_taken x k p) q)
    go (by_digits i m ds some ns one a q) (blank-more b s d) = absurd (not_blanks m ds q s)
    go (by_digits i m ds some ns one a q) (minus-more b s l d) = absurd (not_blanks m ds q s)
    go (by-blanks i a q) (none d) = cc
    go (by-minus i a q) (none d) = cc
    go (by_digits i m ds some ns one a q) (none d) = cc

-- the reading of digits
pub reading-after : (m : Bool) (ds : List Digit) → reading_of (after m ds) ≡ Number (signed m (whole ds)) (after_point ds)
reading-after m ds =
    go (eqb (points ds) 0)
  where
    go : (b : Bool) → cond (is_blank (cond b Digits Fraction)) Dark (Number (signed m (whole ds)) (after_point ds)) ≡ Number (signed m (whole ds)) (after_point ds)
    go true = refl
    go false = refl

came-reads : (p : List Cell) (f : Front) → Came p f → (f.stage ≡ Signed → ⊥) → Reads p (reading_of f)
came-reads p f (by-blanks n e q) h =
    subst (λ (x : Front). Reads p (reading_of x)) (sym q) (e ∙ ap (λ (k : ℕ). replicate k blank) (sym (ap length e ∙ length-replicate n blank)))
came-reads p f (by-minus n e q) h = absurd (h (ap (λ (x : Front). x.stage) q))
came-reads p f (by_digits n m ds some ns one e q) h =
    subst (λ (x : Front). Reads p (reading_of x)) (sym q)
    (subst (Reads p) (sym (reading-after m ds))
    (record { blanks = n; minus = m; digits = ds; some = some; numerals = ns; one-point = one; parts = e; valued = refl; counted = refl }))

-- a minus is never taken on the last digit
not_last : (f : Front) (c : Cell) (last : Bool) (g : Front) → Nibbles c → next f c last ≡ Some g → last ≡ true → g.stage ≡ Signed → ⊥
not_last f c last g n e l s = go (view f c last n)
  where
    go : Stepping f c last (next f c last) → ⊥
    go (digit-more k p h b d) = (grown f k p g (sym e ∙ d)).past s
    go (blank-more b z d) = cc
    go (minus-more b z k d) = cc
    go (none d) = cc

abbrev pub Small : List Cell → Type 0
Small [] = Unit {0}
Small (c ∷ cs) = Nibbles c × Small cs

pub sound : (cs done : List Cell) (f g : Front) → Came done f → Small cs → (empty cs ≡ true → f.stage ≡ Signed → ⊥) → walked cs f ≡ ended g → Reads (done ++ cs) (reading_of g)
sound [] done f g ca sm h e =
    subst (λ (s : List Cell). Reads s (reading_of g)) (sym (append-nil done))
    (let q : f ≡ g = cc in subst (λ (x : Front). Reads done (reading_of x)) q (came-reads done f ca (h refl)))
sound (c ∷ cs) done f g ca sm h e = go (next f c (empty cs)) refl e (λ x. sound cs (done ++ (c ∷ [])) x g)
  where
    go : (r : Option Front) → next f c (empty cs) ≡ r → onward r (walked cs) ≡ ended g
        → ((x : Front) → Came (done ++ (c ∷ [])) x → Small cs → (empty cs ≡ true → x.stage ≡ Signed → ⊥) → walked cs x ≡ ended g → Reads (done ++ (c ∷ []) ++ cs) (reading_of g))
        → Reads (done ++ (c ∷ cs)) (reading_of g)
    go None i k r = cc
    go (Some x) i k r =
        subst (λ (s : List Cell). Reads s (reading_of g)) (append_snoc done c cs)
        (r x (came-next done f c (empty cs) x sm.0 ca i) sm.1 (not_last f c (empty cs) x sm.0 i) (later-ended (walked cs x) k))

-- The digits that an operand is printed with read back as its value: each digit is tested once, and a number's digits go by induction. A number is a
-- word that starts with a digit, so it is no fixed word and no label. Assumes nothing.
use Prim.Native.Nat.{ℕ, zero, suc, ◌+◌, ◌-◌, ◌*◌, ◌/◌, ◌%◌, ◌^◌, ◌<◌, ◌≤◌}
use native.Mathlib.Nat.{pow-suc}
use native.Mathlib.Omega.{arith}
use mathlib.Core.Path.{◌≡◌, refl, sym, ap, subst, ◌∙◌}
use mathlib.Core.Bool.{Bool, true, false, ◌&&◌, ◌||◌, false≢true}
use mathlib.Core.List.{List, [], ◌∷◌, ◌++◌}
use mathlib.Core.Option.{none, some}
use lib.Dec.{eqb, leb, ltb}
use lib.ListN.{length, length-append}
use lib.Seq.{get_or_at, take_at}
use borrow.Author.Tests.{eqb-true, leb-true, ltb-true, le-ltb, le-leb, lt-leb}
use Rattle.isa.specs.Choice.{pick}
use Rattle.isa.proofs.Exact.{and_left, and_right, and_both, below, below_at}
use Rattle.mnemonic.specs.Spelling.{codes, digit, hex_digits, led, number}
use Rattle.operand.specs.Text.{is_digit, is_letter, in_word}
use Rattle.operand.specs.Words.{fixed_words, same, place, is_fixed, first, is_label, digit_value, in_base, last, front, number_of}
use Rattle.operand.specs.Operand as Operand
use Rattle.operand.specs.Operand.{part_of}
use Rattle.assembler_laws.proofs.Each.{every, every_append, every_of}

-- ---- digits
-- a character of a word that is a digit or not below A
abbrev hex : ℕ → Bool
hex c = in_word c && (is_digit c || leb 65 c)

abbrev right : ℕ → Bool
right d = hex (digit d) && (ltb (digit_value (digit d)) 16 && eqb (digit_value (digit d)) d)

tested : below 16 right ≡ true
unfolding in_word digit_value
tested = refl

module _ (d : ℕ) (h : d < 16) where
  abbrev value-test : Bool
  value-test = ltb (digit_value (digit d)) 16 && eqb (digit_value (digit d)) d

  values : value-test ≡ true
  values = and_right (hex (digit d)) value-test (below_at 16 right tested d h)

  digit-hex : every hex (digit d ∷ []) ≡ true
  digit-hex = and_both (hex (digit d)) true (and_left (hex (digit d)) value-test (below_at 16 right tested d h)) refl

  digit_low : ltb (digit_value (digit d)) 16 ≡ true
  digit_low = and_left (ltb (digit_value (digit d)) 16) (eqb (digit_value (digit d)) d) values

  digit_is : digit_value (digit d) ≡ d
  digit_is = eqb-true (digit_value (digit d)) d (and_right (ltb (digit_value (digit d)) 16) (eqb (digit_value (digit d)) d) values)

digits-hex : (n v : ℕ) → every hex (hex_digits n v) ≡ true
digits-hex zero v = refl
digits-hex (suc n) v = every_append hex (hex_digits n (v / 16)) (digit (v % 16) ∷ []) (digits-hex n (v / 16)) (digit-hex (v % 16) (omega arith))

pub digits-length : (n v : ℕ) → length (hex_digits n v) ≡ n
digits-length zero v = refl
digits-length (suc n) v = length-append (hex_digits n (v / 16)) (digit (v % 16) ∷ []) ∙ ap (λ (k : ℕ). k + 1) (digits-length n (v / 16)) ∙ omega arith

-- ---- their value
one_more : (base a : ℕ) (s : List ℕ) (c v : ℕ) → in_base base a s ≡ some v → ltb (digit_value c) base ≡ true
    → in_base base a (s ++ (c ∷ [])) ≡ some (v * base + digit_value c)
one_more base a [] c v e h = let p : a ≡ v = cc in rw (h, p) refl
one_more base a (d ∷ s) c v e h = go (ltb (digit_value d) base) e (one_more base (a * base + digit_value d) s c v)
  where
    go : (t : Bool) → pick t (in_base base (a * base + digit_value d) s) none ≡ some v
        → (in_base base (a * base + digit_value d) s ≡ some v → ltb (digit_value c) base ≡ true
        → in_base base (a * base + digit_value d) (s ++ (c ∷ [])) ≡ some (v * base + digit_value c))
        → pick t (in_base base (a * base + digit_value d) (s ++ (c ∷ []))) none ≡ some (v * base + digit_value c)
    go true q f = f q h
    go false q f = absurd (let z : ◌≡◌ {A = ℕ} 0 1 = cc in omega arith)

digits_value : (n v : ℕ) → v < 16 ^ n → in_base 16 0 (hex_digits n v) ≡ some v
digits_value zero v h = let p : v ≡ 0 = omega arith in rw p refl
digits_value (suc n) v h =
    let b : v < 16 ^ n * 16 = subst (λ (m : ℕ). v < m) (pow-suc 16 n) h in
    let d : v % 16 < 16 = omega arith in
    one_more 16 0 (hex_digits n (v / 16)) (digit (v % 16)) (v / 16) (digits_value n (v / 16) (omega arith)) (digit_low (v % 16) d)
    ∙ ap some (omega (arith, digit_is (v % 16) d))

-- ---- a 0 before a letter
-- a word whose first character is a digit
pub record Led (s : List ℕ) : Type 0 where
  pub digit-first : is_digit (first s) ≡ true
  pub word : every in_word s ≡ true

led-hex : (c : ℕ) (s : List ℕ) → every hex (c ∷ s) ≡ true → Led (led (c ∷ s))
unfolding in_word
led-hex c s e = go (ltb c 65) refl
  where
    words : every in_word (c ∷ s) ≡ true
    words = every_of hex in_word (λ d. and_left (in_word d) (is_digit d || leb 65 d)) (c ∷ s) e

    either : (t : Bool) → t || leb 65 c ≡ true → c < 65 → t ≡ true
    either true f h = refl
    either false f h = absurd (omega (arith, leb-true 65 c f))

    go : (t : Bool) → ltb c 65 ≡ t → Led (pick t (c ∷ s) (48 ∷ c ∷ s))
    go true q = record {
      digit-first = either (is_digit c) (and_right (in_word c) (is_digit c || leb 65 c) (and_left (hex c) (every hex s) e)) (ltb-true c 65 q);
      word = words;
    }
    go false q = record { digit-first = refl; word = words }

led-value : (s : List ℕ) → in_base 16 0 (led s) ≡ in_base 16 0 s
unfolding digit_value
led-value [] = refl
led-value (c ∷ s) = go (ltb c 65)
  where
    go : (t : Bool) → in_base 16 0 (pick t (c ∷ s) (48 ∷ c ∷ s)) ≡ in_base 16 0 (c ∷ s)
    go true = refl
    go false = refl

led-length : (s : List ℕ) → length (led s) ≤ suc (length s)
led-length [] = omega arith
led-length (c ∷ s) = go (ltb c 65)
  where
    go : (t : Bool) → length (pick t (c ∷ s) (48 ∷ c ∷ s)) ≤ suc (suc (length s))
    go true = omega arith
    go false = omega arith

pub number-length : (n v : ℕ) → length (number n v) ≤ n + 2
number-length n v = omega (arith, length-append (led (hex_digits n v)) (codes "H"), led-length (hex_digits n v), digits-length n v)

led-digits : (n v : ℕ) → Led (led (hex_digits (suc n) v))
led-digits n v = go (hex_digits (suc n) v) (digits-hex (suc n) v) (digits-length (suc n) v)
  where
    go : (s : List ℕ) → every hex s ≡ true → length s ≡ suc n → Led (led s)
    go [] e h = absurd (omega arith)
    go (c ∷ s) e h = led-hex c s e

-- ---- a number
ended : (s : List ℕ) → Led s → Led (s ++ codes "H")
unfolding in_word
ended [] l = absurd (false≢true l.digit-first)
ended (c ∷ s) l = record { digit-first = l.digit-first; word = every_append in_word (c ∷ s) (codes "H") l.word refl }

pub number-led : (n v : ℕ) → Led (number (suc n) v)
number-led n v = ended (led (hex_digits (suc n) v)) (led-digits n v)

read-hex : (s : List ℕ) (v : ℕ) → is_digit (first (s ++ codes "H")) ≡ true → in_base 16 0 s ≡ some v → v ≤ 65535 → number_of (s ++ codes "H") ≡ some v
unfolding number_of
read-hex s v d e h =
    let l : length s ≡ length (s ++ codes "H") - 1 = omega (arith, length-append s (codes "H")) in
    let p : last (s ++ codes "H") ≡ 72 = get_or_at s 72 [] 0 (length (s ++ codes "H") - 1) l in
    let q : front (s ++ codes "H") ≡ s = take_at s (codes "H") (length (s ++ codes "H") - 1) l in
    rw (d, p, q, e, le-leb v 65535 h) refl

pub number-value : (n v : ℕ) → v < 16 ^ suc n → v ≤ 65535 → number_of (number (suc n) v) ≡ some v
number-value n v h b =
    read-hex (led (hex_digits (suc n) v)) v (number-led n v).digit-first (led-value (hex_digits (suc n) v) ∙ digits_value (suc n) v h) b

-- ---- no fixed word, no label
pub same-is : (v w : List ℕ) → same v w ≡ true → v ≡ w
same-is [] [] e = refl
same-is [] (d ∷ w) e = absurd (false≢true e)
same-is (c ∷ v) [] e = absurd (false≢true e)
same-is (c ∷ v) (d ∷ w) e =
    let p : c ≡ d = eqb-true c d (and_left (eqb c d) (same v w) e) in
    let q : v ≡ w = same-is v w (and_right (eqb c d) (same v w) e) in
    cc

-- a digit is below every letter
no-letter : (c : ℕ) → is_digit c ≡ true → is_letter c ≡ false
no-letter c e =
    let h : c ≤ 57 = leb-true c 57 (and_right (leb 48 c) (leb c 57) e) in
    rw (lt-leb 65 c (omega arith)) refl

abbrev lettered : List (List ℕ) → Bool
lettered vs = every (λ (v : List ℕ). is_letter (first v)) vs

-- among words that start with letters there is none that starts with a digit
nowhere : (vs : List (List ℕ)) (w : List ℕ) → lettered vs ≡ true → is_digit (first w) ≡ true → place vs w ≡ length vs
nowhere [] w e d = refl
nowhere (v ∷ vs) w e d = go (same v w) refl (nowhere vs w (and_right (is_letter (first v)) (lettered vs) e) d)
  where
    go : (t : Bool) → same v w ≡ t → place vs w ≡ length vs → pick t zero (suc (place vs w)) ≡ suc (length vs)
    go true q f =
        let p : is_letter (first v) ≡ true = and_left (is_letter (first v)) (lettered vs) e in
        let n : is_letter (first v) ≡ false = subst (λ (u : List ℕ). is_letter (first u) ≡ false) (sym (same-is v w q)) (no-letter (first w) d) in
        absurd (false≢true (sym n ∙ p))
    go false q f = ap suc f

fixed-lettered : lettered fixed_words ≡ true
unfolding fixed_words
fixed-lettered = refl

pub not-fixed : (w : List ℕ) → is_digit (first w) ≡ true → is_fixed w ≡ false
unfolding is_fixed
not-fixed w d = le-ltb (place fixed_words w) (length fixed_words) (omega (arith, nowhere fixed_words w fixed-lettered d))

pub not-label : (w : List ℕ) → is_digit (first w) ≡ true → is_label w ≡ false
unfolding is_label
not-label w d = rw (no-letter (first w) d) refl

-- what a number is in an operand
pub number-part : (n v : ℕ) → v < 16 ^ suc n → v ≤ 65535 → part_of (number (suc n) v) ≡ some (Operand.number v)
unfolding part_of
number-part n v h b = rw (not-label (number (suc n) v) (number-led n v).digit-first, number-value n v h b) refl

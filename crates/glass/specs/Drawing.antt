-- What drawing a reading gives. Document 02, wish 7: "A reading is drawn at the right with the fewest digits, at least one, and one before any point;
-- count 0 lights no point, 'dark' is drawn blank. .. Answers: .. 16 with digit 0 when a reading to draw does not fit". Assumes nothing.
use Rattle.std.specs.Prelude.{ℕ, zero, suc, ◌+◌, ◌*◌, ◌-◌, ◌/◌, ◌%◌, ◌^◌, Bool, true, false, not, cond, ◌&&◌, List, [], ◌∷◌, eqb, ltb, leb, length, replicate, ℤ, pos, negsuc, nat_abs}
use Rattle.glass.specs.Shapes.{Cell, glass, blank, nibbles}
use Rattle.glass.specs.Pictures.{Digit, digit, laid}
use Rattle.glass.specs.declared.Reading.{Reading}
use Rattle.glass.specs.declared.Reading.TheVariants.{Dark, Number}

-- whether n digits hold a number, with one before the point: so there is at least one
abbrev pub enough : ℕ → ℕ → ℕ → Bool
enough size count n = ltb size (10 ^ n) && ltb count n

-- the first number from n on that is enough, of so many; the one after them where none is
abbrev pub first_enough : ℕ → ℕ → ℕ → ℕ → ℕ
first_enough size count zero n = n
first_enough size count (suc more) n = cond (enough size count n) n (first_enough size count more (suc n))

-- "with the fewest digits, at least one, and one before any point"; 5 where four are not enough. That it is the fewest of all pictures that read so
-- is a statement, `FewestDigits`
abbrev pub fewest : ℕ → ℕ → ℕ
fewest size count = first_enough size count glass 1

-- whether the point is lit on the digit with n after it; "count 0 lights no point"
abbrev pub point_at : ℕ → ℕ → Bool
point_at n count = eqb n count && not (eqb count 0)

-- the last n decimal digits of a number, leftmost first
abbrev pub digits_of : ℕ → ℕ → ℕ → List Digit
digits_of zero size count = []
digits_of (suc n) size count = digit (size / 10 ^ n % 10) (point_at n count) ∷ digits_of n size count

abbrev pub is_negative : ℤ → Bool
is_negative (pos n) = false
is_negative (negsuc n) = true

-- digits and a minus where the number has one
abbrev pub width : Bool → ℕ → ℕ
width minus n = n + cond minus 1 0

abbrev pub fits : Bool → ℕ → Bool
fits minus n = leb (width minus n) glass

-- "drawn at the right"
abbrev pub at_right : Bool → List Digit → List Cell
at_right minus digits = laid (glass - width minus (length digits)) minus digits

abbrev pub drawn_number : ℤ → ℕ → List Cell
drawn_number value count = at_right (is_negative value) (digits_of (fewest (nat_abs value) count) (nat_abs value) count)

-- whether a reading fits, and its picture
abbrev pub fitting : Reading → Bool
fitting Dark = true
fitting (Number value count) = fits (is_negative value) (fewest (nat_abs value) count)

abbrev pub drawn : Reading → List Cell
drawn Dark = replicate glass blank
drawn (Number value count) = drawn_number value count

-- what drawing leaves: document 01's and 02's number, the digit of a 16, and the lent picture. 2 is a picture of another length; a refusal writes
-- nothing
pub record Drawing : Type 0 where
  pub refusal : ℕ
  pub digit : ℕ
  pub picture : List ℕ

abbrev pub drawing : ℕ → ℕ → List ℕ → Drawing
drawing n k s = record { refusal = n; digit = k; picture = s }

-- "16 with digit 0 when a reading to draw does not fit"
unfoldable pub drawn_over : Reading → List ℕ → Drawing
drawn_over r old =
    cond (eqb (length old) (2 * glass)) (cond (fitting r) (drawing 0 0 (nibbles (drawn r))) (drawing 16 0 old)) (drawing 2 0 old)

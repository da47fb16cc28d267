-- How the code goes from digit to digit. No promise of an exported function cites it. Assumes nothing.
use Rattle.std.specs.Prelude.{ℕ, suc, ◌≡◌, ◌+◌, ◌*◌, ◌/◌, ◌%◌, ◌^◌, Bool, true, false, cond, List, [], ◌∷◌, ◌++◌, map, eqb, ltb, ℤ, nat_abs, Option, Some, None}
use Rattle.glass.specs.Shapes.{Cell, shapes, blank, hyphen}
use Rattle.glass.specs.Pictures.{digit, lit, signed}
use Rattle.glass.specs.Drawing.{fewest, fits, is_negative, point_at}
use Rattle.glass.specs.declared.Reading.{Reading}
use Rattle.glass.specs.declared.Reading.TheVariants.{Dark, Number}
use Rattle.glass.specs.declared.figure.Figure.{Figure}
use Rattle.glass.specs.declared.read.Front.{Front}
use Rattle.glass.specs.declared.read.Stage.{Stage}
use Rattle.glass.specs.declared.read.Stage.TheVariants.{Blanks, Signed, Digits, Fraction}
use Rattle.glass.specs.declared.shapes.Mark.{Mark}
use Rattle.glass.specs.declared.shapes.Mark.TheVariants.{Numeral, Blank, Minus}

-- a digit's code: all but its point, as one number
abbrev pub code_of : Cell → ℕ
code_of k = k.abcd + k.efgp % 8 * 16

-- the first place of a number in a list; the list's length where it has none
abbrev pub place_in : List ℕ → ℕ → ℕ
place_in [] x = 0
place_in (y ∷ ys) x = cond (eqb x y) 0 (suc (place_in ys x))

-- 0 to 9, a blank, a minus
abbrev pub codes : List ℕ
codes = map code_of (shapes ++ (blank ∷ hyphen ∷ []))

-- the place of a code: 0 to 9, 10 for a blank, 11 for a minus, 12 for anything else
unfoldable pub shown_as : ℕ → ℕ
shown_as x = place_in codes x

-- what stands at each place
abbrev pub mark_at : ℕ → Option Mark
mark_at n = cond (ltb n 10) (Some (Numeral n)) (cond (eqb n 10) (Some Blank) (cond (eqb n 11) (Some Minus) None))

-- what a code shows
abbrev pub shown : ℕ → Option Mark
shown x = mark_at (shown_as x)

abbrev pub front : ℕ → Stage → Bool → ℕ → Front
front value stage minus places = record { value = value; stage = stage; minus = minus; places = places }

abbrev pub start : Front
start = front 0 Blanks false 0

abbrev pub is_blank : Stage → Bool
is_blank Blanks = true
is_blank Signed = false
is_blank Digits = false
is_blank Fraction = false

abbrev pub has_point : Stage → Bool
has_point Blanks = false
has_point Signed = false
has_point Digits = false
has_point Fraction = true

-- a numeral more
unfoldable pub numeral_taken : Front → ℕ → Bool → Option Front
numeral_taken f n pointed =
    cond (has_point f.stage)
    (cond pointed None (Some (front (f.value * 10 + n) Fraction f.minus (f.places + 1))))
    (Some (front (f.value * 10 + n) (cond pointed Fraction Digits) f.minus 0))

-- a digit more, by what it shows; `last` where none stands after it
unfoldable pub stepped : Front → Option Mark → Bool → Bool → Option Front
stepped f None pointed last = None
stepped f (Some (Numeral n)) pointed last = numeral_taken f n pointed
stepped f (Some Blank) pointed last = cond pointed None (cond (is_blank f.stage) (Some f) None)
stepped f (Some Minus) pointed last = cond pointed None (cond (is_blank f.stage) (cond last None (Some (front 0 Signed true 0))) None)

-- what all digits show
abbrev pub reading_of : Front → Reading
reading_of f = cond (is_blank f.stage) Dark (Number (signed f.minus f.value) f.places)

-- a digit as one number, its point in bit 7
abbrev pub byte_of : Cell → ℕ
byte_of k = k.abcd + k.efgp * 16

-- a number as it is drawn and written, where it fits
abbrev pub FigureOf : ℤ → ℕ → Option Figure → Type 0
FigureOf value count None = fits (is_negative value) (fewest (nat_abs value) count) ≡ false
FigureOf value count (Some x) =
    (fits x.minus x.digits ≡ true) × (x.minus ≡ is_negative value) × (x.size ≡ nat_abs value) × (x.places ≡ count)
    × (x.digits ≡ fewest (nat_abs value) count)

-- what is drawn where so many places stand to the right
abbrev pub placed : Figure → ℕ → Cell
placed x after =
    cond (ltb after x.digits)
    (lit (digit (x.size / 10 ^ after % 10) (point_at after x.places)))
    (cond (eqb after x.digits) (cond x.minus hyphen blank) blank)

abbrev pub row : Figure → List Cell
row x = placed x 3 ∷ placed x 2 ∷ placed x 1 ∷ placed x 0 ∷ []

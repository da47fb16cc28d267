-- What the shapes, reading and drawing are to one another. Document 02, wish 7: "6 has a, 7 is a, b, c, and 9 has d", "Every reading that fits so
-- reads back as itself", "Minus zero reads as 0", "the fewest digits". `read` promises `SeenAnswers`, `draw` promises `drawn_over`. Assumes nothing.
use Rattle.std.specs.Prelude.{ℕ, ◌*◌, ◌/◌, ◌%◌, ◌<◌, ◌≤◌, ◌≡◌, true, List, [], ◌∷◌, ◌++◌, length, get_or, ℤ, pos, nat_abs, Ok}
use Rattle.glass.specs.Shapes.{Cell, cell, glass, shapes, blank, hyphen, shape, cells}
use Rattle.glass.specs.Pictures.{Digit, laid, Numerals, points, whole, after_point, Numbered}
use Rattle.glass.specs.Reading.{EightNibbles, SeenAnswers}
use Rattle.glass.specs.Drawing.{fewest, fitting, drawn_over}
use Rattle.glass.specs.Text.{text_of, packed}
use Rattle.glass.specs.declared.Reading.{Reading}
use Rattle.glass.specs.declared.Reading.TheVariants.{Number}

-- "6 has a, 7 is a, b, c, and 9 has d", and no two shapes are one
pub record UsualShapes : Type 0 where
  pub six : (shape 6).abcd % 2 ≡ 1
  pub seven : shape 7 ≡ cell 7 0
  pub nine : (shape 9).abcd / 8 ≡ 1
  pub apart : (i j : ℕ) → i < 12 → j < 12 → get_or (shapes ++ (blank ∷ hyphen ∷ [])) i blank ≡ get_or (shapes ++ (blank ∷ hyphen ∷ [])) j blank → i ≡ j

-- "Every reading that fits so reads back as itself"
abbrev pub ReadsBack : Type 0
ReadsBack = (r : Reading) (old : List ℕ) → (drawn_over r old).refusal ≡ 0 → SeenAnswers (drawn_over r old).picture (Ok r)

-- a picture that is read and drawn again reads the same, over whatever eight bytes
abbrev pub DrawsAgain : Type 0
DrawsAgain = (s old : List ℕ) (r : Reading) → SeenAnswers s (Ok r) → length old ≡ 2 * glass → SeenAnswers (drawn_over r old).picture (Ok r)

-- "16 .. when a reading to draw does not fit": no picture reads so
abbrev pub OnNoPicture : Type 0
OnNoPicture = (s old : List ℕ) (r : Reading) → (drawn_over r old).refusal ≡ 16 → SeenAnswers s (Ok r) → ⊥

-- "the fewest digits": no picture that reads so has fewer
abbrev pub FewestDigits : Type 0
FewestDigits =
    (p : List Cell) (value : ℤ) (count : ℕ) (n : Numbered p value count) → length p ≡ glass → fewest (nat_abs value) count ≤ length n.digits

-- "Minus zero reads as 0"
abbrev pub MinusZero : Type 0
MinusZero =
    (s : List ℕ) (blanks : ℕ) (digits : List Digit) → EightNibbles s → cells s ≡ laid blanks true digits → 0 < length digits → Numerals digits
    → points digits ≤ 1 → whole digits ≡ 0 → SeenAnswers s (Ok (Number (pos 0) (after_point digits)))

-- a text is no other reading's: a log can be read back
abbrev pub TextTells : Type 0
TextTells = (r t : Reading) → fitting r ≡ true → fitting t ≡ true → packed (text_of r) ≡ packed (text_of t) → r ≡ t

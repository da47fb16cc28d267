-- What a picture may show. Document 02, wish 7: "Leading blanks are allowed, and one g alone as minus directly before the first digit. At most one
-- point is lit, and only on a digit. The answer is 'dark' when all is blank, else a signed whole number and the count of digits after the point.
-- Minus zero reads as 0". Assumes nothing.
use Rattle.std.specs.Prelude.{ℕ, ◌+◌, ◌*◌, ◌^◌, ◌<◌, ◌≤◌, ◌≡◌, Bool, cond, List, [], ◌∷◌, ◌++◌, map, length, replicate, ℤ, pos, neg_ℤ}
use Rattle.glass.specs.Shapes.{Cell, cell, point, blank, hyphen, shape}
use Rattle.glass.specs.declared.Reading.{Reading}
use Rattle.glass.specs.declared.Reading.TheVariants.{Dark, Number}

-- a digit of a number, with its point lit or not
pub record Digit : Type 0 where
  pub numeral : ℕ
  pub pointed : Bool

abbrev pub digit : ℕ → Bool → Digit
digit n p = record { numeral = n; pointed = p }

abbrev pub lit : Digit → Cell
lit d = cell (shape d.numeral).abcd ((shape d.numeral).efgp + cond d.pointed point 0)

-- blanks, a minus or none, and digits to the right end
abbrev pub laid : ℕ → Bool → List Digit → List Cell
laid blanks minus digits = replicate blanks blank ++ (cond minus (hyphen ∷ []) [] ++ map lit digits)

-- each digit shows 0 to 9
abbrev pub Numerals : List Digit → Type 0
Numerals [] = Unit {0}
Numerals (d ∷ ds) = (d.numeral < 10) × Numerals ds

-- how many points are lit
abbrev pub points : List Digit → ℕ
points [] = 0
points (d ∷ ds) = cond d.pointed 1 0 + points ds

-- the whole number that digits show, the point aside
abbrev pub whole : List Digit → ℕ
whole [] = 0
whole (d ∷ ds) = d.numeral * 10 ^ length ds + whole ds

-- "the count of digits after the point", 0 where none is lit
abbrev pub after_point : List Digit → ℕ
after_point [] = 0
after_point (d ∷ ds) = cond d.pointed (length ds) (after_point ds)

-- a signed number. "Minus zero reads as 0": there is one zero
abbrev pub signed : Bool → ℕ → ℤ
signed minus n = cond minus (neg_ℤ (pos n)) (pos n)

-- a picture of a number, and which
pub record Numbered (picture : List Cell) (value : ℤ) (count : ℕ) : Type 0 where
  pub blanks : ℕ
  pub minus : Bool
  pub digits : List Digit
  pub some : 0 < length digits
  pub numerals : Numerals digits
  pub one-point : points digits ≤ 1
  pub parts : picture ≡ laid blanks minus digits
  pub valued : value ≡ signed minus (whole digits)
  pub counted : count ≡ after_point digits

-- what a picture is read as
abbrev pub Reads : List Cell → Reading → Type 0
Reads picture Dark = picture ≡ replicate (length picture) blank
Reads picture (Number value count) = Numbered picture value count

-- a valid picture can be read
abbrev pub Valid : List Cell → Type 0
Valid picture = (r : Reading) × Reads picture r

-- The glass and its shapes. Document 02, wish 7: "Digit k, leftmost 0, uses display nibbles 2k (segments a, b, c, d in bits 0 to 3) and 2k+1
-- (e, f, g in bits 0 to 2, point after the digit in bit 3), with the usual shapes of 0 to 9: 6 has a, 7 is a, b, c, and 9 has d". Assumes nothing.
use Rattle.std.specs.Prelude.{ℕ, ◌+◌, List, [], ◌∷◌, get_or}

-- "Our glass has four digits"
abbrev pub glass : ℕ
glass = 4

-- the request's digit k, whatever it shows: its two nibbles. A digit that shows 0 to 9 is a `Digit` of specs/Pictures
pub record Cell : Type 0 where
  pub abcd : ℕ
  pub efgp : ℕ

abbrev pub cell : ℕ → ℕ → Cell
cell x y = record { abcd = x; efgp = y }

-- "segments a, b, c, d in bits 0 to 3"
abbrev a : ℕ
a = 1

abbrev b : ℕ
b = 2

abbrev c : ℕ
c = 4

abbrev d : ℕ
d = 8

-- "e, f, g in bits 0 to 2, point after the digit in bit 3"
abbrev e : ℕ
e = 1

abbrev f : ℕ
f = 2

abbrev g : ℕ
g = 4

abbrev pub point : ℕ
point = 8

abbrev pub shapes : List Cell
shapes =
    cell (a + b + c + d) (e + f)
    ∷ cell (b + c) 0
    ∷ cell (a + b + d) (e + g)
    ∷ cell (a + b + c + d) g
    ∷ cell (b + c) (f + g)
    ∷ cell (a + c + d) (f + g)
    ∷ cell (a + c + d) (e + f + g)
    ∷ cell (a + b + c) 0
    ∷ cell (a + b + c + d) (e + f + g)
    ∷ cell (a + b + c + d) (f + g)
    ∷ []

abbrev pub blank : Cell
blank = cell 0 0

-- "one g alone as minus"
abbrev pub hyphen : Cell
hyphen = cell 0 g

-- the shape of a numeral, 0 to 9
abbrev pub shape : ℕ → Cell
shape n = get_or shapes n blank

-- "A picture is these eight nibbles": its digits from the left, and the nibbles of digits
abbrev pub cells : List ℕ → List Cell
cells [] = []
cells (x ∷ []) = []
cells (x ∷ y ∷ rest) = cell x y ∷ cells rest

abbrev pub nibbles : List Cell → List ℕ
nibbles [] = []
nibbles (k ∷ rest) = k.abcd ∷ k.efgp ∷ nibbles rest

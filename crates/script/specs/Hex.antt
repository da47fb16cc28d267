-- A report as text: "prints each report as a line of 96 upper-case hexadecimal digits". Assumes nothing.
use Rattle.std.specs.Prelude.{ℕ, ◌+◌, ◌/◌, ◌%◌, List, [], ◌∷◌, ltb}
use Rattle.isa.specs.Choice.{pick}

-- the character of a digit: 0 to 9 from 48 on, A to F from 65 on
abbrev pub digit : ℕ → ℕ
digit d = pick (ltb d 10) (48 + d) (55 + d)

-- two digits a byte, and a newline
unfoldable pub hex_line : List ℕ → List ℕ
hex_line [] = 10 ∷ []
hex_line (x ∷ xs) = digit (x / 16) ∷ digit (x % 16) ∷ hex_line xs

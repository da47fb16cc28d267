-- How an instruction's text is put together: its tokens, how each is written, and where a space stands. Assumes nothing.
use Rattle.std.specs.Prelude.{ℕ, zero, suc, ◌+◌, ◌-◌, ◌/◌, ◌%◌, List, [], ◌∷◌, ◌++◌, ltb}
use Prim.Native.Char.{Char, code}
use Prim.Native.String.{String, [] as none, ◌∷◌ as ◌then◌}
use Rattle.isa.specs.Choice.{pick}

-- the characters of a text, as their codes
abbrev pub codes : String → List ℕ
codes none = []
codes (c then s) = code c ∷ codes s

-- a word, of letters and digits (in a printed line a fixed one); a sign; an operand, a number of so many hexadecimal digits
pub data Token : Type 0 where
  letters : List ℕ → Token
  mark : ℕ → Token
  operand : ℕ → ℕ → Token

abbrev pub word : String → Token
word s = letters (codes s)

abbrev pub sign : Char → Token
sign c = mark (code c)

-- the character of a digit: 0 to 9, then A to F
abbrev pub digit : ℕ → ℕ
digit d = pick (ltb d 10) (code "0" + d) (code "A" + (d - 10))

-- a word that ends in a number, as R4 and JA2
abbrev pub numbered : String → ℕ → Token
numbered s n = letters (codes s ++ (digit (n % 16) ∷ []))

-- the last digits of a number, so many
abbrev pub hex_digits : ℕ → ℕ → List ℕ
hex_digits zero v = []
hex_digits (suc n) v = hex_digits n (v / 16) ++ (digit (v % 16) ∷ [])

-- "hexadecimal ending in H; it starts with a digit" (document 02, wish 4): a 0 stands before a letter
abbrev pub led : List ℕ → List ℕ
led [] = []
led (c ∷ s) = pick (ltb c (code "A")) (c ∷ s) (code "0" ∷ c ∷ s)

abbrev pub number : ℕ → ℕ → List ℕ
number n v = led (hex_digits n v) ++ codes "H"

abbrev pub spelt : Token → List ℕ
spelt (letters s) = s
spelt (mark c) = c ∷ []
spelt (operand n v) = number n v

-- tokens with nothing between them
abbrev pub closed : List Token → List ℕ
closed [] = []
closed (t ∷ []) = spelt t
closed (t ∷ u ∷ rest) = spelt t ++ closed (u ∷ rest)

-- as document 001's summary prints its lines: the first word, one space, and what follows it with nothing between
abbrev pub spelling : List Token → List ℕ
spelling [] = []
spelling (t ∷ []) = spelt t
spelling (t ∷ u ∷ rest) = spelt t ++ (codes " " ++ closed (u ∷ rest))

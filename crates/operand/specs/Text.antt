-- The text that document 02, wish 4, speaks of: "lines ending in LF (the last may lack it), letters upper case, any spaces around words and signs,
-- at least one between two words". A space is 20h alone; a word is a longest run of letters and digits; every other character is a sign, of which
-- most stand in no line that can be read. Assumes nothing.
use Rattle.std.specs.Prelude.{ℕ, Bool, false, ◌&&◌, ◌||◌, List, [], ◌∷◌, eqb, leb}
use Prim.Native.Char.{code}
use Rattle.isa.specs.Choice.{pick}
use Rattle.mnemonic.specs.Spelling.{Token, letters, mark, operand}

abbrev pub LF : ℕ
LF = 10

abbrev pub is_letter : ℕ → Bool
is_letter c = leb (code "A") c && leb c (code "Z")

abbrev pub is_digit : ℕ → Bool
is_digit c = leb (code "0") c && leb c (code "9")

-- what words are made of
unfoldable pub in_word : ℕ → Bool
in_word c = is_letter c || is_digit c

abbrev pub on_first : ℕ → List (List ℕ) → List (List ℕ)
on_first c [] = (c ∷ []) ∷ []
on_first c (l ∷ ls) = (c ∷ l) ∷ ls

-- the lines of a text, without their LF; after a last LF stands an empty one, which is blank
abbrev pub lines : List ℕ → List (List ℕ)
lines [] = [] ∷ []
lines (c ∷ s) = pick (eqb c LF) ([] ∷ lines s) (on_first c (lines s))

-- whether a word starts here
abbrev pub begins : List ℕ → Bool
begins [] = false
begins (c ∷ s) = in_word c

-- a character before a first word
abbrev pub on_word : ℕ → List Token → List Token
on_word c [] = []
on_word c (letters w ∷ ts) = letters (c ∷ w) ∷ ts
on_word c (mark d ∷ ts) = mark d ∷ ts
on_word c (operand n v ∷ ts) = operand n v ∷ ts

-- the words and signs of a line; `operand` is for printed lines and never stands here
abbrev pub tokens : List ℕ → List Token
tokens [] = []
tokens (c ∷ s) = pick (eqb c (code " ")) (tokens s)
    (pick (in_word c) (pick (begins s) (on_word c (tokens s)) (letters (c ∷ []) ∷ tokens s)) (mark c ∷ tokens s))

-- The words of a line: fixed words, labels and numbers. Document 02, wish 4: "A label is a letter, then letters or digits, and no fixed word of a
-- mnemonic (as MOV, A, R4) nor ORG"; "a number (decimal, or hexadecimal ending in H; it starts with a digit and is at most 65,535)". Assumes nothing.
use Rattle.std.specs.Prelude.{ℕ, zero, suc, ◌+◌, ◌*◌, ◌-◌, Bool, true, false, ◌&&◌, not, List, [], ◌∷◌, map, eqb, leb, ltb, get_or, length, take}
use Prim.Native.Char.{code}
use Rattle.std.proofs.Math.Option.{Option, none, some}
use Rattle.isa.specs.Choice.{pick}
use Rattle.mnemonic.specs.Spelling.{codes}
use Rattle.operand.specs.Text.{is_digit, is_letter}

-- the fixed words, in the order in which document 001's summary first has them, and ORG (assembler_laws/specs/Fixed: exactly the words of `line_of`,
-- and ORG)
unfoldable pub fixed_words : List (List ℕ)
fixed_words = map codes
    ("ADD" ∷ "A" ∷ "R1R0" ∷ "ADC" ∷ "SUB" ∷ "SBC" ∷ "DAA" ∷ "AND" ∷ "OR" ∷ "XOR" ∷ "INC" ∷ "R0" ∷ "R1" ∷ "R2" ∷ "R3" ∷ "R4" ∷ "R3R2" ∷ "DEC"
    ∷ "MOV" ∷ "RL" ∷ "RLC" ∷ "RR" ∷ "RRC" ∷ "IN" ∷ "PM" ∷ "PS" ∷ "PP" ∷ "OUT" ∷ "PA" ∷ "JMP" ∷ "JC" ∷ "JNC" ∷ "JTMR" ∷ "JA0" ∷ "JA1" ∷ "JA2"
    ∷ "JA3" ∷ "JZ" ∷ "JNZ" ∷ "CALL" ∷ "RET" ∷ "RETI" ∷ "CLC" ∷ "STC" ∷ "EI" ∷ "DI" ∷ "NOP" ∷ "TIMER" ∷ "ON" ∷ "OFF" ∷ "TMRL" ∷ "TMRH" ∷ "READ"
    ∷ "R4A" ∷ "MR0A" ∷ "READF" ∷ "SOUND" ∷ "ONE" ∷ "LOOP" ∷ "HALT" ∷ "ORG" ∷ [])

abbrev pub same : List ℕ → List ℕ → Bool
same [] [] = true
same [] (d ∷ t) = false
same (c ∷ s) [] = false
same (c ∷ s) (d ∷ t) = eqb c d && same s t

-- the place of a word in a list, the list's length where it is not there
abbrev pub place : List (List ℕ) → List ℕ → ℕ
place [] w = zero
place (v ∷ vs) w = pick (same v w) zero (suc (place vs w))

abbrev pub among : List (List ℕ) → List ℕ → Bool
among vs w = ltb (place vs w) (length vs)

unfoldable pub is_fixed : List ℕ → Bool
is_fixed w = among fixed_words w

abbrev pub first : List ℕ → ℕ
first w = get_or w 0 0

-- of a word, which `tokens` makes of letters and digits alone
unfoldable pub is_label : List ℕ → Bool
is_label w = is_letter (first w) && not (is_fixed w)

-- what a digit counts, 16 for a character that is none
unfoldable pub digit_value : ℕ → ℕ
digit_value c = pick (is_digit c) (c - code "0") (pick (leb (code "A") c && leb c (code "F")) (c - code "A" + 10) 16)

-- the value of digits in a base, going on from the value before them
abbrev pub in_base : ℕ → ℕ → List ℕ → Option ℕ
in_base base v [] = some v
in_base base v (c ∷ s) = pick (ltb (digit_value c) base) (in_base base (v * base + digit_value c) s) none

abbrev pub at_most : ℕ → Option ℕ → Option ℕ
at_most n none = none
at_most n (some v) = pick (leb v n) (some v) none

-- the last character, and those before it
abbrev pub last : List ℕ → ℕ
last w = get_or w (length w - 1) 0

abbrev pub front : List ℕ → List ℕ
front w = take (length w - 1) w

unfoldable pub number_of : List ℕ → Option ℕ
number_of w = pick (is_digit (first w)) (at_most 65535 (pick (eqb (last w) (code "H")) (in_base 16 0 (front w)) (in_base 10 0 w))) none

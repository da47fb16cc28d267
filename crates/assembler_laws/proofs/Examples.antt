-- The definitions computed on examples: the order of the answers, line numbers, depth, bit 11, addresses. Assumes nothing.
use Prim.Native.Nat.{ℕ}
use mathlib.Core.Path.{◌≡◌, refl}
use mathlib.Core.List.{List, [], ◌∷◌, ◌++◌}
use lib.ListN.{drop, take}
use Rattle.isa.specs.Code.{bytes_of, leading}
use Rattle.isa.specs.Views.{view}
use Rattle.mnemonic.specs.Line.{line_of}
use Rattle.mnemonic.specs.Spelling.{codes}
use Rattle.operand.specs.Text.{LF, in_word}
use Rattle.operand.specs.Words.{digit_value, fixed_words, is_fixed, is_label, number_of}
use Rattle.operand.specs.Operand.{part_of}
use Rattle.assembler.specs.Forms.{forms}
use Rattle.assembler.specs.Statement.{body}
use Rattle.assembler.specs.Program.{Answer, assembled, left, next, refused}

-- so many bytes of a result from an address on, none of a refusal
abbrev shown : ℕ → ℕ → Answer → List ℕ
shown at n a = take n (drop at (left a []))

-- 12 goes before a 13 and a 14 of lines above it
unreadable-first : assembled (codes "ORG 4096" ++ (LF ∷ []) ++ codes "JMP X" ++ (LF ∷ []) ++ codes "NOP NOP") ≡ refused 12 3
unfolding assembled body next in_word is_fixed is_label part_of number_of digit_value fixed_words forms line_of bytes_of leading view
unreadable-first = refl

-- 14 before a 13 of a line above it
labels_next : assembled (codes "ORG 4096" ++ (LF ∷ []) ++ codes "JMP X") ≡ refused 14 2
unfolding assembled body next in_word is_fixed is_label part_of number_of digit_value fixed_words forms line_of bytes_of leading view
labels_next = refl

-- places before values
places-next : assembled (codes "MOV A,16" ++ (LF ∷ []) ++ codes "ORG 4096") ≡ refused 13 2
unfolding assembled body next in_word is_fixed is_label part_of number_of digit_value fixed_words forms line_of bytes_of leading view
places-next = refl

-- a value outside its field
value-over : assembled (codes "NOP" ++ (LF ∷ []) ++ codes "MOV A,16") ≡ refused 13 2
unfolding assembled body next in_word is_fixed is_label part_of number_of digit_value fixed_words forms line_of bytes_of leading view
value-over = refl

-- a byte written twice
written_twice : assembled (codes "NOP" ++ (LF ∷ []) ++ codes "ORG 0" ++ (LF ∷ []) ++ codes "NOP") ≡ refused 13 3
unfolding assembled body next in_word is_fixed is_label part_of number_of digit_value fixed_words forms line_of bytes_of leading view
written_twice = refl

-- a fixed word is no label
fixed_word : assembled (codes "LOOP: NOP") ≡ refused 12 1
unfolding assembled body next in_word is_fixed is_label part_of number_of digit_value fixed_words forms line_of bytes_of leading view
fixed_word = refl

-- an ORG's own label is not above it
own-label : assembled (codes "X: ORG X") ≡ refused 14 1
unfolding assembled body next in_word is_fixed is_label part_of number_of digit_value fixed_words forms line_of bytes_of leading view
own-label = refl

-- parentheses 17 deep
seventeen : assembled (codes "MOV A,(((((((((((((((((5)))))))))))))))))") ≡ refused 12 1
unfolding assembled body next in_word is_fixed is_label part_of number_of digit_value fixed_words forms line_of bytes_of leading view
seventeen = refl

-- at 7FEh a branch reaches the upper half
other_half : assembled (codes "ORG 7FEH" ++ (LF ∷ []) ++ codes "JZ A,10H") ≡ refused 13 2
unfolding assembled body next in_word is_fixed is_label part_of number_of digit_value fixed_words forms line_of bytes_of leading view
other_half = refl

-- parentheses 16 deep
sixteen : shown 0x0 1 (assembled (codes "MOV A,((((((((((((((((5))))))))))))))))")) ≡ 0x75 ∷ []
unfolding assembled body next in_word is_fixed is_label part_of number_of digit_value fixed_words forms line_of bytes_of leading view
sixteen = refl

-- at 7FEh a branch reaches the upper half
upper-half : shown 0x7fe 2 (assembled (codes "ORG 7FEH" ++ (LF ∷ []) ++ codes "JZ A,810H")) ≡ 0xb0 ∷ 0x10 ∷ []
unfolding assembled body next in_word is_fixed is_label part_of number_of digit_value fixed_words forms line_of bytes_of leading view
upper-half = refl

-- at FFEh the moved PC is 0
wrapped : shown 0xffe 2 (assembled (codes "ORG 0FFEH" ++ (LF ∷ []) ++ codes "JZ A,10H")) ≡ 0xb0 ∷ 0x10 ∷ []
unfolding assembled body next in_word is_fixed is_label part_of number_of digit_value fixed_words forms line_of bytes_of leading view
wrapped = refl

-- the label of an ORG line has the new address
new-address : shown 0x5 2 (assembled (codes "X: ORG 5" ++ (LF ∷ []) ++ codes "JMP X")) ≡ 0xe0 ∷ 0x05 ∷ []
unfolding assembled body next in_word is_fixed is_label part_of number_of digit_value fixed_words forms line_of bytes_of leading view
new-address = refl

-- sums and differences
difference : shown 0x0 1 (assembled (codes "MOV A,9-(3+2)-0AH+11")) ≡ 0x75 ∷ []
unfolding assembled body next in_word is_fixed is_label part_of number_of digit_value fixed_words forms line_of bytes_of leading view
difference = refl

-- bytes not written are 3E
filled : shown 0x1 3 (assembled (codes "ORG 2" ++ (LF ∷ []) ++ codes "DAA")) ≡ 0x3e ∷ 0x36 ∷ 0x3e ∷ []
unfolding assembled body next in_word is_fixed is_label part_of number_of digit_value fixed_words forms line_of bytes_of leading view
filled = refl

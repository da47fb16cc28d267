-- The forms by number, as the code has them: what tells a form, and how its bytes hold its operand. proofs/ shows that each form is so. For contracts
-- inside this crate. Assumes nothing.
use Rattle.std.specs.Prelude.{ℕ, ◌+◌, ◌-◌, ◌/◌, ◌%◌, ◌^◌, Bool, true, ◌&&◌, ◌||◌, not, List, [], ◌∷◌, map, reverse, eqb, leb, ltb, get_or, take, drop}
use Rattle.std.specs.Prelude.{Option, Some, None}
use Rattle.std.specs.List.{list_all}
use Rattle.isa.specs.Choice.{pick}
use Rattle.isa.specs.declared.Instruction.{Instruction}
use Rattle.isa.specs.declared.Instruction.TheVariants as I
use Rattle.mnemonic.specs.Spelling.{Token, letters, codes}
use Rattle.operand.specs.Read.{kind_of, packed}
use Rattle.operand.specs.declared.tokens.Kind.{Kind}
use Rattle.operand.specs.declared.tokens.Kind.TheVariants.{End, Label, Number, Fixed, Sign}
use Rattle.rom.specs.Fetching.{moved_by}
use Rattle.rom.specs.declared.encoder.Written.{Written}
use Rattle.rom.specs.declared.encoder.Written.TheVariants.{One, Two}
use Rattle.assembler.specs.Forms.{always, forms, lead, rom_size}
use Rattle.assembler.specs.declared.forms.Shape.{Shape}
use Rattle.assembler.specs.declared.forms.Shape.TheVariants.{Empty, Plain, Halt, Within, Nibble, Pair, Byte, Branch, Address}

-- ORG is number 0, and stands for no instruction; NOP for it and for no form
unfoldable pub form_at : ℕ → ℕ → Instruction
unfolding forms
form_at k = get_or (always I.Nop ∷ forms) k (always I.Nop)

-- the number of a line's form; a blank line has none
abbrev pub form_number : Option ℕ → ℕ
form_number None = 98
form_number (Some form) = form

-- the kinds of tokens in a row as one number, the last the lowest
abbrev pub key_of : List Token → ℕ
key_of ts = packed (reverse (map kind_of ts))

abbrev pub org_lead : List Token
org_lead = letters (codes "ORG") ∷ []

abbrev pub lead_key : (ℕ → Instruction) → ℕ
lead_key f = key_of (lead f)

unfoldable pub form_keys : List ℕ
unfolding forms
form_keys = key_of org_lead ∷ map lead_key forms

abbrev pub firsts : List ℕ
firsts =
    0x00 ∷ 0x09 ∷ 0x08 ∷ 0x0b ∷ 0x0a ∷ 0x40 ∷ 0x41 ∷ 0x36 ∷ 0x1a ∷ 0x1c ∷ 0x1b ∷ 0x1d ∷ 0x1f ∷ 0x1e ∷ 0x42 ∷ 0x44 ∷ 0x43 ∷ 0x31 ∷ 0x10 ∷
    0x12 ∷ 0x14 ∷ 0x16 ∷ 0x18 ∷ 0x0c ∷ 0x0e ∷ 0x3f ∷ 0x11 ∷ 0x13 ∷ 0x15 ∷ 0x17 ∷ 0x19 ∷ 0x0d ∷ 0x0f ∷ 0x21 ∷ 0x23 ∷ 0x25 ∷ 0x27 ∷ 0x29 ∷
    0x20 ∷ 0x22 ∷ 0x24 ∷ 0x26 ∷ 0x28 ∷ 0x04 ∷ 0x06 ∷ 0x05 ∷ 0x07 ∷ 0x70 ∷ 0x50 ∷ 0x60 ∷ 0x46 ∷ 0x01 ∷ 0x03 ∷ 0x00 ∷ 0x02 ∷ 0x32 ∷ 0x33 ∷
    0x34 ∷ 0x30 ∷ 0xe0 ∷ 0xc0 ∷ 0xc8 ∷ 0xd0 ∷ 0x80 ∷ 0x88 ∷ 0x90 ∷ 0x98 ∷ 0xb0 ∷ 0xb8 ∷ 0xa0 ∷ 0xa8 ∷ 0xd8 ∷ 0xf0 ∷ 0x2e ∷ 0x2f ∷ 0x2a ∷
    0x2b ∷ 0x2c ∷ 0x2d ∷ 0x3e ∷ 0x47 ∷ 0x38 ∷ 0x39 ∷ 0x3a ∷ 0x3b ∷ 0x3c ∷ 0x3d ∷ 0x4c ∷ 0x4e ∷ 0x4d ∷ 0x4f ∷ 0x45 ∷ 0x4b ∷ 0x48 ∷ 0x49 ∷
    0x4a ∷ 0x37 ∷ []

abbrev pub shape_number : Shape → ℕ
shape_number Empty = 0
shape_number Plain = 1
shape_number Halt = 2
shape_number Within = 3
shape_number Nibble = 4
shape_number Pair = 5
shape_number Byte = 6
shape_number Branch = 7
shape_number Address = 8

abbrev pub form_shapes : List Shape
form_shapes =
    Empty ∷ Plain ∷ Plain ∷ Plain ∷ Plain ∷ Nibble ∷ Nibble ∷ Plain ∷ Plain ∷ Plain ∷ Plain ∷ Plain ∷ Plain ∷ Plain ∷ Nibble ∷ Nibble ∷
    Nibble ∷ Plain ∷ Plain ∷ Plain ∷ Plain ∷ Plain ∷ Plain ∷ Plain ∷ Plain ∷ Plain ∷ Plain ∷ Plain ∷ Plain ∷ Plain ∷ Plain ∷ Plain ∷
    Plain ∷ Plain ∷ Plain ∷ Plain ∷ Plain ∷ Plain ∷ Plain ∷ Plain ∷ Plain ∷ Plain ∷ Plain ∷ Plain ∷ Plain ∷ Plain ∷ Plain ∷ Within ∷ Pair ∷
    Pair ∷ Nibble ∷ Plain ∷ Plain ∷ Plain ∷ Plain ∷ Plain ∷ Plain ∷ Plain ∷ Plain ∷ Address ∷ Branch ∷ Branch ∷ Branch ∷ Branch ∷ Branch ∷
    Branch ∷ Branch ∷ Branch ∷ Branch ∷ Branch ∷ Branch ∷ Branch ∷ Address ∷ Plain ∷ Plain ∷ Plain ∷ Plain ∷ Plain ∷ Plain ∷ Plain ∷ Byte ∷
    Plain ∷ Plain ∷ Plain ∷ Plain ∷ Plain ∷ Plain ∷ Plain ∷ Plain ∷ Plain ∷ Plain ∷ Nibble ∷ Plain ∷ Plain ∷ Plain ∷ Plain ∷ Halt ∷ []

abbrev pub shapes : List ℕ
shapes = map shape_number form_shapes

abbrev pub size_in : ℕ → ℕ
size_in s = pick (eqb s 0) 0 (pick (eqb s 1) 1 (pick (eqb s 3) 1 2))

abbrev pub digits_in : ℕ → ℕ
digits_in s = pick (ltb s 3) 0 (pick (ltb s 5) 1 (pick (ltb s 7) 2 3))

abbrev pub bytes_in : ℕ → ℕ → ℕ → List ℕ
bytes_in s first v =
    pick (eqb s 0) []
    (pick (eqb s 1) (first ∷ [])
    (pick (eqb s 2) (first ∷ 0x3e ∷ [])
    (pick (eqb s 3) ((first + v) ∷ [])
    (pick (eqb s 5) ((first + v % 16) ∷ (v / 16) ∷ [])
    (pick (eqb s 7) ((first + v % 2048 / 256) ∷ (v % 2048 % 256) ∷ [])
    (pick (eqb s 8) ((first + v / 256) ∷ (v % 256) ∷ [])
    (first ∷ v ∷ [])))))))

abbrev pub low_bytes : List ℕ → List ℕ
low_bytes [] = []
low_bytes (b ∷ bs) = (b % 256) ∷ low_bytes bs

abbrev pub reaches_in : ℕ → ℕ → ℕ → Bool
reaches_in s moved v = pick (eqb s 7) (eqb (v / 2048) (moved / 2048)) true

abbrev pub listed : Option Written → List ℕ
listed None = []
listed (Some (One a)) = a ∷ []
listed (Some (Two a b)) = a ∷ b ∷ []

-- the number of a fixed word, a comma or a bracket
abbrev pub leading : Kind → Option ℕ
leading End = None
leading Label = None
leading Number = None
leading (Fixed k) = Some (128 + k)
leading (Sign c) = pick (eqb c 44 || eqb c 91 || eqb c 93) (Some c) None

-- bytes at an address that are not past the end and not written; flags say which are
abbrev pub is_free : List Bool → ℕ → ℕ → Bool
is_free used at size = leb (at + size) rom_size && list_all (λ u. not u) (take size (drop at used))

-- a value outside a field, or a branch that does not fit, by shape
abbrev pub is_misfit : ℕ → ℕ → ℕ → ℕ → ℕ → Bool
is_misfit size s at added taken =
    ltb 0 size && not (leb taken added && ltb (added - taken) (16 ^ digits_in s) && reaches_in s (moved_by size at) (added - taken))

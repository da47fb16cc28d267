-- The forms of a line: each line of document 001's "Instruction Set Summary", in its order, as the instruction that it is for a value of its
-- operand. Its words, signs and operand place are those of its text (mnemonic/specs/Line). Assumes nothing.
use Rattle.std.specs.Prelude.{ℕ, ◌/◌, ◌%◌, ◌^◌, Bool, true, List, [], ◌∷◌, eqb, length}
use Rattle.isa.specs.Code.{addresses, bytes_of}
use Rattle.isa.specs.Views.{View, on, jmp, branch, call, ret, reti, ei, view}
use Rattle.isa.specs.declared.Pointer.{Pointer}
use Rattle.isa.specs.declared.Pointer.TheVariants.{R1R0, R3R2}
use Rattle.isa.specs.declared.Port.TheVariants.{Pm, Ps, Pp}
use Rattle.isa.specs.declared.Page.TheVariants.{Current, F}
use Rattle.isa.specs.declared.Condition.{Condition}
use Rattle.isa.specs.declared.Condition.TheVariants.{Ja, JnzR0, JnzR1, JnzR4, Jz, JnzA, Jc, Jnc, Jtmr}
use Rattle.isa.specs.declared.ProgramAddress.{ProgramAddress}
use Rattle.isa.specs.declared.Instruction.{Instruction}
use Rattle.isa.specs.declared.Instruction.TheVariants as I
use Rattle.mnemonic.specs.Line.{line_of}
use Rattle.mnemonic.specs.Spelling.{Token, letters, mark, operand}

-- under a name of its own: `addresses` is here where labels stand (Program, `Above`)
abbrev pub rom_size : ℕ
rom_size = addresses

-- a line with no operand
abbrev pub always : Instruction → ℕ → Instruction
always i v = i

-- "the first byte's nibble goes to R0 (R2), the second's to R1 (R3)": the low nibble, then the high one
abbrev pub paired : Pointer → ℕ → Instruction
paired p v = I.MovPairXX p (v % 16) (v / 16)

abbrev pub addressed : (ProgramAddress → Instruction) → ℕ → Instruction
addressed i v = i (record { 0 = v })

-- a branch holds the low 11 bits of its target
abbrev pub branching : Condition → ℕ → Instruction
branching k v = I.Branch (record { 0 = v % 2048 }) k

unfoldable pub forms : List (ℕ → Instruction)
forms =
    always I.AddAM ∷ always I.AdcAM ∷ always I.SubAM ∷ always I.SbcAM ∷ I.AddAX ∷ I.SubAX ∷ always I.Daa ∷ always I.AndAM ∷ always I.OrAM
    ∷ always I.XorAM ∷ always I.AndMA ∷ always I.OrMA ∷ always I.XorMA ∷ I.AndAX ∷ I.OrAX ∷ I.XorAX ∷ always I.IncA ∷ always (I.IncR 0)
    ∷ always (I.IncR 1) ∷ always (I.IncR 2) ∷ always (I.IncR 3) ∷ always (I.IncR 4) ∷ always (I.IncM R1R0) ∷ always (I.IncM R3R2)
    ∷ always I.DecA ∷ always (I.DecR 0) ∷ always (I.DecR 1) ∷ always (I.DecR 2) ∷ always (I.DecR 3) ∷ always (I.DecR 4)
    ∷ always (I.DecM R1R0) ∷ always (I.DecM R3R2) ∷ always (I.MovAR 0) ∷ always (I.MovAR 1) ∷ always (I.MovAR 2) ∷ always (I.MovAR 3)
    ∷ always (I.MovAR 4) ∷ always (I.MovRA 0) ∷ always (I.MovRA 1) ∷ always (I.MovRA 2) ∷ always (I.MovRA 3) ∷ always (I.MovRA 4)
    ∷ always (I.MovAM R1R0) ∷ always (I.MovAM R3R2) ∷ always (I.MovMA R1R0) ∷ always (I.MovMA R3R2) ∷ I.MovAX ∷ paired R1R0 ∷ paired R3R2
    ∷ I.MovR4X ∷ always I.RlA ∷ always I.RlcA ∷ always I.RrA ∷ always I.RrcA ∷ always (I.InA Pm) ∷ always (I.InA Ps) ∷ always (I.InA Pp)
    ∷ always I.OutPaA ∷ addressed I.Jmp ∷ branching Jc ∷ branching Jnc ∷ branching Jtmr ∷ branching (Ja 0) ∷ branching (Ja 1)
    ∷ branching (Ja 2) ∷ branching (Ja 3) ∷ branching Jz ∷ branching JnzA ∷ branching JnzR0 ∷ branching JnzR1 ∷ branching JnzR4
    ∷ addressed I.Call ∷ always I.Ret ∷ always I.Reti ∷ always I.Clc ∷ always I.Stc ∷ always I.Ei ∷ always I.Di ∷ always I.Nop ∷ I.TimerXX
    ∷ always I.TimerOn ∷ always I.TimerOff ∷ always I.MovATmrl ∷ always I.MovATmrh ∷ always I.MovTmrlA ∷ always I.MovTmrhA
    ∷ always (I.ReadR4A Current) ∷ always (I.ReadMr0A Current) ∷ always (I.ReadR4A F) ∷ always (I.ReadMr0A F) ∷ I.SoundN ∷ always I.SoundA
    ∷ always I.SoundOne ∷ always I.SoundLoop ∷ always I.SoundOff ∷ always I.Halt ∷ []

-- the words and signs of a text before its operand, and how many hexadecimal digits the operand has, 0 where there is none
abbrev pub lead_of : List Token → List Token
lead_of [] = []
lead_of (letters w ∷ ts) = letters w ∷ lead_of ts
lead_of (mark c ∷ ts) = mark c ∷ lead_of ts
lead_of (operand n v ∷ ts) = []

abbrev pub digits_of : List Token → ℕ
digits_of [] = 0
digits_of (letters w ∷ ts) = digits_of ts
digits_of (mark c ∷ ts) = digits_of ts
digits_of (operand n v ∷ ts) = n

abbrev pub lead : (ℕ → Instruction) → List Token
lead f = lead_of (line_of (f 0))

abbrev pub operand_digits : (ℕ → Instruction) → ℕ
operand_digits f = digits_of (line_of (f 0))

-- how many bytes the form takes
abbrev pub size : (ℕ → Instruction) → ℕ
size f = length (bytes_of (f 0))

-- how many values its operand can have; one, 0, where it has none
abbrev pub field : (ℕ → Instruction) → ℕ
field f = 16 ^ operand_digits f

-- "A conditional branch whose target differs in bit 11 from its moved PC does not fit"
abbrev pub reaches_by : {i : Instruction} → View i → ℕ → ℕ → Bool
reaches_by on moved v = true
reaches_by (jmp t) moved v = true
reaches_by (branch t k) moved v = eqb (v / 2048) (moved / 2048)
reaches_by (call t) moved v = true
reaches_by ret moved v = true
reaches_by reti moved v = true
reaches_by ei moved v = true

abbrev pub reaches : (ℕ → Instruction) → ℕ → ℕ → Bool
reaches f moved v = reaches_by (view (f 0)) moved v

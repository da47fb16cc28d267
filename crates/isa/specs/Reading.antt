-- What two bytes read as. The meaning is `Reads`, stated from `Code` alone. `decoded` computes it from a map by first byte, `opcodes`:
-- the laws of proofs/Exact.antt show that the two agree, so a reader believes `Reads` and not the map. Assumes nothing.
use Rattle.std.specs.Prelude.{ℕ, zero, suc, ◌+◌, ◌*◌, ◌<◌, ◌≡◌, true, List, [], ◌∷◌, ltb, eqb, length, take, get_or, Option, Some, None}
use Rattle.isa.specs.Choice.{pick}
use Rattle.isa.specs.Code.{bytes_of, in_range}
use Rattle.isa.specs.declared.Pointer.{Pointer}
use Rattle.isa.specs.declared.Pointer.TheVariants.{R1R0, R3R2}
use Rattle.isa.specs.declared.Port.TheVariants.{Pm, Ps, Pp}
use Rattle.isa.specs.declared.Page.TheVariants.{Current, F}
use Rattle.isa.specs.declared.Condition.{Condition}
use Rattle.isa.specs.declared.Condition.TheVariants.{Ja, JnzR0, JnzR1, JnzR4, Jz, JnzA, Jc, Jnc, Jtmr}
use Rattle.isa.specs.declared.Instruction.{Instruction}
use Rattle.isa.specs.declared.Instruction.TheVariants as I

-- the bytes a, b read as i: i's fields are in range and its bytes are these (document 01, "Codes"). A one-byte code leaves b free
pub record Reads (a b : ℕ) (i : Instruction) : Type 0 where
  pub fields : in_range i ≡ true
  pub bytes : take (length (bytes_of i)) (a ∷ b ∷ []) ≡ bytes_of i

-- document 01's fault for each answer of the decoder, 0 for none: "An instruction that cannot be read gives fault 1"
abbrev pub fault_number : Option Instruction → ℕ
fault_number (Some i) = 0
fault_number None = 1

-- the answer is an instruction, and the bytes read as it
abbrev pub ReadAs : ℕ → ℕ → Option Instruction → Type 0
ReadAs a b (Some i) = Reads a b i
ReadAs a b None = ⊥

-- what an answer says of the bytes, by its fault: 0, they read as its instruction; 1, they read as none. Bytes alone give no other fault
abbrev pub Faulting : ℕ → ℕ → Option Instruction → ℕ → Type 0
Faulting a b d zero = ReadAs a b d
Faulting a b d (suc zero) = (i : Instruction) → Reads a b i → ⊥
Faulting a b d (suc (suc n)) = ⊥

abbrev pub Reading : ℕ → ℕ → Option Instruction → Type 0
Reading a b d = Faulting a b d (fault_number d)

-- two answers to the same bytes are one
abbrev pub ReadingDetermines : Type 0
ReadingDetermines = (a b : ℕ) (d e : Option Instruction) → b < 256 → Reading a b d → Reading a b e → d ≡ e

-- what a first byte leaves to its second
pub data Entry : Type 0 where
  undefined : Entry
  whole : Instruction → Entry
  fixed : ℕ → Instruction → Entry
  nibble : (ℕ → Instruction) → Entry
  byte : (ℕ → Instruction) → Entry

abbrev pub tab : ℕ → (ℕ → Entry) → List Entry → List Entry
tab zero f rest = rest
tab (suc n) f rest = f 0 ∷ tab n (λ (k : ℕ). f (suc k)) rest

abbrev pub pair : Pointer → ℕ → Entry
pair p low = nibble (λ (high : ℕ). I.MovPairXX p low high)

abbrev pub branch : Condition → ℕ → Entry
branch k high = byte (λ (low : ℕ). I.Branch (record { 0 = high * 256 + low }) k)

-- the opcode map by first byte: four a line to 4Fh, then a line for each run of one pattern
unfoldable pub opcodes : List Entry
opcodes =
    whole I.RrA ∷ whole I.RlA ∷ whole I.RrcA ∷ whole I.RlcA
    ∷ whole (I.MovAM R1R0) ∷ whole (I.MovMA R1R0) ∷ whole (I.MovAM R3R2) ∷ whole (I.MovMA R3R2)
    ∷ whole I.AdcAM ∷ whole I.AddAM ∷ whole I.SbcAM ∷ whole I.SubAM
    ∷ whole (I.IncM R1R0) ∷ whole (I.DecM R1R0) ∷ whole (I.IncM R3R2) ∷ whole (I.DecM R3R2)
    ∷ whole (I.IncR 0) ∷ whole (I.DecR 0) ∷ whole (I.IncR 1) ∷ whole (I.DecR 1)
    ∷ whole (I.IncR 2) ∷ whole (I.DecR 2) ∷ whole (I.IncR 3) ∷ whole (I.DecR 3)
    ∷ whole (I.IncR 4) ∷ whole (I.DecR 4) ∷ whole I.AndAM ∷ whole I.XorAM
    ∷ whole I.OrAM ∷ whole I.AndMA ∷ whole I.XorMA ∷ whole I.OrMA
    ∷ whole (I.MovRA 0) ∷ whole (I.MovAR 0) ∷ whole (I.MovRA 1) ∷ whole (I.MovAR 1)
    ∷ whole (I.MovRA 2) ∷ whole (I.MovAR 2) ∷ whole (I.MovRA 3) ∷ whole (I.MovAR 3)
    ∷ whole (I.MovRA 4) ∷ whole (I.MovAR 4) ∷ whole I.Clc ∷ whole I.Stc
    ∷ whole I.Ei ∷ whole I.Di ∷ whole I.Ret ∷ whole I.Reti
    ∷ whole I.OutPaA ∷ whole I.IncA ∷ whole (I.InA Pm) ∷ whole (I.InA Ps)
    ∷ whole (I.InA Pp) ∷ undefined ∷ whole I.Daa ∷ fixed 0x3e I.Halt
    ∷ whole I.TimerOn ∷ whole I.TimerOff ∷ whole I.MovATmrl ∷ whole I.MovATmrh
    ∷ whole I.MovTmrlA ∷ whole I.MovTmrhA ∷ whole I.Nop ∷ whole I.DecA
    ∷ nibble I.AddAX ∷ nibble I.SubAX ∷ nibble I.AndAX ∷ nibble I.XorAX
    ∷ nibble I.OrAX ∷ nibble I.SoundN ∷ nibble I.MovR4X ∷ byte I.TimerXX
    ∷ whole I.SoundOne ∷ whole I.SoundLoop ∷ whole I.SoundOff ∷ whole I.SoundA
    ∷ whole (I.ReadR4A Current) ∷ whole (I.ReadR4A F) ∷ whole (I.ReadMr0A Current) ∷ whole (I.ReadMr0A F)
    ∷ tab 16 (pair R1R0)
    (tab 16 (pair R3R2)
    (tab 16 (λ (d : ℕ). whole (I.MovAX d))
    (tab 8 (branch (Ja 0))
    (tab 8 (branch (Ja 1))
    (tab 8 (branch (Ja 2))
    (tab 8 (branch (Ja 3))
    (tab 8 (branch JnzR0)
    (tab 8 (branch JnzR1)
    (tab 8 (branch Jz)
    (tab 8 (branch JnzA)
    (tab 8 (branch Jc)
    (tab 8 (branch Jnc)
    (tab 8 (branch Jtmr)
    (tab 8 (branch JnzR4)
    (tab 16 (λ (high : ℕ). byte (λ (low : ℕ). I.Jmp (record { 0 = high * 256 + low })))
    (tab 16 (λ (high : ℕ). byte (λ (low : ℕ). I.Call (record { 0 = high * 256 + low })))
    []))))))))))))))))

-- an entry with its second byte
abbrev pub complete : Entry → ℕ → Option Instruction
complete undefined b = None
complete (whole i) b = Some i
complete (fixed k i) b = pick (eqb b k) (Some i) None
complete (nibble f) b = pick (ltb b 16) (Some (f b)) None
complete (byte f) b = Some (f b)

unfoldable pub decoded : ℕ → ℕ → Option Instruction
unfolding opcodes
decoded a b = complete (get_or opcodes a undefined) b

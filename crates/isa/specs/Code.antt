-- The instruction set as document 001 prints it: for each line of its instruction summary, in the summary's order, the bytes of
-- its "Machine code" line, and the range of the fields. Document 01, "Codes", says how the lines are read: nnn is 0 to 4, d a nibble,
-- and the first byte's nibble of 5d and 6d goes to R0 (R2), the second's to R1 (R3).
-- A binary numeral is the printed pattern with its field at 0. Assumes nothing.
use Rattle.std.specs.Prelude.{ℕ, ◌+◌, ◌*◌, ◌/◌, ◌%◌, Bool, true, ◌&&◌, List, [], ◌∷◌, ltb}
use Rattle.isa.specs.declared.Pointer.TheVariants.{R1R0, R3R2}
use Rattle.isa.specs.declared.Port.TheVariants.{Pm, Ps, Pp}
use Rattle.isa.specs.declared.Page.TheVariants.{Current, F}
use Rattle.isa.specs.declared.Condition.{Condition}
use Rattle.isa.specs.declared.Condition.TheVariants.{Ja, JnzR0, JnzR1, JnzR4, Jz, JnzA, Jc, Jnc, Jtmr}
use Rattle.isa.specs.declared.Instruction.{Instruction}
use Rattle.isa.specs.declared.Instruction.TheVariants as I

-- "A program address counts to 4,095": how many there are
abbrev pub addresses : ℕ
addresses = 4096

-- the five leading bits of a conditional branch
unfoldable pub leading : Condition → ℕ
leading (Ja n) = 0b1000_0000 + 8 * n
leading JnzR0 = 0b1010_0000
leading JnzR1 = 0b1010_1000
leading JnzR4 = 0b1101_1000
leading Jz = 0b1011_0000
leading JnzA = 0b1011_1000
leading Jc = 0b1100_0000
leading Jnc = 0b1100_1000
leading Jtmr = 0b1101_0000

-- "Machine code": the bytes of an instruction
unfoldable pub bytes_of : Instruction → List ℕ
unfolding leading
bytes_of I.AddAM = 0b0000_1001 ∷ []
bytes_of I.AdcAM = 0b0000_1000 ∷ []
bytes_of I.SubAM = 0b0000_1011 ∷ []
bytes_of I.SbcAM = 0b0000_1010 ∷ []
bytes_of (I.AddAX d) = 0b0100_0000 ∷ d ∷ []
bytes_of (I.SubAX d) = 0b0100_0001 ∷ d ∷ []
bytes_of I.Daa = 0b0011_0110 ∷ []
bytes_of I.AndAM = 0b0001_1010 ∷ []
bytes_of I.OrAM = 0b0001_1100 ∷ []
bytes_of I.XorAM = 0b0001_1011 ∷ []
bytes_of I.AndMA = 0b0001_1101 ∷ []
bytes_of I.OrMA = 0b0001_1111 ∷ []
bytes_of I.XorMA = 0b0001_1110 ∷ []
bytes_of (I.AndAX d) = 0b0100_0010 ∷ d ∷ []
bytes_of (I.OrAX d) = 0b0100_0100 ∷ d ∷ []
bytes_of (I.XorAX d) = 0b0100_0011 ∷ d ∷ []
bytes_of I.IncA = 0b0011_0001 ∷ []
bytes_of (I.IncR n) = (0b0001_0000 + 2 * n) ∷ []
bytes_of (I.IncM R1R0) = 0b0000_1100 ∷ []
bytes_of (I.IncM R3R2) = 0b0000_1110 ∷ []
bytes_of I.DecA = 0b0011_1111 ∷ []
bytes_of (I.DecR n) = (0b0001_0001 + 2 * n) ∷ []
bytes_of (I.DecM R1R0) = 0b0000_1101 ∷ []
bytes_of (I.DecM R3R2) = 0b0000_1111 ∷ []
bytes_of (I.MovAR n) = (0b0010_0001 + 2 * n) ∷ []
bytes_of (I.MovRA n) = (0b0010_0000 + 2 * n) ∷ []
bytes_of (I.MovAM R1R0) = 0b0000_0100 ∷ []
bytes_of (I.MovAM R3R2) = 0b0000_0110 ∷ []
bytes_of (I.MovMA R1R0) = 0b0000_0101 ∷ []
bytes_of (I.MovMA R3R2) = 0b0000_0111 ∷ []
bytes_of (I.MovAX d) = (0b0111_0000 + d) ∷ []
bytes_of (I.MovPairXX R1R0 low high) = (0b0101_0000 + low) ∷ high ∷ []
bytes_of (I.MovPairXX R3R2 low high) = (0b0110_0000 + low) ∷ high ∷ []
bytes_of (I.MovR4X d) = 0b0100_0110 ∷ d ∷ []
bytes_of I.RlA = 0b0000_0001 ∷ []
bytes_of I.RlcA = 0b0000_0011 ∷ []
bytes_of I.RrA = 0b0000_0000 ∷ []
bytes_of I.RrcA = 0b0000_0010 ∷ []
bytes_of (I.InA Pm) = 0b0011_0010 ∷ []
bytes_of (I.InA Ps) = 0b0011_0011 ∷ []
bytes_of (I.InA Pp) = 0b0011_0100 ∷ []
bytes_of I.OutPaA = 0b0011_0000 ∷ []
bytes_of (I.Jmp t) = (0b1110_0000 + t.0 / 256) ∷ (t.0 % 256) ∷ []
bytes_of (I.Branch t k) = (leading k + t.0 / 256) ∷ (t.0 % 256) ∷ []
bytes_of (I.Call t) = (0b1111_0000 + t.0 / 256) ∷ (t.0 % 256) ∷ []
bytes_of I.Ret = 0b0010_1110 ∷ []
bytes_of I.Reti = 0b0010_1111 ∷ []
bytes_of I.Clc = 0b0010_1010 ∷ []
bytes_of I.Stc = 0b0010_1011 ∷ []
bytes_of I.Ei = 0b0010_1100 ∷ []
bytes_of I.Di = 0b0010_1101 ∷ []
bytes_of I.Nop = 0b0011_1110 ∷ []
bytes_of (I.TimerXX x) = 0b0100_0111 ∷ x ∷ []
bytes_of I.TimerOn = 0b0011_1000 ∷ []
bytes_of I.TimerOff = 0b0011_1001 ∷ []
bytes_of I.MovATmrl = 0b0011_1010 ∷ []
bytes_of I.MovATmrh = 0b0011_1011 ∷ []
bytes_of I.MovTmrlA = 0b0011_1100 ∷ []
bytes_of I.MovTmrhA = 0b0011_1101 ∷ []
bytes_of (I.ReadR4A Current) = 0b0100_1100 ∷ []
bytes_of (I.ReadR4A F) = 0b0100_1101 ∷ []
bytes_of (I.ReadMr0A Current) = 0b0100_1110 ∷ []
bytes_of (I.ReadMr0A F) = 0b0100_1111 ∷ []
bytes_of (I.SoundN n) = 0b0100_0101 ∷ n ∷ []
bytes_of I.SoundA = 0b0100_1011 ∷ []
bytes_of I.SoundOne = 0b0100_1000 ∷ []
bytes_of I.SoundLoop = 0b0100_1001 ∷ []
bytes_of I.SoundOff = 0b0100_1010 ∷ []
bytes_of I.Halt = 0b0011_0111 ∷ 0b0011_1110 ∷ []

-- "nnn being 0 to 4", "d a nibble", JAn's n is 0 to 3; a branch holds 11 bits of its target, a jump and a call 12
unfoldable pub bit_in_range : Condition → Bool
bit_in_range (Ja n) = ltb n 4
bit_in_range JnzR0 = true
bit_in_range JnzR1 = true
bit_in_range JnzR4 = true
bit_in_range Jz = true
bit_in_range JnzA = true
bit_in_range Jc = true
bit_in_range Jnc = true
bit_in_range Jtmr = true

unfoldable pub in_range : Instruction → Bool
unfolding bit_in_range
in_range I.AddAM = true
in_range I.AdcAM = true
in_range I.SubAM = true
in_range I.SbcAM = true
in_range (I.AddAX d) = ltb d 16
in_range (I.SubAX d) = ltb d 16
in_range I.Daa = true
in_range I.AndAM = true
in_range I.OrAM = true
in_range I.XorAM = true
in_range I.AndMA = true
in_range I.OrMA = true
in_range I.XorMA = true
in_range (I.AndAX d) = ltb d 16
in_range (I.OrAX d) = ltb d 16
in_range (I.XorAX d) = ltb d 16
in_range I.IncA = true
in_range (I.IncR n) = ltb n 5
in_range (I.IncM p) = true
in_range I.DecA = true
in_range (I.DecR n) = ltb n 5
in_range (I.DecM p) = true
in_range (I.MovAR n) = ltb n 5
in_range (I.MovRA n) = ltb n 5
in_range (I.MovAM p) = true
in_range (I.MovMA p) = true
in_range (I.MovAX d) = ltb d 16
in_range (I.MovPairXX p low high) = ltb low 16 && ltb high 16
in_range (I.MovR4X d) = ltb d 16
in_range I.RlA = true
in_range I.RlcA = true
in_range I.RrA = true
in_range I.RrcA = true
in_range (I.InA p) = true
in_range I.OutPaA = true
in_range (I.Jmp t) = ltb t.0 addresses
in_range (I.Branch t k) = bit_in_range k && ltb t.0 2048
in_range (I.Call t) = ltb t.0 addresses
in_range I.Ret = true
in_range I.Reti = true
in_range I.Clc = true
in_range I.Stc = true
in_range I.Ei = true
in_range I.Di = true
in_range I.Nop = true
in_range (I.TimerXX x) = ltb x 256
in_range I.TimerOn = true
in_range I.TimerOff = true
in_range I.MovATmrl = true
in_range I.MovATmrh = true
in_range I.MovTmrlA = true
in_range I.MovTmrhA = true
in_range (I.ReadR4A p) = true
in_range (I.ReadMr0A p) = true
in_range (I.SoundN n) = ltb n 16
in_range I.SoundA = true
in_range I.SoundOne = true
in_range I.SoundLoop = true
in_range I.SoundOff = true
in_range I.Halt = true

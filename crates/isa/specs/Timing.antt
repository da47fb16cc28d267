-- The columns Byte and Cycle of document 001's instruction summary, and the list by first byte that document 01 asks for: "held in
-- one list of 256 entries by first byte, 0 and 0 where no pattern fits". Assumes nothing.
use Rattle.std.specs.Prelude.{ℕ, ◌+◌, ◌*◌, ◌<◌, ◌≡◌, List, [], ◌∷◌, get_or}
use Rattle.isa.specs.Reading.{Reads, Entry, undefined, whole, fixed, nibble, byte, opcodes}
use Rattle.isa.specs.declared.Instruction.{Instruction}
use Rattle.isa.specs.declared.Instruction.TheVariants as I

pub record Columns : Type 0 where
  pub bytes : ℕ
  pub cycles : ℕ

abbrev pub columns : ℕ → ℕ → Columns
columns l c = record { bytes = l; cycles = c }

-- the summary, in its order: Byte, then Cycle
unfoldable pub columns_of : Instruction → Columns
columns_of I.AddAM = columns 1 1
columns_of I.AdcAM = columns 1 1
columns_of I.SubAM = columns 1 1
columns_of I.SbcAM = columns 1 1
columns_of (I.AddAX d) = columns 2 2
columns_of (I.SubAX d) = columns 2 2
columns_of I.Daa = columns 1 1
columns_of I.AndAM = columns 1 1
columns_of I.OrAM = columns 1 1
columns_of I.XorAM = columns 1 1
columns_of I.AndMA = columns 1 1
columns_of I.OrMA = columns 1 1
columns_of I.XorMA = columns 1 1
columns_of (I.AndAX d) = columns 2 2
columns_of (I.OrAX d) = columns 2 2
columns_of (I.XorAX d) = columns 2 2
columns_of I.IncA = columns 1 1
columns_of (I.IncR n) = columns 1 1
columns_of (I.IncM p) = columns 1 1
columns_of I.DecA = columns 1 1
columns_of (I.DecR n) = columns 1 1
columns_of (I.DecM p) = columns 1 1
columns_of (I.MovAR n) = columns 1 1
columns_of (I.MovRA n) = columns 1 1
columns_of (I.MovAM p) = columns 1 1
columns_of (I.MovMA p) = columns 1 1
columns_of (I.MovAX d) = columns 1 1
columns_of (I.MovPairXX p low high) = columns 2 2
columns_of (I.MovR4X d) = columns 2 2
columns_of I.RlA = columns 1 1
columns_of I.RlcA = columns 1 1
columns_of I.RrA = columns 1 1
columns_of I.RrcA = columns 1 1
columns_of (I.InA p) = columns 1 1
columns_of I.OutPaA = columns 1 1
columns_of (I.Jmp t) = columns 2 2
columns_of (I.Branch t k) = columns 2 2
columns_of (I.Call t) = columns 2 2
columns_of I.Ret = columns 1 1
columns_of I.Reti = columns 1 1
columns_of I.Clc = columns 1 1
columns_of I.Stc = columns 1 1
columns_of I.Ei = columns 1 1
columns_of I.Di = columns 1 1
columns_of I.Nop = columns 1 1
columns_of (I.TimerXX x) = columns 2 2
columns_of I.TimerOn = columns 1 1
columns_of I.TimerOff = columns 1 1
columns_of I.MovATmrl = columns 1 1
columns_of I.MovATmrh = columns 1 1
columns_of I.MovTmrlA = columns 1 1
columns_of I.MovTmrhA = columns 1 1
columns_of (I.ReadR4A p) = columns 1 2
columns_of (I.ReadMr0A p) = columns 1 2
columns_of (I.SoundN n) = columns 2 2
columns_of I.SoundA = columns 1 1
columns_of I.SoundOne = columns 1 1
columns_of I.SoundLoop = columns 1 1
columns_of I.SoundOff = columns 1 1
columns_of I.Halt = columns 2 2

-- what the list's entry for a first byte is: the columns of every instruction that starts with it, 0 and 0 where there is none
pub record Timed (a : ℕ) (c : Columns) : Type 0 where
  pub read : (b : ℕ) (i : Instruction) → b < 256 → Reads a b i → c ≡ columns_of i
  pub unread : ((b : ℕ) (i : Instruction) → Reads a b i → ⊥) → c ≡ columns 0 0

-- the entry, computed from the map: the columns do not depend on the second byte
abbrev pub entry_columns : Entry → Columns
entry_columns undefined = columns 0 0
entry_columns (whole i) = columns_of i
entry_columns (fixed b i) = columns_of i
entry_columns (nibble f) = columns_of (f 0)
entry_columns (byte f) = columns_of (f 0)

unfoldable pub columns_at : ℕ → Columns
columns_at a = entry_columns (get_or opcodes a undefined)

abbrev pub length_of : ℕ → ℕ
length_of a = (columns_at a).bytes

abbrev pub cycles_of : ℕ → ℕ
cycles_of a = (columns_at a).cycles

-- an entry in one byte: the length in the high nibble, the cycles in the low one
abbrev pub packed : Columns → ℕ
packed c = 16 * c.bytes + c.cycles

abbrev pub entries_of : List Entry → List ℕ
entries_of [] = []
entries_of (e ∷ es) = packed (entry_columns e) ∷ entries_of es

-- the list
unfoldable pub entries : List ℕ
entries = entries_of opcodes

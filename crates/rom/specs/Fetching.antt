-- Reading at an address of a mask: document 01's numbers for what is refused, and what is read. Assumes nothing.
use Rattle.std.specs.Prelude.{ℕ, ◌+◌, ◌*◌, ◌/◌, ◌%◌, ◌<◌, Bool, List, ltb, eqb, length, get_or, Option, Some, None, Result, Ok, Err}
use Rattle.isa.specs.Choice.{pick}
use Rattle.isa.specs.Code.{addresses}
use Rattle.isa.specs.Reading.{fault_number, decoded}
use Rattle.isa.specs.Timing.{length_of, cycles_of}
use Rattle.isa.specs.declared.Instruction.{Instruction}
use Rattle.isa.specs.declared.ProgramAddress.{ProgramAddress}
use Rattle.refusals.specs.Numbers.{number_of}
use Rattle.refusals.specs.declared.Refusal.{Refusal}
use Rattle.rom.specs.declared.reader.Code.{Code}
use Rattle.rom.specs.declared.reader.Fetched.{Fetched}

-- the masks that are not refused, a byte an address: "1: mask not 4,096 bytes"
unfoldable pub sized : List ℕ → Bool
sized mask = eqb (length mask) addresses

-- "The byte after FFFh is the one at 0"
abbrev pub byte_at : List ℕ → ℕ → ℕ
byte_at mask a = get_or mask (a % addresses) 0

-- a list of bytes, as every lent slice is
abbrev pub Bytes : List ℕ → Type 0
Bytes mask = (k : ℕ) → get_or mask k 0 < 256

-- the code at an address: the byte there and the next one, which a code of one byte does not look at
unfoldable pub code_at : List ℕ → ℕ → Code
code_at mask a = record { first = byte_at mask a; second = byte_at mask (a + 1) }

-- what stands at an address, for the engine, the checker and the reader alike
unfoldable pub read_at : List ℕ → ℕ → Option Instruction
read_at mask a = decoded (code_at mask a).first (code_at mask a).second

-- its length and cycles, by the list's entry for its first byte
unfoldable pub length_at : List ℕ → ℕ → ℕ
length_at mask a = length_of (code_at mask a).first

unfoldable pub cycles_at : List ℕ → ℕ → ℕ
cycles_at mask a = cycles_of (code_at mask a).first

-- "PC moves on by the length, modulo 4,096": the moved address
abbrev pub moved_by : ℕ → ℕ → ℕ
moved_by size a = (a + size) % addresses

abbrev pub moved_from : List ℕ → ℕ → ℕ
moved_from mask a = moved_by (length_at mask a) a

-- "A conditional branch keeps bit 11 of that moved PC": bits 0 to 10 are the target's
abbrev pub branch_to : ℕ → ProgramAddress → ℕ
branch_to moved t = moved / 2048 * 2048 + t.0 % 2048

-- what stands at an address: refused with a number, a fault, or an instruction with its length and cycles
pub data Answer : Type 0 where
  refused : ℕ → Answer
  faulted : ℕ → Answer
  instruction : Instruction → ℕ → ℕ → Answer

-- the number and the values of each answer: 1 "mask not 4,096 bytes", 5 "address to read at over 4,095"; a fault
-- for what cannot be read
abbrev pub answer_of : Result (Option Fetched) Refusal → Answer
answer_of (Err r) = refused (number_of r)
answer_of (Ok None) = faulted (fault_number None)
answer_of (Ok (Some f)) = instruction f.instruction f.length f.cycles

-- a reading with its length and cycles
abbrev pub with_timing : ℕ → ℕ → Option Instruction → Answer
with_timing size cycles (Some i) = instruction i size cycles
with_timing size cycles None = faulted (fault_number None)

abbrev pub standing : List ℕ → ℕ → Answer
standing mask a = with_timing (length_at mask a) (cycles_at mask a) (read_at mask a)

-- "Checked in this order; the lowest number wins"
abbrev pub fetching : List ℕ → ℕ → Answer
fetching mask a = pick (sized mask) (pick (ltb a addresses) (standing mask a) (refused 5)) (refused 1)

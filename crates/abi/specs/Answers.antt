-- The two answers as numbers of eight bytes, lowest first. The refusals' numbers and the fault's are document 01's; their places in the number
-- are this interface's own. Assumes nothing.
use Rattle.std.specs.Prelude.{ℕ, ◌+◌, ◌*◌, ◌/◌, ◌%◌, ◌^◌, [], length, get_or, Option, Some, None}
use Rattle.isa.specs.declared.Instruction.{Instruction}
use Rattle.rom.specs.Fetching as Fetching
use Rattle.rom.specs.Fetching.{refused, faulted, instruction}
use Rattle.rom.specs.Writing as Writing
use Rattle.rom.specs.Writing.{writing}
use Rattle.abi.specs.Forms.{Named, numbers_of, named}

-- bytes 0 to 7: the refusal, the fault, the form, operand a, operand b in two, the length and the cycles
abbrev pub packed : ℕ → ℕ → ℕ → ℕ → ℕ → ℕ → ℕ → ℕ
packed refusal fault form a b size cycles =
    refusal + 2 ^ 8 * fault + 2 ^ 16 * form + 2 ^ 24 * a + 2 ^ 32 * b + 2 ^ 48 * size + 2 ^ 56 * cycles

abbrev pub packed_named : Named → ℕ → ℕ → ℕ
packed_named n size cycles = packed 0 0 n.form n.a n.b size cycles

-- what is refused or gives a fault has 0 in all else
abbrev pub read_number : Fetching.Answer → ℕ
read_number (refused n) = packed n 0 0 0 0 0 0
read_number (faulted n) = packed 0 n 0 0 0 0 0
read_number (instruction i size cycles) = packed_named (numbers_of i) size cycles

-- the form, the operands and the length, as a host takes them out of an answer
abbrev pub form_of : ℕ → ℕ
form_of r = r / 2 ^ 16 % 2 ^ 8

abbrev pub a_of : ℕ → ℕ
a_of r = r / 2 ^ 24 % 2 ^ 8

abbrev pub b_of : ℕ → ℕ
b_of r = r / 2 ^ 32 % 2 ^ 16

abbrev pub size_of : ℕ → ℕ
size_of r = r / 2 ^ 48 % 2 ^ 8

-- bytes 0 to 3: the refusal, how many bytes, the first and the second, 0 for one that is not there
abbrev pub packed_bytes : ℕ → ℕ → ℕ → ℕ → ℕ
packed_bytes refusal count first second = refusal + 2 ^ 8 * count + 2 ^ 16 * first + 2 ^ 24 * second

abbrev pub write_number : Writing.Answer → ℕ
write_number w = packed_bytes w.number (length w.bytes) (get_or w.bytes 0 0) (get_or w.bytes 1 0)

-- the refusal, the count and the bytes, as a host takes them out of an answer
abbrev pub refusal_of : ℕ → ℕ
refusal_of w = w % 2 ^ 8

abbrev pub count_of : ℕ → ℕ
count_of w = w / 2 ^ 8 % 2 ^ 8

abbrev pub first_of : ℕ → ℕ
first_of w = w / 2 ^ 16 % 2 ^ 8

abbrev pub second_of : ℕ → ℕ
second_of w = w / 2 ^ 24

-- "3: .. in an instruction to be written: a field outside its pattern", also where the numbers name no instruction
abbrev pub writing_by : Option Instruction → Writing.Answer
writing_by (Some i) = writing i
writing_by None = record { number = 3; bytes = [] }

abbrev pub writing_of : ℕ → ℕ → ℕ → Writing.Answer
writing_of form a b = writing_by (named form a b)

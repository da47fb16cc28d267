-- What the printing function writes assembles back (document 02, wish 4): the text of an instruction in range, on a line after an ORG to an address
-- where it fits, gives the instruction's bytes there. Assumes nothing.
use Rattle.std.specs.Prelude.{ℕ, ◌+◌, ◌≤◌, ◌≡◌, true, List, [], ◌∷◌, ◌++◌, length, replicate}
use Rattle.std.proofs.lemmas.List.Edits.{sets}
use Rattle.assembler.specs.Forms.{rom_size}
use Rattle.isa.specs.Code.{bytes_of, in_range}
use Rattle.isa.specs.declared.Instruction.{Instruction}
use Rattle.rom.specs.Fetching.{moved_by}
use Rattle.mnemonic.specs.Line.{text_of}
use Rattle.mnemonic.specs.Placing.{placed_at}
use Rattle.mnemonic.specs.Spelling.{codes, number}
use Rattle.operand.specs.Text.{LF}
use Rattle.assembler.specs.Program.{written, assembled}

-- the two lines: a conditional branch is printed with the whole target that it has at its address
abbrev pub printed : ℕ → Instruction → List ℕ
printed a i = codes "ORG " ++ number 3 a ++ (LF ∷ []) ++ text_of (placed_at (moved_by (length (bytes_of i)) a) i)

abbrev pub PrintsBack : Type 0
PrintsBack = (i : Instruction) (a : ℕ) → in_range i ≡ true → a + length (bytes_of i) ≤ rom_size
    → assembled (printed a i) ≡ written (sets (replicate rom_size 0x3e) a (bytes_of i))

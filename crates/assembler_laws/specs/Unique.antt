-- No two instructions in range are printed alike: of request 2's printing, by the laws of tokens and forms. Assumes nothing.
use Rattle.std.specs.Prelude.{◌≡◌, true}
use Rattle.isa.specs.Code.{in_range}
use Rattle.isa.specs.declared.Instruction.{Instruction}
use Rattle.mnemonic.specs.Line.{text_of}

abbrev pub PrintedOnce : Type 0
PrintedOnce = (i j : Instruction) → in_range i ≡ true → in_range j ≡ true → text_of i ≡ text_of j → i ≡ j

-- A refused text as the program prints it. Assumes nothing.
use Rattle.std.specs.Prelude.{ℕ, List, ◌++◌, codes, decimal}
use Rattle.refusals.specs.Text.{refusal_text}
use Rattle.assembler.specs.declared.refused.Refused.{Refused}

abbrev pub refused_text : Refused → List ℕ
refused_text r = refusal_text r.refusal ++ codes " at line " ++ decimal r.line

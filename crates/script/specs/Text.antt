-- A refused script as the programs print it. Assumes nothing.
use Rattle.std.specs.Prelude.{ℕ, List, ◌++◌, codes, decimal}
use Rattle.refusals.specs.Text.{refusal_text}
use Rattle.script.specs.declared.Refused.{Refused}

abbrev pub refused_text : Refused → List ℕ
refused_text r = refusal_text r.refusal ++ (codes " at " ++ decimal r.offset)

-- The fixed words, which no label is (document 02, wish 4: "no fixed word of a mnemonic (as MOV, A, R4) nor ORG"), are exactly the words of the lines
-- of document 001's summary, and ORG. Assumes nothing.
use Rattle.std.specs.Prelude.{ℕ, ◌≡◌, true}
use mathlib.Core.List.{List, Memᴰ}
use Rattle.isa.specs.Code.{in_range}
use Rattle.isa.specs.declared.Instruction.{Instruction}
use Rattle.mnemonic.specs.Line.{line_of}
use Rattle.mnemonic.specs.Spelling.{letters, codes}
use Rattle.operand.specs.Words.{is_fixed}

-- ORG, or a word that stands in the line of an instruction in range
pub data Stated (w : List ℕ) : Type 0 where
  org : w ≡ codes "ORG" → Stated w
  mnemonic : (i : Instruction) → in_range i ≡ true → Memᴰ (letters w) (line_of i) → Stated w

pub record FixedExactly : Type 0 where
  pub sound : (w : List ℕ) → is_fixed w ≡ true → Stated w
  pub full : (w : List ℕ) → Stated w → is_fixed w ≡ true

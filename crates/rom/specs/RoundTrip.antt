-- Reading and writing are inverse. `isa::decode` promises `Reading a b d` of two bytes, and `rom::encode` promises `answer_of w ≡ writing i` of an
-- instruction. Assumes nothing.
use Rattle.std.specs.Prelude.{ℕ, ◌<◌, ◌≡◌, [], ◌∷◌, length, take, Option, Some, Result, Ok}
use Rattle.isa.specs.Code.{bytes_of}
use Rattle.isa.specs.Reading.{Reading}
use Rattle.isa.specs.declared.Instruction.{Instruction}
use Rattle.rom.specs.Writing.{answer_of, writing}
use Rattle.refusals.specs.declared.Refusal.{Refusal}
use Rattle.rom.specs.declared.encoder.Written.{Written}
use Rattle.rom.specs.declared.encoder.Written.TheVariants.{One, Two}

pub record RoundTrip : Type 0 where
  -- what two bytes read as writes back to these bytes
  pub written_back : (a b : ℕ) (i : Instruction) (w : Result Written Refusal) → Reading a b (Some i) → answer_of w ≡ writing i
      → answer_of w ≡ record { number = 0; bytes = take (length (bytes_of i)) (a ∷ b ∷ []) }
  -- what is written in one byte reads back, whatever byte follows; what is written in two bytes reads back
  pub read-back-one : (i : Instruction) (a b : ℕ) (d : Option Instruction) → b < 256 → answer_of (Ok (One a)) ≡ writing i → Reading a b d → d ≡ Some i
  pub read-back-two : (i : Instruction) (a b : ℕ) (d : Option Instruction) → b < 256 → answer_of (Ok (Two a b)) ≡ writing i → Reading a b d → d ≡ Some i

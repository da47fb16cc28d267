-- What the encoder answers: document 01's number, 0 where nothing is refused, and the bytes. "3: in an instruction to be written: a
-- field outside its pattern". Assumes nothing.
use Rattle.std.specs.Prelude.{ℕ, Bool, true, false, List, [], ◌∷◌, Result, Ok, Err}
use Rattle.isa.specs.Code.{bytes_of, in_range}
use Rattle.isa.specs.declared.Instruction.{Instruction}
use Rattle.refusals.specs.Numbers.{number_of}
use Rattle.refusals.specs.declared.Refusal.{Refusal}
use Rattle.rom.specs.declared.encoder.Written.{Written}
use Rattle.rom.specs.declared.encoder.Written.TheVariants.{One, Two}

pub record Answer : Type 0 where
  pub number : ℕ
  pub bytes : List ℕ

-- the number and the bytes of each answer
abbrev pub answer_of : Result Written Refusal → Answer
answer_of (Ok (One a)) = record { number = 0; bytes = a ∷ [] }
answer_of (Ok (Two a b)) = record { number = 0; bytes = a ∷ b ∷ [] }
answer_of (Err r) = record { number = number_of r; bytes = [] }

-- these bytes where the fields fit, else refusal 3
abbrev pub fitting : Bool → List ℕ → Answer
fitting true s = record { number = 0; bytes = s }
fitting false s = record { number = 3; bytes = [] }

abbrev pub writing : Instruction → Answer
writing i = fitting (in_range i) (bytes_of i)

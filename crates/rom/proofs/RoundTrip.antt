-- Document 01's demand on reading and writing, over what the exported functions promise: whatever `decode` reads writes back to the
-- same bytes, and whatever `encode` writes reads back as the same instruction, whatever byte follows a one_byte code.
-- `encode`'s promise is `answer_of w ≡ writing i`, and `decode`'s is `Reading a b d`. Assumes nothing.
use Prim.Native.Nat.{ℕ, ◌<◌}
use mathlib.Core.Path.{◌≡◌, refl, sym, ap, ◌∙◌}
use mathlib.Core.Bool.{Bool, true, false}
use mathlib.Core.List.{List, [], ◌∷◌}
use native.Mathlib.Omega.{arith}
use lib.ListN.{length, take}
use Rattle.std.specs.Prelude.{Option, Some, Result, Ok}
use Rattle.isa.specs.Code.{bytes_of, in_range}
use Rattle.isa.specs.Reading.{Reading}
use Rattle.rom.specs.RoundTrip.{RoundTrip}
use Rattle.rom.specs.Writing.{Answer, answer_of, fitting, writing}
use Rattle.isa.specs.declared.Instruction.{Instruction}
use Rattle.refusals.specs.declared.Refusal.{Refusal}
use Rattle.rom.specs.declared.encoder.Written.{Written}
use Rattle.rom.specs.declared.encoder.Written.TheVariants.{One, Two}
use Rattle.isa.proofs.Exact.{back, reading, one_byte, two-byte}

-- what two bytes read as writes back to these bytes
pub written_back : (a b : ℕ) (i : Instruction) (w : Result Written Refusal) → Reading a b (Some i) → answer_of w ≡ writing i → answer_of w ≡ record { number = 0; bytes = take (length (bytes_of i)) (a ∷ b ∷ []) }
written_back a b i w r e = e ∙ rw r.fields (ap (λ (s : List ℕ). record { number = 0; bytes = s }) (sym r.bytes))

-- an answer with number 0 is the bytes of an instruction in range
done : (t : Bool) (s : List ℕ) (x : List ℕ) → ◌≡◌ {A = Answer} (record { number = 0; bytes = x }) (fitting t s) → (t ≡ true) × (s ≡ x)
done true s x e = (refl, sym (ap (λ (r : Answer). r.bytes) e))
done false s x e = absurd (omega (arith, ap (λ (r : Answer). r.number) e))

-- what is written in one byte reads back, whatever byte follows
pub read-back-one : (i : Instruction) (a b : ℕ) (d : Option Instruction) → b < 256 → answer_of (Ok (One a)) ≡ writing i → Reading a b d → d ≡ Some i
read-back-one i a b d h e r =
    let w = done (in_range i) (bytes_of i) (a ∷ []) e in
    reading a b d h r ∙ back a b i (one_byte w.0 w.1 refl)

-- what is written in two bytes reads back
pub read-back-two : (i : Instruction) (a b : ℕ) (d : Option Instruction) → b < 256 → answer_of (Ok (Two a b)) ≡ writing i → Reading a b d → d ≡ Some i
read-back-two i a b d h e r =
    let w = done (in_range i) (bytes_of i) (a ∷ b ∷ []) e in
    reading a b d h r ∙ back a b i (two-byte w.0 w.1 refl refl)

pub round_trip : RoundTrip
round_trip = record { written_back = written_back; read-back-one = read-back-one; read-back-two = read-back-two }

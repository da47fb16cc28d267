-- The laws of fetching, for those who read a mask: what they ask of it they ask here, and no other proof looks at how a code is fetched. Assumes
-- nothing.
use Prim.Native.Nat.{ℕ, ◌+◌, ◌%◌, ◌<◌}
use mathlib.Core.Path.{◌≡◌, refl, sym, ap, ◌∙◌}
use mathlib.Core.Bool.{Bool, true, false}
use mathlib.Core.List.{List}
use native.Mathlib.Omega.{arith}
use borrow.Author.Tests.{eq-eqb}
use lib.ListN.{length, get_or}
use Rattle.std.specs.Prelude.{Option, Some, Result, Ok}
use Rattle.refusals.specs.Numbers.{refusal_of}
use Rattle.refusals.specs.declared.Refusal.{Refusal}
use Rattle.isa.specs.Choice.{pick}
use Rattle.isa.specs.Code.{addresses, in_range}
use Rattle.isa.specs.Reading.{Reading, decoded}
use Rattle.isa.specs.Timing.{Columns, columns_at, columns_of, cycles_of, entries, length_of}
use Rattle.isa.proofs.Exact.{reading, sound, timed}
use Rattle.isa.proofs.List.{cycles_at_entry}
use Rattle.isa.specs.declared.Instruction.{Instruction}
use Rattle.rom.specs.Fetching.{sized, Bytes, byte_at, code_at, read_at, length_at, cycles_at}
use Rattle.rom.specs.declared.reader.Code.{Code}

-- 4,096 bytes are a mask
pub full : (mask : List ℕ) → length mask ≡ addresses → sized mask ≡ true
unfolding sized
full mask e = eq-eqb (length mask) addresses e

-- what refuses a mask with 1 where t is false, and answers, says that t is true
pub mask-passes : {A : Type 0} (t : Bool) (r : Result A Refusal) (x : A) → refusal_of r ≡ pick t 0 1 → r ≡ Ok x → t ≡ true
mask-passes true r x e p = refl
mask-passes false r x e p = absurd (omega (arith, e, ap refusal_of p))

module _ (mask : List ℕ) (a : ℕ) where
  pub byte_small : Bytes mask → byte_at mask a < 256
  byte_small bytes = bytes (a % addresses)

  -- ---- what a code reads as
  pub code-small : Bytes mask → (code_at mask a).second < 256
  unfolding code_at
  code-small bytes = bytes ((a + 1) % addresses)

  pub read-code : decoded (code_at mask a).first (code_at mask a).second ≡ read_at mask a
  unfolding read_at
  read-code = refl

  pub length-code : length_of (code_at mask a).first ≡ length_at mask a
  unfolding length_at
  length-code = refl

  pub cycles-code : cycles_of (code_at mask a).first ≡ cycles_at mask a
  unfolding cycles_at
  cycles-code = refl

  -- ---- the same by the byte at the address and the next one
  pub code-bytes : code_at mask a ≡ record { first = byte_at mask a; second = byte_at mask (a + 1) }
  unfolding code_at
  code-bytes = refl

  pub read-bytes : read_at mask a ≡ decoded (byte_at mask a) (byte_at mask (a + 1))
  read-bytes = sym read-code ∙ ap (λ (k : Code). decoded k.first k.second) code-bytes

  pub length-bytes : length_at mask a ≡ length_of (byte_at mask a)
  length-bytes = sym length-code ∙ ap (λ (k : Code). length_of k.first) code-bytes

  pub cycles-bytes : cycles_at mask a ≡ cycles_of (byte_at mask a)
  cycles-bytes = sym cycles-code ∙ ap (λ (k : Code). cycles_of k.first) code-bytes

  -- ---- what stands there
  -- the list's entry has the cycles
  pub cycles-entry : get_or entries (code_at mask a).first 0 % 16 ≡ cycles_at mask a
  cycles-entry = cycles_at_entry (code_at mask a).first ∙ cycles-code

  -- what the decoder answers for the code is what stands there
  module _ (c : Code) (at : c ≡ code_at mask a) (h : c.second < 256) (d : Option Instruction) (r : Reading c.first c.second d) where
    pub read-there : d ≡ read_at mask a
    read-there = reading c.first c.second d h r ∙ ap (λ (k : Code). decoded k.first k.second) at ∙ read-code

  -- an instruction that stands there is in range, and takes the cycles of its columns
  module _ (bytes : Bytes mask) (i : Instruction) (e : read_at mask a ≡ Some i) where
    stands : Reading (code_at mask a).first (code_at mask a).second (Some i)
    stands = sound (code_at mask a).first (code_at mask a).second i (code-small bytes) (read-code ∙ e)

    pub read-fields : in_range i ≡ true
    read-fields = stands.fields

    columns-there : columns_at (code_at mask a).first ≡ columns_of i
    columns-there = (timed (code_at mask a).first).read (code_at mask a).second i (code-small bytes) stands

    pub read-cycles : cycles_at mask a ≡ (columns_of i).cycles
    read-cycles = sym cycles-code ∙ ap (λ (c : Columns). c.cycles) columns-there

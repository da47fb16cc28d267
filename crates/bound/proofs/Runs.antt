-- Only 37h with 3Eh after it reads as HALT. Assumes nothing.
use Prim.Native.Nat.{ℕ, ◌<◌}
use mathlib.Core.Path.{◌≡◌, refl}
use mathlib.Core.List.{[], ◌∷◌}
use Rattle.std.specs.Prelude.{Some}
use Rattle.isa.specs.Code.{bytes_of}
use Rattle.isa.specs.Reading.{opcodes, decoded}
use Rattle.isa.specs.declared.Instruction.TheVariants as I
use Rattle.isa.proofs.Exact.{sound}

pub halt : (a b : ℕ) → a ≡ 0x37 → b ≡ 0x3e → decoded a b ≡ Some I.Halt
unfolding decoded opcodes
halt a b p q = rw (p, q) refl

pub halts : (a b : ℕ) → b < 256 → decoded a b ≡ Some I.Halt → (a ≡ 0x37) × (b ≡ 0x3e)
unfolding bytes_of
halts a b h e = let r : a ∷ b ∷ [] ≡ 0x37 ∷ 0x3e ∷ [] = (sound a b I.Halt h e).bytes in (cc, cc)

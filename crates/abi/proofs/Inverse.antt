-- The two tables of numbers are inverse: what `numbers_of` says of an instruction whose fields are in range, `named` takes back. The proof goes by the
-- cases of an instruction, and shows beside it that the numbers fit their places and that the list's length is the count of bytes. Assumes nothing.
use Prim.Native.Nat.{ℕ, zero, suc, ◌+◌, ◌*◌, ◌/◌, ◌%◌, ◌<◌, ◌≤◌}
use mathlib.Core.Path.{◌≡◌, refl}
use mathlib.Core.Bool.{Bool, true, ◌&&◌}
use native.Mathlib.Omega.{arith}
use lib.Dec.{ltb}
use lib.ListN.{length}
use borrow.Author.Tests.{lt-ltb, ltb-true}
use Rattle.std.specs.Prelude.{Some}
use Rattle.isa.specs.Code.{addresses, bytes_of, in_range, leading, bit_in_range}
use Rattle.isa.specs.Timing.{columns_of}
use Rattle.isa.specs.declared.Pointer.{Pointer}
use Rattle.isa.specs.declared.Pointer.TheVariants.{R1R0, R3R2}
use Rattle.isa.specs.declared.Port.TheVariants.{Pm, Ps, Pp}
use Rattle.isa.specs.declared.Page.TheVariants.{Current, F}
use Rattle.isa.specs.declared.Condition.TheVariants.{Ja, JnzR0, JnzR1, JnzR4, Jz, JnzA, Jc, Jnc, Jtmr}
use Rattle.isa.specs.declared.Instruction.{Instruction}
use Rattle.isa.specs.declared.Instruction.TheVariants as I
use Rattle.isa.proofs.Exact.{and_left, and_right}
use Rattle.abi.specs.Forms.{Named, numbers_of, provided, branch_named, pair_named, forms, named}

-- a form and an operand a of a byte, an operand b of two
abbrev pub fitting : Named → Bool
fitting n = ltb n.form 256 && (ltb n.a 256 && ltb n.b 65536)

pub record Hosted (i : Instruction) : Type 0 where
  pub back : named (numbers_of i).form (numbers_of i).a (numbers_of i).b ≡ Some i
  pub fits : fitting (numbers_of i) ≡ true
  pub sized : length (bytes_of i) ≡ (columns_of i).bytes
  pub short : (columns_of i).bytes < 3

host : {i : Instruction} → named (numbers_of i).form (numbers_of i).a (numbers_of i).b ≡ Some i → fitting (numbers_of i) ≡ true
    → (length (bytes_of i) ≡ (columns_of i).bytes) × (ltb (columns_of i).bytes 3 ≡ true) → Hosted i
host {i} b f s = record { back = b; fits = f; sized = s.0; short = ltb-true (columns_of i).bytes 3 s.1 }

in-a : (d n : ℕ) → n ≤ 256 → ltb d n ≡ true → ltb d 256 && true ≡ true
in-a d n l h = rw (lt-ltb d 256 (omega (arith, ltb-true d n h))) refl

in_b : (d n : ℕ) → n ≤ 65536 → ltb d n ≡ true → ltb d 65536 ≡ true
in_b d n l h = lt-ltb d 65536 (omega (arith, ltb-true d n h))

no-bit : (n : ℕ) → ltb (suc (suc (suc (suc n)))) 4 ≡ true → ⊥
no-bit n h = omega (arith, ltb-true (suc (suc (suc (suc n)))) 4 h)

-- XX, taken apart
module _ (low high : ℕ) (h : ltb low 16 && ltb high 16 ≡ true) where
  low_below : low < 16
  low_below = ltb-true low 16 (and_left (ltb low 16) (ltb high 16) h)

  high-below : high < 16
  high-below = ltb-true high 16 (and_right (ltb low 16) (ltb high 16) h)

  xx-fits : ltb (16 * high + low) 65536 ≡ true
  xx-fits = lt-ltb (16 * high + low) 65536 (omega (arith, low_below, high-below))

  xx-back : (p : Pointer) → provided (ltb (16 * high + low) 256) (Some (I.MovPairXX p ((16 * high + low) % 16) ((16 * high + low) / 16))) ≡ Some (I.MovPairXX p low high)
  xx-back p =
      let e : (16 * high + low) % 16 ≡ low = omega (arith, low_below) in
      let f : (16 * high + low) / 16 ≡ high = omega (arith, low_below) in
      rw (lt-ltb (16 * high + low) 256 (omega (arith, low_below, high-below)), e, f) refl

pub by_form : (i : Instruction) → in_range i ≡ true → Hosted i
unfolding numbers_of branch_named pair_named forms named bytes_of leading in_range bit_in_range columns_of
by_form I.AddAM h = host refl refl (refl, refl)
by_form I.AdcAM h = host refl refl (refl, refl)
by_form I.SubAM h = host refl refl (refl, refl)
by_form I.SbcAM h = host refl refl (refl, refl)
by_form (I.AddAX d) h = host refl (in-a d 16 (omega arith) h) (refl, refl)
by_form (I.SubAX d) h = host refl (in-a d 16 (omega arith) h) (refl, refl)
by_form I.Daa h = host refl refl (refl, refl)
by_form I.AndAM h = host refl refl (refl, refl)
by_form I.OrAM h = host refl refl (refl, refl)
by_form I.XorAM h = host refl refl (refl, refl)
by_form I.AndMA h = host refl refl (refl, refl)
by_form I.OrMA h = host refl refl (refl, refl)
by_form I.XorMA h = host refl refl (refl, refl)
by_form (I.AndAX d) h = host refl (in-a d 16 (omega arith) h) (refl, refl)
by_form (I.OrAX d) h = host refl (in-a d 16 (omega arith) h) (refl, refl)
by_form (I.XorAX d) h = host refl (in-a d 16 (omega arith) h) (refl, refl)
by_form I.IncA h = host refl refl (refl, refl)
by_form (I.IncR n) h = host refl (in-a n 5 (omega arith) h) (refl, refl)
by_form (I.IncM R1R0) h = host refl refl (refl, refl)
by_form (I.IncM R3R2) h = host refl refl (refl, refl)
by_form I.DecA h = host refl refl (refl, refl)
by_form (I.DecR n) h = host refl (in-a n 5 (omega arith) h) (refl, refl)
by_form (I.DecM R1R0) h = host refl refl (refl, refl)
by_form (I.DecM R3R2) h = host refl refl (refl, refl)
by_form (I.MovAR n) h = host refl (in-a n 5 (omega arith) h) (refl, refl)
by_form (I.MovRA n) h = host refl (in-a n 5 (omega arith) h) (refl, refl)
by_form (I.MovAM R1R0) h = host refl refl (refl, refl)
by_form (I.MovAM R3R2) h = host refl refl (refl, refl)
by_form (I.MovMA R1R0) h = host refl refl (refl, refl)
by_form (I.MovMA R3R2) h = host refl refl (refl, refl)
by_form (I.MovAX d) h = host refl (in-a d 16 (omega arith) h) (refl, refl)
by_form (I.MovPairXX R1R0 low high) h = host (xx-back low high h R1R0) (xx-fits low high h) (refl, refl)
by_form (I.MovPairXX R3R2 low high) h = host (xx-back low high h R3R2) (xx-fits low high h) (refl, refl)
by_form (I.MovR4X d) h = host refl (in-a d 16 (omega arith) h) (refl, refl)
by_form I.RlA h = host refl refl (refl, refl)
by_form I.RlcA h = host refl refl (refl, refl)
by_form I.RrA h = host refl refl (refl, refl)
by_form I.RrcA h = host refl refl (refl, refl)
by_form (I.InA Pm) h = host refl refl (refl, refl)
by_form (I.InA Ps) h = host refl refl (refl, refl)
by_form (I.InA Pp) h = host refl refl (refl, refl)
by_form I.OutPaA h = host refl refl (refl, refl)
by_form (I.Jmp t) h = host refl (in_b t.0 addresses (omega arith) h) (refl, refl)
by_form (I.Branch t (Ja zero)) h = host refl (in_b t.0 2048 (omega arith) h) (refl, refl)
by_form (I.Branch t (Ja (suc zero))) h = host refl (in_b t.0 2048 (omega arith) h) (refl, refl)
by_form (I.Branch t (Ja (suc (suc zero)))) h = host refl (in_b t.0 2048 (omega arith) h) (refl, refl)
by_form (I.Branch t (Ja (suc (suc (suc zero))))) h = host refl (in_b t.0 2048 (omega arith) h) (refl, refl)
by_form (I.Branch t (Ja (suc (suc (suc (suc n)))))) h = absurd (no-bit n (and_left (ltb (suc (suc (suc (suc n)))) 4) (ltb t.0 2048) h))
by_form (I.Branch t JnzR0) h = host refl (in_b t.0 2048 (omega arith) h) (refl, refl)
by_form (I.Branch t JnzR1) h = host refl (in_b t.0 2048 (omega arith) h) (refl, refl)
by_form (I.Branch t JnzR4) h = host refl (in_b t.0 2048 (omega arith) h) (refl, refl)
by_form (I.Branch t Jz) h = host refl (in_b t.0 2048 (omega arith) h) (refl, refl)
by_form (I.Branch t JnzA) h = host refl (in_b t.0 2048 (omega arith) h) (refl, refl)
by_form (I.Branch t Jc) h = host refl (in_b t.0 2048 (omega arith) h) (refl, refl)
by_form (I.Branch t Jnc) h = host refl (in_b t.0 2048 (omega arith) h) (refl, refl)
by_form (I.Branch t Jtmr) h = host refl (in_b t.0 2048 (omega arith) h) (refl, refl)
by_form (I.Call t) h = host refl (in_b t.0 addresses (omega arith) h) (refl, refl)
by_form I.Ret h = host refl refl (refl, refl)
by_form I.Reti h = host refl refl (refl, refl)
by_form I.Clc h = host refl refl (refl, refl)
by_form I.Stc h = host refl refl (refl, refl)
by_form I.Ei h = host refl refl (refl, refl)
by_form I.Di h = host refl refl (refl, refl)
by_form I.Nop h = host refl refl (refl, refl)
by_form (I.TimerXX x) h = host refl (in-a x 256 (omega arith) h) (refl, refl)
by_form I.TimerOn h = host refl refl (refl, refl)
by_form I.TimerOff h = host refl refl (refl, refl)
by_form I.MovATmrl h = host refl refl (refl, refl)
by_form I.MovATmrh h = host refl refl (refl, refl)
by_form I.MovTmrlA h = host refl refl (refl, refl)
by_form I.MovTmrhA h = host refl refl (refl, refl)
by_form (I.ReadR4A Current) h = host refl refl (refl, refl)
by_form (I.ReadR4A F) h = host refl refl (refl, refl)
by_form (I.ReadMr0A Current) h = host refl refl (refl, refl)
by_form (I.ReadMr0A F) h = host refl refl (refl, refl)
by_form (I.SoundN n) h = host refl (in-a n 16 (omega arith) h) (refl, refl)
by_form I.SoundA h = host refl refl (refl, refl)
by_form I.SoundOne h = host refl refl (refl, refl)
by_form I.SoundLoop h = host refl refl (refl, refl)
by_form I.SoundOff h = host refl refl (refl, refl)
by_form I.Halt h = host refl refl (refl, refl)

-- an instruction's numbers name that instruction
pub inverse : (i : Instruction) → in_range i ≡ true → named (numbers_of i).form (numbers_of i).a (numbers_of i).b ≡ Some i
inverse i h = (by_form i h).back

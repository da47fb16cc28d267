-- An instruction's own line is that of its form with its value: placed at the start of the program, an instruction in range is as it was, and a
-- placed one has such a line (Cases). Assumes nothing.
use Prim.Native.Nat.{ℕ}
use native.Mathlib.Omega.{arith}
use mathlib.Core.Path.{◌≡◌, refl, sym, ap, ◌∙◌}
use mathlib.Core.Bool.{true}
use lib.Dec.{ltb}
use borrow.Author.Tests.{ltb-true}
use Rattle.isa.specs.Code.{in_range, bit_in_range}
use Rattle.isa.specs.Views.{View, on, jmp, branch, call, ret, reti, ei, view}
use Rattle.isa.specs.declared.Instruction.{Instruction}
use Rattle.isa.specs.declared.Instruction.TheVariants as I
use Rattle.isa.proofs.Exact.{and_right}
use Rattle.rom.specs.Fetching.{branch_to}
use Rattle.mnemonic.specs.Line.{line_of}
use Rattle.mnemonic.specs.Placing.{placed_by, placed_at}
use Rattle.assembler_laws.proofs.Cases.{Case, case}
use Rattle.assembler_laws.proofs.Spoken.{line-of}

as_it_was : {i : Instruction} (v : View i) → in_range i ≡ true → placed_by 0 v ≡ i
unfolding in_range
as_it_was on r = refl
as_it_was (jmp t) r = refl
as_it_was (branch t k) r =
    let h = ltb-true t.0 2048 (and_right (bit_in_range k) (ltb t.0 2048) r) in
    let e : branch_to 0 t ≡ t.0 = omega arith in
    ap (λ (n : ℕ). I.Branch (record { 0 = n }) k) e
as_it_was (call t) r = refl
as_it_was ret r = refl
as_it_was reti r = refl
as_it_was ei r = refl

pub own-case : (i : Instruction) → in_range i ≡ true → Case 0 i
own-case i r = case 0 (omega arith) i r

pub own_line : (i : Instruction) (r : in_range i ≡ true) → line_of i ≡ line-of (own-case i r).form (own-case i r).value
unfolding placed_at
own_line i r = ap line_of (sym (as_it_was (view i) r)) ∙ (own-case i r).line

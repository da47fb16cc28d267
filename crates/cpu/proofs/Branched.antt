-- Where a conditional branch leaves the PC: its test has been made, and the PC is the target's or as it was. Assumes nothing.
use Rattle.std.proofs.Common.{◌≡◌, ℕ, Bool, true, false, refl, ap}
use Rattle.isa.specs.Choice.{pick}
use Rattle.isa.specs.declared.Condition.{Condition}
use Rattle.isa.specs.declared.ProgramAddress.{ProgramAddress}
use Rattle.rom.specs.Fetching.{branch_to}
use Rattle.cpu.specs.State.{address, with_pc}
use Rattle.cpu.specs.Effect.{branched, holds, tested}
use Rattle.cpu.specs.declared.Cpu.{Cpu}
use Rattle.cpu.proofs.Leaves.{Standing, tested-same}

pub branched_pc : (k : Condition) (t : ProgramAddress) (c : Cpu)
    → branched k t c ≡ with_pc (address (pick (holds k c) (branch_to c.control.pc.0 t) c.control.pc.0)) (tested k c)
unfolding branched
branched_pc k t c = go (holds k c)
  where
    go : (b : Bool) → pick b (with_pc (address (branch_to c.control.pc.0 t)) (tested k c)) (tested k c)
        ≡ with_pc (address (pick b (branch_to c.control.pc.0 t) c.control.pc.0)) (tested k c)
    go true = refl
    go false = ap (λ (n : ℕ). with_pc (address n) (tested k c)) (ap (λ (s : Standing). s.pc) (tested-same k c))

-- An instruction as a listing at an address shows it: "A conditional branch keeps bit 11 of that moved PC", so its whole target has it.
-- Assumes nothing.
use Rattle.std.specs.Prelude.{ℕ}
use Rattle.isa.specs.Views.{View, on, jmp, branch, call, ret, reti, ei, view}
use Rattle.isa.specs.declared.Instruction.{Instruction}
use Rattle.isa.specs.declared.Instruction.TheVariants as I
use Rattle.rom.specs.Fetching.{branch_to}

abbrev pub placed_by : ℕ → {i : Instruction} → View i → Instruction
placed_by moved {i} on = i
placed_by moved (jmp t) = I.Jmp t
placed_by moved (branch t k) = I.Branch (record { 0 = branch_to moved t }) k
placed_by moved (call t) = I.Call t
placed_by moved ret = I.Ret
placed_by moved reti = I.Reti
placed_by moved ei = I.Ei

-- the same instruction, a conditional branch with its whole target
unfoldable pub placed_at : ℕ → Instruction → Instruction
placed_at moved i = placed_by moved (view i)

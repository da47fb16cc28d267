-- `mnemonic::line::placed` meets its contract: the last arm knows that the instruction is no branch. Assumes nothing.
use Prim.Native.Nat.{ℕ, zero, suc}
use mathlib.Core.Path.{◌≡◌, refl, sym, ap}
use mathlib.Core.List.{List, [], ◌∷◌, ◌++◌}
use types.Run.{OneOf, miss}
use denote.Enum.Declared.{tag_of}
use Rattle.isa.specs.Views.{View, on, jmp, branch, call, ret, reti, ei, view}
use Rattle.isa.specs.declared.Instruction.{Instruction}
use Rattle.isa.specs.declared.Instruction.TheVariants as I
use Rattle.isa.specs.contracts.Instruction.{the_type}
use Rattle.mnemonic.specs.Placing.{placed_by, placed_at}
use borrow.Enum.Refused.{opened}
use Rattle.mnemonic.proofs.line.placed.Goals as goal

-- the last arm's keys, places in the enum: all of its 60 but 36, a branch
abbrev run : ℕ → ℕ → List ℕ
run first zero = []
run first (suc n) = first ∷ run (suc first) n

abbrev others : List ℕ
others = run 0 36 ++ run 37 23

same : (moved : ℕ) {i : Instruction} (v : View i) → OneOf others (tag_of the_type i) → i ≡ placed_by moved v
same moved on h = refl
same moved (jmp t) h = refl
same moved (branch t k) h = absurd (miss others (tag_of the_type (I.Branch t k)) tt h)
same moved (call t) h = refl
same moved ret h = refl
same moved reti h = refl
same moved ei h = refl

pub returns-in-Branch : goal.returns-in-Branch
unfolding placed_at view
returns-in-Branch c = sym (ap (placed_at c.args.moved) c.in-Branch.is)

pub returns-in_default : goal.returns-in_default
unfolding placed_at
returns-in_default c = same c.args.moved (view c.args.instruction) (opened c.in_default.in_default-own.keys2)

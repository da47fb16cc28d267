-- What the bytes of an accepted text are (document 02, wish 4): reading them at a line's address gives that line's instruction, and every byte that
-- no line writes is 3E. Assumes nothing.
use Rattle.std.specs.Prelude.{ℕ, ◌+◌, ◌-◌, ◌<◌, ◌≤◌, ◌≡◌, true, false, List, ◌∷◌, get_or, length, Some}
use Rattle.std.proofs.Math.Option.{Option}
use Rattle.assembler.specs.Forms.{rom_size}
use Rattle.isa.specs.Reading.{Reading}
use Rattle.isa.specs.Views.{View, on, jmp, branch, call, ret, reti, ei, view}
use Rattle.isa.specs.declared.Instruction.{Instruction}
use Rattle.rom.specs.Fetching.{branch_to, code_at, moved_by}
use Rattle.operand.specs.Operand.{Term, minus, plus}
use Rattle.assembler.specs.Forms as Forms
use Rattle.assembler.specs.Statement.{Statement, mnemonic}
use Rattle.assembler.specs.Program.{Above, start, next, end, is_in, instruction, program, within, written, assembled}

-- a line of a program, with what stands above it
pub data Stands : Above → List Statement → Above → Statement → Type 0 where
  here : {s : Above} {l : Statement} {ls : List Statement} → Stands s (l ∷ ls) s l
  there : {s u : Above} {l k : Statement} {ls : List Statement} → Stands (next s l) ls u k → Stands s (l ∷ ls) u k

-- where a conditional branch goes from its moved PC, which its code says but for bit 11
abbrev pub GoesBy : {i : Instruction} → View i → ℕ → ℕ → Type 0
GoesBy on moved v = Unit {0}
GoesBy (jmp t) moved v = Unit {0}
GoesBy (branch t k) moved v = branch_to moved t ≡ v
GoesBy (call t) moved v = Unit {0}
GoesBy ret moved v = Unit {0}
GoesBy reti moved v = Unit {0}
GoesBy ei moved v = Unit {0}

-- a line with the form f and these terms, where this stands above it and `whole` above the end: its bytes read as its instruction
pub record BytesRead (whole s : Above) (f : ℕ → Instruction) (ts : List Term) (bs : List ℕ) : Type 0 where
  pub reads : Reading (code_at bs s.at).first (code_at bs s.at).second (Some (instruction whole f ts))
  pub fits : s.at + Forms.size f ≤ rom_size
  -- its operand has a value of its field, and a conditional branch goes to it
  pub in_field : within (Forms.field f) (plus whole.names whole.addresses ts) (minus whole.names whole.addresses ts) ≡ true
  pub goes : GoesBy (view (instruction whole f ts)) (moved_by (Forms.size f) s.at)
      (plus whole.names whole.addresses ts - minus whole.names whole.addresses ts)

pub record LinesRead (text bs : List ℕ) : Type 0 where
  pub size : length bs ≡ rom_size
  pub lines : (s : Above) (l : Option (List ℕ)) (f : ℕ → Instruction) (ts : List Term) → Stands start (program text) s (mnemonic l f ts)
      → BytesRead (end start (program text)) s f ts bs
  pub others : (a : ℕ) → a < rom_size → is_in (end start (program text)).written a ≡ false → get_or bs a 0 ≡ 0x3e

abbrev pub LinesReadAll : Type 0
LinesReadAll = (text bs : List ℕ) → assembled text ≡ written bs → LinesRead text bs

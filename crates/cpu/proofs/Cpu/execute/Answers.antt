-- `cpu::Cpu::execute` meets its contract: what the bytes at the PC read as, with their length and cycles, is the definition's step.
-- Assumes nothing.
use Rattle.std.specs.Prelude.{Option, Some}
use Rattle.std.proofs.Common.{◌≡◌, ℕ, ◌<◌, List, sym, ap, ◌∙◌, arith}
use Rattle.isa.specs.declared.Instruction.{Instruction}
use Rattle.isa.specs.declared.DataAddress.{DataAddress}
use Rattle.isa.specs.Timing.{columns_of}
use Rattle.isa.specs.Reading.{Reading}
use Rattle.rom.specs.declared.reader.Code.{Code}
use Rattle.rom.specs.Fetching.{code_at, length_at, cycles_at, moved_by}
use Rattle.datapath.specs.Memory.{strays, tallied}
use Rattle.cpu.specs.State.{State, state, address, with_pc}
use Rattle.cpu.specs.Effect.{effect}
use Rattle.cpu.specs.Step.{instructed}
use Rattle.cpu.specs.declared.Cpu.{Cpu}
use Rattle.cpu.proofs.Leaves.{Standing, ticked-same}
use Rattle.cpu.proofs.Steps.{size-read, cycles-read, fetched, read, Ended, whole}
use Rattle.cpu.proofs.Strays.{accesses-moved, faulting, uncounted, counted}
use Rattle.cpu.proofs.Cpu.execute.Goals as goal

-- the bytes at the PC, their code and what it reads as
pub returns-in_default : goal.returns-in_default
returns-in_default c =
    let mask = c.args.mask.now in
    let s = state c.args.self c.args.memory.now in
    let code = c.code_at-code in
    let done =
    ap (λ (d : Option Instruction). instructed mask d (length_at mask s.cpu.control.pc.0) (cycles_at mask s.cpu.control.pc.0) s) (sym c.in_default.is)
    ∙ fetched mask s code.result c.decode.result code.ensures (omega arith) c.decode.ensures in
    record { memory_after = done; gap_after = uncounted mask s c.args.gap.now done (λ e. absurd (omega (arith, e))) }

-- what both ways out behind the effect know
ended : (mask : List ℕ) (s t : State) (code : Code) (d : Option Instruction) (i : Instruction) (size next : ℕ)
    → code ≡ code_at mask s.cpu.control.pc.0 → code.second < 256 → Reading code.first code.second d → d ≡ Some i
    → size ≡ (columns_of i).bytes → next ≡ moved_by size s.cpu.control.pc.0
    → t ≡ effect mask i (state (with_pc (address next) s.cpu) s.memory) → Ended mask s t
ended mask s t code d i size next at low reads is sized moved after =
    whole mask s t i d size next is (fetched mask s code d at low reads) (sized ∙ size-read mask s code d at low reads i is) moved after

pub returns-then-after-ne0 : goal.returns-then-after-ne0
returns-then-after-ne0 c =
    let mask = c.args.mask.now in
    let s = state c.args.self c.args.memory.now in
    let code = c.code_at-code in
    let i = c.in-Some.instruction in
    let after = c.effect-after in
    let faults = c.if-after-ne0.true in
    let e = (ended mask s (state after.result after.new.memory) code.result c.decode.result i c.length_of-size.result c.moved_by-next.result code.ensures (omega arith) c.decode.ensures c.in-Some.is
    c.length_of-size.ensures c.moved_by-next.ensures after.ensures.memory_after).in-fault c.requires faults in
    record {
      memory_after = e;
      gap_after =
          after.ensures.gap_after
          ∙ faulting mask i (state _ c.args.memory.now) c.requires (λ z. faults (ap (λ (x : State). x.cpu.status.fault) after.ensures.memory_after ∙ z)) c.args.gap.now _
          ∙ uncounted mask s c.args.gap.now e faults;
    }

pub returns : goal.returns
returns c =
    let mask = c.args.mask.now in
    let s = state c.args.self c.args.memory.now in
    let code = c.code_at-code in
    let i = c.in-Some.instruction in
    let after = c.effect-after in
    let spent = c.cycles_of-spent in
    let on = c.if-after-ne0.false in
    let told = cycles-read mask s code.result c.decode.result code.ensures (omega arith) c.decode.ensures i c.in-Some.is in
    let e = (ended mask s (state after.result after.new.memory) code.result c.decode.result i c.length_of-size.result c.moved_by-next.result code.ensures (omega arith) c.decode.ensures c.in-Some.is
    c.length_of-size.ensures c.moved_by-next.ensures after.ensures.memory_after).in-time spent.result on (spent.ensures ∙ told) c.tick.ensures in
    let none : c.tick.result.status.fault ≡ 0 = ap (λ (x : Cpu). x.status.fault) c.tick.ensures ∙ ap (λ (x : Standing). x.fault) (ticked-same spent.result after.result) ∙ on in
    record {
      memory_after = e;
      gap_after =
          after.ensures.gap_after
          ∙ ap (λ (l : List DataAddress). tallied c.args.gap.now (strays l)) (accesses-moved i (address c.moved_by-next.result) c.args.self)
          ∙ counted mask s c.args.gap.now e none i (sym c.in-Some.is ∙ read mask s code.result c.decode.result code.ensures (omega arith) c.decode.ensures);
    }

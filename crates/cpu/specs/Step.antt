-- Document 01, "One step, and events": one step. Assumes nothing.
use Rattle.std.specs.Prelude.{ℕ, ◌+◌, ◌%◌, ◌^◌, Bool, not, ◌&&◌, List, ◌==◌, Option, Some, None}
use Rattle.isa.specs.declared.Instruction.{Instruction}
use Rattle.isa.specs.Choice.{pick}
use Rattle.isa.specs.Reading.{fault_number}
use Rattle.rom.specs.Fetching.{read_at, length_at, cycles_at, moved_by}
use Rattle.datapath.specs.Timer.{clocks, counted}
use Rattle.datapath.specs.declared.timer.Count.{Count}
use Rattle.cpu.specs.State.{State, on_cpu, address, with_pc, with_tf, with_count, with_held, with_level, with_stack, with_fault, with_cycles}
use Rattle.cpu.specs.Effect.{effect}
use Rattle.cpu.specs.declared.Cpu.{Cpu}
use Rattle.cpu.specs.declared.step.Interrupt.{Interrupt}
use Rattle.cpu.specs.declared.step.Interrupt.TheVariants.{Edge, Timer}

-- the timer's new count in the processor: "passing 255 to 0 sets TF"
abbrev pub timed : Count → Cpu → Cpu
timed k c = with_count k.count (pick (k.passed == 1) (with_tf 1 c) c)

-- n cycles spent: a running timer moves on by the clocks since the old cycle count, which then goes on, past its largest value to zero
unfoldable pub ticked : ℕ → Cpu → Cpu
ticked n c =
    with_cycles ((c.cycles + n) % 2 ^ 32)
    (pick (c.timer.running == 1) (timed (counted c.timer.count (clocks c.options.rate c.cycles n)) c) c)

-- "the old PC and CF go to the stack, level 2, 2 cycles"
unfoldable pub entered : ℕ → Cpu → Cpu
entered vector c =
    ticked 2 (with_stack (record { address = c.control.pc; carry = c.control.cf }) (with_level 2 (with_pc (address vector) c)))

-- "PC moves on by the length, modulo 4,096, before the effect"
abbrev pub moved : ℕ → Cpu → Cpu
moved size c = with_pc (address (moved_by size c.control.pc.0)) c

-- "A fault leaves the machine as before that instruction, with the fault set", and no cycles are spent
abbrev pub settled : ℕ → State → State → State
settled n before after =
    pick (after.cpu.status.fault == 0) (on_cpu (ticked n) after) (on_cpu (with_fault after.cpu.status.fault) before)

-- "An instruction that cannot be read gives fault 1"
abbrev pub instructed : List ℕ → Option Instruction → ℕ → ℕ → State → State
instructed mask (Some i) size cycles s = settled cycles s (effect mask i (on_cpu (moved size) s))
instructed mask None size cycles s = on_cpu (with_fault (fault_number None)) s

-- "Otherwise one instruction runs"
unfoldable pub executed : List ℕ → State → State
executed mask s =
    let pc : ℕ = s.cpu.control.pc.0 in
    instructed mask (read_at mask pc) (length_at mask pc) (cycles_at mask pc) s

-- the vector of the interrupt that a step takes, 0 for none: "in level 0 with the enable flag on, a held edge is taken (PC 8, held
-- edge cleared), or else TF (PC 4, TF cleared)"
unfoldable pub vector_of : Cpu → ℕ
vector_of c =
    pick (c.interrupts.level == 0 && c.interrupts.enabled == 1)
    (pick (c.interrupts.held == 1) 8 (pick (c.control.tf == 1) 4 0))
    0

-- the same of what the code takes
abbrev pub vector : Option Interrupt → ℕ
vector (Some Edge) = 8
vector (Some Timer) = 4
vector None = 0

-- what called for it, cleared
abbrev pub cleared : Interrupt → Cpu → Cpu
cleared Edge c = with_held 0 c
cleared Timer c = with_tf 0 c

unfoldable pub stepped : List ℕ → State → State
stepped mask s =
    pick (vector_of s.cpu == 8) (on_cpu (λ (c : Cpu). entered 8 (with_held 0 c)) s)
    (pick (vector_of s.cpu == 4) (on_cpu (λ (c : Cpu). entered 4 (with_tf 0 c)) s)
    (executed mask s))

-- "A step on a machine neither halted nor faulted"; "A step when halted or faulted changes nothing"
abbrev pub stopped : State → Bool
stopped s = not (s.cpu.status.halted == 0 && s.cpu.status.fault == 0)

unfoldable pub step : List ℕ → State → State
step mask s = pick (stopped s) s (stepped mask s)

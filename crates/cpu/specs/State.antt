-- The processor with its data memory, and what it is to change one part of it. antt has no update of a record, so each change names
-- every field once, here. Assumes nothing.
use Rattle.std.specs.Prelude.{ℕ, List}
use Rattle.isa.specs.declared.ProgramAddress.{ProgramAddress}
use Rattle.cpu.specs.declared.Registers.{Registers}
use Rattle.cpu.specs.declared.Control.{Control}
use Rattle.cpu.specs.declared.Timer.{Timer}
use Rattle.cpu.specs.declared.Interrupts.{Interrupts}
use Rattle.cpu.specs.declared.Stack.{Stack}
use Rattle.cpu.specs.declared.Status.{Status}
use Rattle.cpu.specs.declared.Outputs.{Outputs}
use Rattle.cpu.specs.declared.Pins.{Pins}
use Rattle.cpu.specs.declared.Cpu.{Cpu}

pub record State : Type 0 where
  pub cpu : Cpu
  pub memory : List ℕ

abbrev pub state : Cpu → List ℕ → State
state c m = record { cpu = c; memory = m }

abbrev pub on_cpu : (Cpu → Cpu) → State → State
on_cpu f s = state (f s.cpu) s.memory

abbrev pub address : ℕ → ProgramAddress
address a = record { 0 = a }

abbrev pub with_registers : Registers → Cpu → Cpu
with_registers x c = record { registers = x; control = c.control; timer = c.timer; interrupts = c.interrupts; stack = c.stack; status = c.status; outputs = c.outputs; pins = c.pins; options = c.options; cycles = c.cycles }

abbrev pub with_control : Control → Cpu → Cpu
with_control x c = record { registers = c.registers; control = x; timer = c.timer; interrupts = c.interrupts; stack = c.stack; status = c.status; outputs = c.outputs; pins = c.pins; options = c.options; cycles = c.cycles }

abbrev pub with_timer : Timer → Cpu → Cpu
with_timer x c = record { registers = c.registers; control = c.control; timer = x; interrupts = c.interrupts; stack = c.stack; status = c.status; outputs = c.outputs; pins = c.pins; options = c.options; cycles = c.cycles }

abbrev pub with_interrupts : Interrupts → Cpu → Cpu
with_interrupts x c = record { registers = c.registers; control = c.control; timer = c.timer; interrupts = x; stack = c.stack; status = c.status; outputs = c.outputs; pins = c.pins; options = c.options; cycles = c.cycles }

abbrev pub with_stack : Stack → Cpu → Cpu
with_stack x c = record { registers = c.registers; control = c.control; timer = c.timer; interrupts = c.interrupts; stack = x; status = c.status; outputs = c.outputs; pins = c.pins; options = c.options; cycles = c.cycles }

abbrev pub with_status : Status → Cpu → Cpu
with_status x c = record { registers = c.registers; control = c.control; timer = c.timer; interrupts = c.interrupts; stack = c.stack; status = x; outputs = c.outputs; pins = c.pins; options = c.options; cycles = c.cycles }

abbrev pub with_outputs : Outputs → Cpu → Cpu
with_outputs x c = record { registers = c.registers; control = c.control; timer = c.timer; interrupts = c.interrupts; stack = c.stack; status = c.status; outputs = x; pins = c.pins; options = c.options; cycles = c.cycles }

abbrev pub with_pins : Pins → Cpu → Cpu
with_pins x c = record { registers = c.registers; control = c.control; timer = c.timer; interrupts = c.interrupts; stack = c.stack; status = c.status; outputs = c.outputs; pins = x; options = c.options; cycles = c.cycles }

abbrev pub with_cycles : ℕ → Cpu → Cpu
with_cycles x c = record { registers = c.registers; control = c.control; timer = c.timer; interrupts = c.interrupts; stack = c.stack; status = c.status; outputs = c.outputs; pins = c.pins; options = c.options; cycles = x }

abbrev pub with_acc : ℕ → Cpu → Cpu
with_acc x c = with_registers (record { acc = x; r0 = c.registers.r0; r1 = c.registers.r1; r2 = c.registers.r2; r3 = c.registers.r3; r4 = c.registers.r4 }) c

abbrev pub with_r0 : ℕ → Cpu → Cpu
with_r0 x c = with_registers (record { acc = c.registers.acc; r0 = x; r1 = c.registers.r1; r2 = c.registers.r2; r3 = c.registers.r3; r4 = c.registers.r4 }) c

abbrev pub with_r1 : ℕ → Cpu → Cpu
with_r1 x c = with_registers (record { acc = c.registers.acc; r0 = c.registers.r0; r1 = x; r2 = c.registers.r2; r3 = c.registers.r3; r4 = c.registers.r4 }) c

abbrev pub with_r2 : ℕ → Cpu → Cpu
with_r2 x c = with_registers (record { acc = c.registers.acc; r0 = c.registers.r0; r1 = c.registers.r1; r2 = x; r3 = c.registers.r3; r4 = c.registers.r4 }) c

abbrev pub with_r3 : ℕ → Cpu → Cpu
with_r3 x c = with_registers (record { acc = c.registers.acc; r0 = c.registers.r0; r1 = c.registers.r1; r2 = c.registers.r2; r3 = x; r4 = c.registers.r4 }) c

abbrev pub with_r4 : ℕ → Cpu → Cpu
with_r4 x c = with_registers (record { acc = c.registers.acc; r0 = c.registers.r0; r1 = c.registers.r1; r2 = c.registers.r2; r3 = c.registers.r3; r4 = x }) c

abbrev pub with_pc : ProgramAddress → Cpu → Cpu
with_pc x c = with_control (record { pc = x; cf = c.control.cf; tf = c.control.tf }) c

abbrev pub with_cf : ℕ → Cpu → Cpu
with_cf x c = with_control (record { pc = c.control.pc; cf = x; tf = c.control.tf }) c

abbrev pub with_tf : ℕ → Cpu → Cpu
with_tf x c = with_control (record { pc = c.control.pc; cf = c.control.cf; tf = x }) c

abbrev pub with_count : ℕ → Cpu → Cpu
with_count x c = with_timer (record { count = x; running = c.timer.running }) c

abbrev pub with_running : ℕ → Cpu → Cpu
with_running x c = with_timer (record { count = c.timer.count; running = x }) c

abbrev pub with_enabled : ℕ → Cpu → Cpu
with_enabled x c = with_interrupts (record { enabled = x; held = c.interrupts.held; level = c.interrupts.level }) c

abbrev pub with_held : ℕ → Cpu → Cpu
with_held x c = with_interrupts (record { enabled = c.interrupts.enabled; held = x; level = c.interrupts.level }) c

abbrev pub with_level : ℕ → Cpu → Cpu
with_level x c = with_interrupts (record { enabled = c.interrupts.enabled; held = c.interrupts.held; level = x }) c

abbrev pub with_halted : ℕ → Cpu → Cpu
with_halted x c = with_status (record { halted = x; fault = c.status.fault }) c

abbrev pub with_fault : ℕ → Cpu → Cpu
with_fault x c = with_status (record { halted = c.status.halted; fault = x }) c

abbrev pub with_pa : ℕ → Cpu → Cpu
with_pa x c = with_outputs (record { pa = x; channel = c.outputs.channel; mode = c.outputs.mode }) c

abbrev pub with_channel : ℕ → Cpu → Cpu
with_channel x c = with_outputs (record { pa = c.outputs.pa; channel = x; mode = c.outputs.mode }) c

abbrev pub with_mode : ℕ → Cpu → Cpu
with_mode x c = with_outputs (record { pa = c.outputs.pa; channel = c.outputs.channel; mode = x }) c

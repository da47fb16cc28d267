-- Power-on and RES. Document 01: "Power-on takes options and a starting image of 166 nibbles: ACC, R0-R4, data memory 00h-7Fh,
-- E0h-FFh. All else is as after RES, ports 15, INT 1, cycle count 0". Assumes nothing.
use Rattle.std.specs.Prelude.{ℕ, List, eqb, length, get_or, drop, replicate}
use Rattle.isa.specs.Choice.{pick}
use Rattle.datapath.specs.Memory.{memory_size}
use Rattle.cpu.specs.State.{address}
use Rattle.cpu.specs.Range.{nibbles, options_ok}
use Rattle.cpu.specs.declared.Cpu.{Cpu}
use Rattle.cpu.specs.declared.Registers.{Registers}
use Rattle.cpu.specs.declared.Pins.{Pins}
use Rattle.cpu.specs.declared.Options.{Options}
use Rattle.machine.specs.Machine.{no_trace}
use Rattle.machine.specs.declared.Machine.{Machine}
use Rattle.machine.specs.declared.Answer.{Answer}

-- "RES sets PC, timer, TF, CF, enable flag, held edge, level, stack, halted and fault to 0, stops the timer, sets PA 15, sound off and
-- once": all but what it keeps
abbrev pub after_res : Registers → Pins → Options → ℕ → Cpu
after_res registers pins options cycles = record {
  registers = registers;
  control = record { pc = address 0; cf = 0; tf = 0 };
  timer = record { count = 0; running = 0 };
  interrupts = record { enabled = 0; held = 0; level = 0 };
  stack = record { address = address 0; carry = 0 };
  status = record { halted = 0; fault = 0 };
  outputs = record { pa = 15; channel = 16; mode = 0 };
  pins = pins;
  options = options;
  cycles = cycles;
}

-- "It keeps ACC, R0-R4, data memory, pins, options and cycle count"; and, document 02, wish 6, the trace: its count is "since the last power-on"
abbrev pub reset : Machine → Machine
reset m = record { cpu = after_res m.cpu.registers m.cpu.pins m.cpu.options m.cpu.cycles; memory = m.memory; trace = m.trace }

-- "All else is as after RES, ports 15, INT 1, cycle count 0"
abbrev pub started : Registers → Options → Cpu
started registers options = after_res registers (record { pm = 15; ps = 15; pp = 15; int = 1 }) options 0

-- the machine that a power-on makes, with no trace yet
unfoldable pub powered : Options → List ℕ → Machine
powered options image = record {
  cpu = started
      (record { acc = get_or image 0 0; r0 = get_or image 1 0; r1 = get_or image 2 0; r2 = get_or image 3 0; r3 = get_or image 4 0; r4 = get_or image 5 0 })
      options;
  memory = drop 6 image;
  trace = no_trace;
}

-- a machine before its first power-on: all 0 but what RES sets. Its commons are out of range, so refusal 5 answers what 1 and 3 do not
unfoldable pub blank : Machine
blank = record {
  cpu = after_res
      (record { acc = 0; r0 = 0; r1 = 0; r2 = 0; r3 = 0; r4 = 0 })
      (record { pm = 0; ps = 0; pp = 0; int = 0 })
      (record { rate = 0; commons = 0; pm = 0; ps = 0; pp = 0 })
      0;
  memory = replicate memory_size 0;
  trace = no_trace;
}

-- "2: image .. not 166"; "3: in an image .. nibble .. over 15"; "4: option handed in at power-on, wake nibbles too, outside its list"
unfoldable pub power_refusal : Options → List ℕ → ℕ
power_refusal options image = pick (eqb (length image) 166) (pick (nibbles image) (pick (options_ok options) 0 4) 3) 2

-- "Nothing is written, the machine returns as handed in"
abbrev pub answered : ℕ → Machine → Machine → Answer
answered n new old = record { refusal = n; machine = pick (eqb n 0) new old }

unfoldable pub power_on : Options → List ℕ → Machine → Answer
power_on options image m = answered (power_refusal options image) (powered options image) m

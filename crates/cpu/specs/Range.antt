-- The ranges of the machine's fields, in document 01's order ("The machine"). Refusal 5 is "machine field outside its range (its
-- nibbles and options too), .. or halted with a fault"; refusal 4 tests the options alone. Assumes nothing.
use Rattle.std.specs.Prelude.{ℕ, ◌^◌, Bool, true, not, ◌&&◌, ◌||◌, List, [], ◌∷◌, length, ◌==◌, nat_lt}
use Rattle.cpu.specs.State.{State}
use Rattle.cpu.specs.declared.Registers.{Registers}
use Rattle.cpu.specs.declared.Control.{Control}
use Rattle.cpu.specs.declared.Timer.{Timer}
use Rattle.cpu.specs.declared.Interrupts.{Interrupts}
use Rattle.cpu.specs.declared.Stack.{Stack}
use Rattle.cpu.specs.declared.Status.{Status}
use Rattle.cpu.specs.declared.Outputs.{Outputs}
use Rattle.cpu.specs.declared.Pins.{Pins}
use Rattle.cpu.specs.declared.Options.{Options}
use Rattle.cpu.specs.declared.Cpu.{Cpu}
use Rattle.datapath.specs.Memory.{memory_size}
use Rattle.isa.specs.Code.{addresses}

-- "A nibble is 0 to 15"
abbrev pub nibble : ℕ → Bool
nibble x = nat_lt x 16

unfoldable pub nibbles : List ℕ → Bool
nibbles [] = true
nibbles (x ∷ xs) = nibble x && nibbles xs

abbrev pub bit : ℕ → Bool
bit x = nat_lt x 2

-- "ACC, R0 to R4"
unfoldable pub registers_ok : Registers → Bool
registers_ok r = nibble r.acc && (nibble r.r0 && (nibble r.r1 && (nibble r.r2 && (nibble r.r3 && nibble r.r4))))

-- "PC (12 bits); CF and TF"
unfoldable pub control_ok : Control → Bool
control_ok k = nat_lt k.pc.0 addresses && (bit k.cf && bit k.tf)

-- "timer (8 bits) and its running flag"
unfoldable pub timer_ok : Timer → Bool
timer_ok t = nat_lt t.count 256 && bit t.running

-- "enable flag; held edge; level (0 main, 1 subroutine, 2 interrupt)"
unfoldable pub interrupts_ok : Interrupts → Bool
interrupts_ok i = bit i.enabled && (bit i.held && nat_lt i.level 3)

-- "stack address and stack carry"
unfoldable pub stack_ok : Stack → Bool
stack_ok k = nat_lt k.address.0 addresses && bit k.carry

-- "halted; fault (0 to 3)", and not halted with a fault
unfoldable pub status_ok : Status → Bool
status_ok s = bit s.halted && (nat_lt s.fault 4 && (s.halted == 0 || s.fault == 0))

-- "PA; sound channel (0-15, 16 = off) and mode (0 once, 1 loop)"
unfoldable pub outputs_ok : Outputs → Bool
outputs_ok o = nibble o.pa && (nat_lt o.channel 17 && bit o.mode)

-- "levels of PM, PS, PP and INT"
unfoldable pub pins_ok : Pins → Bool
pins_ok p = nibble p.pm && (nibble p.ps && (nibble p.pp && bit p.int))

-- "timer rate n (0-13 but not 6) or 255 for the external clock; commons 3 or 4; a wake nibble each for PM, PS, PP"
unfoldable pub options_ok : Options → Bool
options_ok o =
    (nat_lt o.rate 14 && not (o.rate == 6) || o.rate == 255)
    && ((o.commons == 3 || o.commons == 4) && (nibble o.pm && (nibble o.ps && nibble o.pp)))

-- the processor; "The cycle count has 32 bits"
unfoldable pub cpu_ok : Cpu → Bool
cpu_ok c =
    registers_ok c.registers
    && (control_ok c.control
    && (timer_ok c.timer
    && (interrupts_ok c.interrupts
    && (stack_ok c.stack
    && (status_ok c.status
    && (outputs_ok c.outputs
    && (pins_ok c.pins
    && (options_ok c.options && nat_lt c.cycles (2 ^ 32)))))))))

-- "data memory 00h-7Fh and E0h-FFh in nibbles"
unfoldable pub memory_ok : List ℕ → Bool
memory_ok m = length m == memory_size && nibbles m

unfoldable pub valid : State → Bool
valid s = cpu_ok s.cpu && memory_ok s.memory

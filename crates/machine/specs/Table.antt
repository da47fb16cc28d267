-- Document 01's "Proved table", together as one table, but for its three mask examples, which are the checker's. Assumes nothing.
use Rattle.std.specs.Prelude.{ℕ, suc, ◌≡◌, List, set, replicate}
use Rattle.datapath.specs.declared.alu.Sum.{Sum}
use Rattle.cpu.specs.State.{State, state, address, with_acc, with_r1, with_pc, with_cf, with_tf, with_count, with_running, with_enabled, with_held}
use Rattle.cpu.specs.Step.{step}
use Rattle.cpu.specs.declared.Cpu.{Cpu}
use Rattle.machine.specs.Power.{started}
use Rattle.datapath.specs.Memory.{memory_size}
use Rattle.isa.specs.Code.{addresses}

-- a mask of NOPs
unfoldable pub nops : List ℕ
nops = replicate addresses 0x3e

-- a processor after power-on on an image of zeros, at a timer rate
unfoldable pub at_rate : ℕ → Cpu
at_rate rate =
    started (record { acc = 0; r0 = 0; r1 = 0; r2 = 0; r3 = 0; r4 = 0 }) (record { rate = rate; commons = 4; pm = 0; ps = 0; pp = 0 })

unfoldable pub at_address : ℕ → State
at_address a = state (with_pc (address a) (at_rate 255)) (replicate memory_size 0)

-- JZ to 010h, with ACC 0
unfoldable pub jz_at : ℕ → ℕ
jz_at a = (step (set (set nops a 0xb0) (suc a) 0x10) (at_address a)).cpu.control.pc.0

-- READ R4A at 1FFh with ACC 3 and M(R1,R0) 0; page 1 has 11h at 30h, page 2 has 57h
unfoldable pub table_read : State
table_read = step (set (set (set nops 0x1ff 0x4c) 0x130 0x11) 0x230 0x57) (state (with_pc (address 0x1ff) (with_acc 3 (at_rate 255))) (replicate memory_size 0))

-- the timer at 254, on rate 2, before two NOPs
unfoldable pub running : State
running = state (with_count 254 (with_running 1 (at_rate 2))) (replicate memory_size 0)

-- level 0, enabled, an edge held and TF set, the timer stopped
unfoldable pub both : State
both = step nops (state (with_enabled 1 (with_held 1 (with_tf 1 (at_rate 2)))) (replicate memory_size 0))

-- ACC and CF after the code a b at address 0, with every nibble of the data memory n
unfoldable pub after_code : ℕ → ℕ → ℕ → Cpu → Sum
after_code a b n c =
    let s = step (set (set nops 0 a) 1 b) (state c (replicate memory_size n)) in
    record { value = s.cpu.registers.acc; carry = s.cpu.control.cf }

-- a processor with ACC and CF
unfoldable pub with_acc_cf : ℕ → ℕ → Cpu
with_acc_cf acc cf = with_acc acc (with_cf cf (at_rate 255))

pub record Table : Type 0 where
  -- "ADD 9+8: 1, CF 1": 40 08 is ADD A,8
  pub add-9-8 : after_code 0x40 0x08 0 (with_acc_cf 9 0) ≡ record { value = 1; carry = 1 }
  -- "ADC 15+15+1: 15, CF 1": 08 is ADC A,[R1R0]
  pub adc-15-15-1 : after_code 0x08 0x3e 15 (with_acc_cf 15 1) ≡ record { value = 15; carry = 1 }
  -- "DAA 4 with CF 1: 10. DAA 9 with CF 0: 9": 36 is DAA
  pub daa-4-with-carry : after_code 0x36 0x3e 0 (with_acc_cf 4 1) ≡ record { value = 10; carry = 1 }
  pub daa-9-without : after_code 0x36 0x3e 0 (with_acc_cf 9 0) ≡ record { value = 9; carry = 0 }
  -- "DEC A of 0: 15": 3F is DEC A
  pub dec-a-of-0 : after_code 0x3f 0x3e 0 (with_acc_cf 0 0) ≡ record { value = 15; carry = 0 }
  -- "Data address 80h reads 0": 04 is MOV A,[R1R0], and the memory holds 15 throughout
  pub address-80h-reads-0 : after_code 0x04 0x3e 15 (with_r1 8 (with_acc_cf 7 0)) ≡ record { value = 0; carry = 0 }
  -- "JZ to 010h at 7FEh goes to 810h, at 7FDh to 010h"
  pub jz-at-7feh : jz_at 0x7fe ≡ 0x810
  pub jz-at-7fdh : jz_at 0x7fd ≡ 0x010
  -- "READ R4A at 1FFh uses page 2"
  pub read-r4a-at-1ffh-high : table_read.cpu.registers.r4 ≡ 5
  pub read-r4a-at-1ffh-low : table_read.cpu.registers.acc ≡ 7
  -- "Rate 2, timer running at 254, two NOPs: 0, TF 1"
  pub two-nops-count : (step nops (step nops running)).cpu.timer.count ≡ 0
  pub two-nops-flag : (step nops (step nops running)).cpu.control.tf ≡ 1
  -- "Level 0, enabled, held edge with TF and the timer stopped: PC 8, TF stays"
  pub edge-before-timer-pc : both.cpu.control.pc.0 ≡ 8
  pub edge-before-timer-flag : both.cpu.control.tf ≡ 1

-- Document 01, "Effects": what each instruction does, in the order of document 001's summary, on a processor whose PC has moved on
-- by the length. A fault is set in the status here; `Step` says that it leaves all else as before. Assumes nothing.
use Rattle.std.specs.Prelude.{ℕ, ◌+◌, ◌*◌, ◌/◌, ◌%◌, Bool, List, ◌==◌, bit_and, bit_or, bit_xor}
use Rattle.isa.specs.Choice.{pick}
use Rattle.rom.specs.Fetching.{byte_at, branch_to}
use Rattle.datapath.specs.Alu.{summed, subtracted, adjusted, rotated_left, rotated_left_through, rotated_right, rotated_right_through, incremented, decremented, bit_set, not_zero}
use Rattle.datapath.specs.Memory.{pointed, loaded, stored}
use Rattle.datapath.specs.declared.alu.Sum.{Sum}
use Rattle.cpu.specs.State.{State, state, on_cpu, address, with_acc, with_r0, with_r1, with_r2, with_r3, with_r4, with_pc, with_cf, with_tf, with_count, with_running, with_enabled, with_level, with_stack, with_halted, with_fault, with_pa, with_channel, with_mode}
use Rattle.cpu.specs.declared.Cpu.{Cpu}
use Rattle.isa.specs.declared.DataAddress.{DataAddress}
use Rattle.isa.specs.declared.ProgramAddress.{ProgramAddress}
use Rattle.isa.specs.declared.Pointer.{Pointer}
use Rattle.isa.specs.declared.Pointer.TheVariants.{R1R0, R3R2}
use Rattle.isa.specs.declared.Port.{Port}
use Rattle.isa.specs.declared.Port.TheVariants.{Pm, Ps, Pp}
use Rattle.isa.specs.declared.Page.{Page}
use Rattle.isa.specs.declared.Page.TheVariants.{Current, F}
use Rattle.isa.specs.declared.Condition.{Condition}
use Rattle.isa.specs.declared.Condition.TheVariants.{Ja, JnzR0, JnzR1, JnzR4, Jz, JnzA, Jc, Jnc, Jtmr}
use Rattle.isa.specs.declared.Instruction.{Instruction}
use Rattle.isa.specs.declared.Instruction.TheVariants as I

-- the address in a register pair: "M(R1,R0) is the nibble at 16 times R1 + R0, likewise M(R3,R2)"
abbrev pub place_of : Pointer → Cpu → DataAddress
place_of R1R0 c = pointed c.registers.r1 c.registers.r0
place_of R3R2 c = pointed c.registers.r3 c.registers.r2

-- the nibble there, and the machine with another one there
abbrev pub nibble_at : Pointer → State → ℕ
nibble_at p s = loaded s.memory (place_of p s.cpu)

abbrev pub with_nibble : Pointer → ℕ → State → State
with_nibble p v s = state s.cpu (stored s.memory (place_of p s.cpu) v)

-- a sum goes to ACC and CF
abbrev pub taking : Sum → Cpu → Cpu
taking x c = with_acc x.value (with_cf x.carry c)

-- Rn, n being 0 to 4
unfoldable pub register_of : ℕ → Cpu → ℕ
register_of n c = pick (n == 0) c.registers.r0 (pick (n == 1) c.registers.r1 (pick (n == 2) c.registers.r2 (pick (n == 3) c.registers.r3 c.registers.r4)))

unfoldable pub with_register : ℕ → ℕ → Cpu → Cpu
with_register n v c = pick (n == 0) (with_r0 v c) (pick (n == 1) (with_r1 v c) (pick (n == 2) (with_r2 v c) (pick (n == 3) (with_r3 v c) (with_r4 v c))))

abbrev pub port_of : Port → Cpu → ℕ
port_of Pm c = c.pins.pm
port_of Ps c = c.pins.ps
port_of Pp c = c.pins.pp

abbrev pub with_pair : Pointer → ℕ → ℕ → Cpu → Cpu
with_pair R1R0 low high c = with_r0 low (with_r1 high c)
with_pair R3R2 low high c = with_r2 low (with_r3 high c)

-- whether a conditional branch is taken
abbrev pub holds : Condition → Cpu → Bool
holds (Ja n) c = bit_set c.registers.acc n  -- JAn addr
holds JnzR0 c = not_zero c.registers.r0  -- JNZ R0,addr
holds JnzR1 c = not_zero c.registers.r1  -- JNZ R1,addr
holds JnzR4 c = not_zero c.registers.r4  -- JNZ R4,addr
holds Jz c = c.registers.acc == 0  -- JZ A,addr
holds JnzA c = not_zero c.registers.acc  -- JNZ A,addr
holds Jc c = c.control.cf == 1  -- JC addr
holds Jnc c = c.control.cf == 0  -- JNC addr
holds Jtmr c = c.control.tf == 1  -- JTMR addr

-- "JTMR clears TF, taken or not"
abbrev pub tested : Condition → Cpu → Cpu
tested (Ja n) c = c
tested JnzR0 c = c
tested JnzR1 c = c
tested JnzR4 c = c
tested Jz c = c
tested JnzA c = c
tested Jc c = c
tested Jnc c = c
tested Jtmr c = with_tf 0 c

-- "A conditional branch keeps bit 11 of that moved PC"
unfoldable pub branched : Condition → ProgramAddress → Cpu → Cpu
branched k t c = pick (holds k c) (with_pc (address (branch_to c.control.pc.0 t)) (tested k c)) (tested k c)

-- "CALL in level 0 stores the moved PC (the stack carry stays) and enters level 1; in level 1 or 2 it is fault 2"
unfoldable pub called : ProgramAddress → Cpu → Cpu
called t c =
    pick (c.interrupts.level == 0)
    (with_stack (record { address = c.control.pc; carry = c.stack.carry }) (with_level 1 (with_pc t c)))
    (with_fault 2 c)

-- "RET and RETI in level 0 are fault 3; elsewhere they load the stack address and enter level 0, and RETI sets CF from the stack carry"
unfoldable pub returned : Cpu → Cpu
returned c = pick (c.interrupts.level == 0) (with_fault 3 c) (with_level 0 (with_pc c.stack.address c))

unfoldable pub returned_with_carry : Cpu → Cpu
returned_with_carry c = pick (c.interrupts.level == 0) (with_fault 3 c) (with_cf c.stack.carry (with_level 0 (with_pc c.stack.address c)))

-- "READ uses the moved PC's bits 8-11 as its page, READF page 15"
abbrev pub page_of : Page → Cpu → ℕ
page_of Current c = c.control.pc.0 / 256 % 16
page_of F c = 15

-- "R4A forms: ACC is bits 4-7 and M(R1,R0) bits 0-3; the high nibble goes to R4, the low to ACC"
abbrev pub table_r4 : List ℕ → Page → State → ℕ
table_r4 mask p s = byte_at mask (page_of p s.cpu * 256 + 16 * s.cpu.registers.acc + nibble_at R1R0 s)

-- "MR0A forms: ACC bits 4-7, R4 bits 0-3; high to M(R1,R0), low to ACC"
abbrev pub table_mr0 : List ℕ → Page → State → ℕ
table_mr0 mask p s = byte_at mask (page_of p s.cpu * 256 + 16 * s.cpu.registers.acc + s.cpu.registers.r4)

unfoldable pub effect : List ℕ → Instruction → State → State
effect mask I.AddAM s = on_cpu (taking (summed s.cpu.registers.acc (nibble_at R1R0 s) 0)) s  -- ADD A,[R1R0]
effect mask I.AdcAM s = on_cpu (taking (summed s.cpu.registers.acc (nibble_at R1R0 s) s.cpu.control.cf)) s  -- ADC A,[R1R0]
effect mask I.SubAM s = on_cpu (taking (subtracted s.cpu.registers.acc (nibble_at R1R0 s) 1)) s  -- SUB A,[R1R0]
effect mask I.SbcAM s = on_cpu (taking (subtracted s.cpu.registers.acc (nibble_at R1R0 s) s.cpu.control.cf)) s  -- SBC A,[R1R0]
effect mask (I.AddAX d) s = on_cpu (taking (summed s.cpu.registers.acc d 0)) s  -- ADD A,XH
effect mask (I.SubAX d) s = on_cpu (taking (subtracted s.cpu.registers.acc d 1)) s  -- SUB A,XH
effect mask I.Daa s = on_cpu (taking (adjusted s.cpu.registers.acc s.cpu.control.cf)) s  -- DAA
effect mask I.AndAM s = on_cpu (with_acc (bit_and s.cpu.registers.acc (nibble_at R1R0 s))) s  -- AND A,[R1R0]
effect mask I.OrAM s = on_cpu (with_acc (bit_or s.cpu.registers.acc (nibble_at R1R0 s))) s  -- OR A,[R1R0]
effect mask I.XorAM s = on_cpu (with_acc (bit_xor s.cpu.registers.acc (nibble_at R1R0 s))) s  -- XOR A,[R1R0]
effect mask I.AndMA s = with_nibble R1R0 (bit_and (nibble_at R1R0 s) s.cpu.registers.acc) s  -- AND [R1R0],A
effect mask I.OrMA s = with_nibble R1R0 (bit_or (nibble_at R1R0 s) s.cpu.registers.acc) s  -- OR [R1R0],A
effect mask I.XorMA s = with_nibble R1R0 (bit_xor (nibble_at R1R0 s) s.cpu.registers.acc) s  -- XOR [R1R0],A
effect mask (I.AndAX d) s = on_cpu (with_acc (bit_and s.cpu.registers.acc d)) s  -- AND A,XH
effect mask (I.OrAX d) s = on_cpu (with_acc (bit_or s.cpu.registers.acc d)) s  -- OR A,XH
effect mask (I.XorAX d) s = on_cpu (with_acc (bit_xor s.cpu.registers.acc d)) s  -- XOR A,XH
effect mask I.IncA s = on_cpu (with_acc (incremented s.cpu.registers.acc)) s  -- INC A
effect mask (I.IncR n) s = on_cpu (with_register n (incremented (register_of n s.cpu))) s  -- INC Rn
effect mask (I.IncM p) s = with_nibble p (incremented (nibble_at p s)) s  -- INC [R1R0], INC [R3R2]
effect mask I.DecA s = on_cpu (with_acc (decremented s.cpu.registers.acc)) s  -- DEC A
effect mask (I.DecR n) s = on_cpu (with_register n (decremented (register_of n s.cpu))) s  -- DEC Rn
effect mask (I.DecM p) s = with_nibble p (decremented (nibble_at p s)) s  -- DEC [R1R0], DEC [R3R2]
effect mask (I.MovAR n) s = on_cpu (with_acc (register_of n s.cpu)) s  -- MOV A,Rn
effect mask (I.MovRA n) s = on_cpu (with_register n s.cpu.registers.acc) s  -- MOV Rn,A
effect mask (I.MovAM p) s = on_cpu (with_acc (nibble_at p s)) s  -- MOV A,[R1R0], MOV A,[R3R2]
effect mask (I.MovMA p) s = with_nibble p s.cpu.registers.acc s  -- MOV [R1R0],A, MOV [R3R2],A
effect mask (I.MovAX d) s = on_cpu (with_acc d) s  -- MOV A,XH
effect mask (I.MovPairXX p low high) s = on_cpu (with_pair p low high) s  -- MOV R1R0,XXH, MOV R3R2,XXH
effect mask (I.MovR4X d) s = on_cpu (with_r4 d) s  -- MOV R4,XH
effect mask I.RlA s = on_cpu (taking (rotated_left s.cpu.registers.acc)) s  -- RL A
effect mask I.RlcA s = on_cpu (taking (rotated_left_through s.cpu.registers.acc s.cpu.control.cf)) s  -- RLC A
effect mask I.RrA s = on_cpu (taking (rotated_right s.cpu.registers.acc)) s  -- RR A
effect mask I.RrcA s = on_cpu (taking (rotated_right_through s.cpu.registers.acc s.cpu.control.cf)) s  -- RRC A
effect mask (I.InA p) s = on_cpu (with_acc (port_of p s.cpu)) s  -- IN A,PM, IN A,PS, IN A,PP
effect mask I.OutPaA s = on_cpu (with_pa s.cpu.registers.acc) s  -- OUT PA,A
effect mask (I.Jmp t) s = on_cpu (with_pc t) s  -- JMP addr
effect mask (I.Branch t k) s = on_cpu (branched k t) s  -- JC, JNC, JTMR, JAn, JZ A, JNZ A, JNZ Rn
effect mask (I.Call t) s = on_cpu (called t) s  -- CALL addr
effect mask I.Ret s = on_cpu returned s  -- RET
effect mask I.Reti s = on_cpu returned_with_carry s  -- RETI
effect mask I.Clc s = on_cpu (with_cf 0) s  -- CLC
effect mask I.Stc s = on_cpu (with_cf 1) s  -- STC
effect mask I.Ei s = on_cpu (with_enabled 1) s  -- EI
effect mask I.Di s = on_cpu (with_enabled 0) s  -- DI
effect mask I.Nop s = s  -- NOP
effect mask (I.TimerXX x) s = on_cpu (with_count x) s  -- TIMER XXH
effect mask I.TimerOn s = on_cpu (with_running 1) s  -- TIMER ON
effect mask I.TimerOff s = on_cpu (with_running 0) s  -- TIMER OFF
effect mask I.MovATmrl s = on_cpu (with_acc (s.cpu.timer.count % 16)) s  -- MOV A,TMRL
effect mask I.MovATmrh s = on_cpu (with_acc (s.cpu.timer.count / 16)) s  -- MOV A,TMRH
effect mask I.MovTmrlA s = on_cpu (with_count (s.cpu.timer.count / 16 * 16 + s.cpu.registers.acc % 16)) s  -- MOV TMRL,A
effect mask I.MovTmrhA s = on_cpu (with_count (s.cpu.registers.acc % 16 * 16 + s.cpu.timer.count % 16)) s  -- MOV TMRH,A
effect mask (I.ReadR4A p) s = on_cpu (λ (c : Cpu). with_r4 (table_r4 mask p s / 16) (with_acc (table_r4 mask p s % 16) c)) s  -- READ R4A, READF R4A
effect mask (I.ReadMr0A p) s = on_cpu (with_acc (table_mr0 mask p s % 16)) (with_nibble R1R0 (table_mr0 mask p s / 16) s)  -- READ MR0A, READF MR0A
effect mask (I.SoundN n) s = on_cpu (with_channel n) s  -- SOUND n
effect mask I.SoundA s = on_cpu (with_channel s.cpu.registers.acc) s  -- SOUND A
effect mask I.SoundOne s = on_cpu (with_mode 0) s  -- SOUND ONE
effect mask I.SoundLoop s = on_cpu (with_mode 1) s  -- SOUND LOOP
effect mask I.SoundOff s = on_cpu (with_channel 16) s  -- SOUND OFF
effect mask I.Halt s = on_cpu (with_halted 1) s  -- HALT

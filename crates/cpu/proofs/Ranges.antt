-- The ranges of `Range` as facts to compute with: `Valid s` has one field for each bound that `valid s` tests, and the two say the
-- same. Each change of `State` keeps them where the new value is in its range: only the part that it changes is rebuilt. Assumes
-- nothing.
use Rattle.std.proofs.Common.{◌≡◌, ℕ, zero, suc, ◌-◌, ◌^◌, ◌<◌, Bool, true, false, ◌&&◌, ◌||◌, eqb, ltb, List, [], ◌∷◌, length, get_or, set, refl, arith, length-set, ltb-true, lt-ltb, eq-eqb}
use Rattle.isa.specs.Code.{addresses}
use Rattle.isa.specs.Choice.{pick}
use Rattle.isa.specs.declared.DataAddress.{DataAddress}
use Rattle.isa.specs.declared.ProgramAddress.{ProgramAddress}
use Rattle.isa.proofs.Exact.{and_left, and_right, and_both}
use Rattle.datapath.specs.Memory.{memory_size, loaded, stored}
use Rattle.cpu.specs.State.{State, with_registers, with_control, with_timer, with_interrupts, with_stack, with_status, with_outputs, with_cycles, with_acc, with_r0, with_r1, with_r2, with_r3}
use Rattle.cpu.specs.State.{with_r4, with_pc, with_cf, with_tf, with_count, with_running, with_enabled, with_held, with_level, with_halted, with_fault, with_pa, with_channel, with_mode}
use Rattle.cpu.specs.Range.{nibbles, registers_ok, control_ok, timer_ok, interrupts_ok, stack_ok, status_ok, outputs_ok, pins_ok, options_ok, cpu_ok, memory_ok, valid}
use Rattle.cpu.specs.declared.Registers.{Registers}
use Rattle.cpu.specs.declared.Control.{Control}
use Rattle.cpu.specs.declared.Timer.{Timer}
use Rattle.cpu.specs.declared.Interrupts.{Interrupts}
use Rattle.cpu.specs.declared.Stack.{Stack}
use Rattle.cpu.specs.declared.Status.{Status}
use Rattle.cpu.specs.declared.Outputs.{Outputs}
use Rattle.cpu.specs.declared.Pins.{Pins}
use Rattle.cpu.specs.declared.Cpu.{Cpu}

-- ---- the bounds, by part
pub record RegistersIn (r : Registers) : Type 0 where
  pub acc : r.acc < 16
  pub r0 : r.r0 < 16
  pub r1 : r.r1 < 16
  pub r2 : r.r2 < 16
  pub r3 : r.r3 < 16
  pub r4 : r.r4 < 16

pub record ControlIn (k : Control) : Type 0 where
  pub pc : k.pc.0 < addresses
  pub cf : k.cf < 2
  pub tf : k.tf < 2

pub record TimerIn (t : Timer) : Type 0 where
  pub count : t.count < 256
  pub running : t.running < 2

pub record InterruptsIn (i : Interrupts) : Type 0 where
  pub enabled : i.enabled < 2
  pub held : i.held < 2
  pub level : i.level < 3

pub record StackIn (k : Stack) : Type 0 where
  pub address : k.address.0 < addresses
  pub carry : k.carry < 2

pub record StatusIn (s : Status) : Type 0 where
  pub halted : s.halted < 2
  pub fault : s.fault < 4
  pub either : (eqb s.halted 0 || eqb s.fault 0) ≡ true

pub record OutputsIn (o : Outputs) : Type 0 where
  pub pa : o.pa < 16
  pub channel : o.channel < 17
  pub mode : o.mode < 2

pub record PinsIn (p : Pins) : Type 0 where
  pub pm : p.pm < 16
  pub ps : p.ps < 16
  pub pp : p.pp < 16
  pub int : p.int < 2

pub record CpuIn (c : Cpu) : Type 0 where
  pub registers : RegistersIn c.registers
  pub control : ControlIn c.control
  pub timer : TimerIn c.timer
  pub interrupts : InterruptsIn c.interrupts
  pub stack : StackIn c.stack
  pub status : StatusIn c.status
  pub outputs : OutputsIn c.outputs
  pub pins : PinsIn c.pins
  pub options : options_ok c.options ≡ true
  pub cycles : c.cycles < 2 ^ 32

pub record Valid (s : State) : Type 0 where
  pub cpu : CpuIn s.cpu
  pub memory : memory_ok s.memory ≡ true

-- ---- from the tests to the bounds
below : (x n : ℕ) (t : Bool) → ltb x n && t ≡ true → (x < n) × (t ≡ true)
below x n t e = (ltb-true x n (and_left (ltb x n) t e), and_right (ltb x n) t e)

registers-from : (r : Registers) → registers_ok r ≡ true → RegistersIn r
unfolding registers_ok
registers-from r e =
    let a = below r.acc 16 _ e in
    let b = below r.r0 16 _ a.1 in
    let c = below r.r1 16 _ b.1 in
    let d = below r.r2 16 _ c.1 in
    let f = below r.r3 16 _ d.1 in
    record { acc = a.0; r0 = b.0; r1 = c.0; r2 = d.0; r3 = f.0; r4 = ltb-true r.r4 16 f.1 }

control-from : (k : Control) → control_ok k ≡ true → ControlIn k
unfolding control_ok
control-from k e =
    let a = below k.pc.0 addresses _ e in
    let b = below k.cf 2 _ a.1 in
    record { pc = a.0; cf = b.0; tf = ltb-true k.tf 2 b.1 }

timer-from : (t : Timer) → timer_ok t ≡ true → TimerIn t
unfolding timer_ok
timer-from t e =
    let a = below t.count 256 _ e in
    record { count = a.0; running = ltb-true t.running 2 a.1 }

interrupts-from : (i : Interrupts) → interrupts_ok i ≡ true → InterruptsIn i
unfolding interrupts_ok
interrupts-from i e =
    let a = below i.enabled 2 _ e in
    let b = below i.held 2 _ a.1 in
    record { enabled = a.0; held = b.0; level = ltb-true i.level 3 b.1 }

stack-from : (k : Stack) → stack_ok k ≡ true → StackIn k
unfolding stack_ok
stack-from k e =
    let a = below k.address.0 addresses _ e in
    record { address = a.0; carry = ltb-true k.carry 2 a.1 }

status-from : (s : Status) → status_ok s ≡ true → StatusIn s
unfolding status_ok
status-from s e =
    let a = below s.halted 2 _ e in
    let b = below s.fault 4 _ a.1 in
    record { halted = a.0; fault = b.0; either = b.1 }

outputs-from : (o : Outputs) → outputs_ok o ≡ true → OutputsIn o
unfolding outputs_ok
outputs-from o e =
    let a = below o.pa 16 _ e in
    let b = below o.channel 17 _ a.1 in
    record { pa = a.0; channel = b.0; mode = ltb-true o.mode 2 b.1 }

pins-from : (p : Pins) → pins_ok p ≡ true → PinsIn p
unfolding pins_ok
pins-from p e =
    let a = below p.pm 16 _ e in
    let b = below p.ps 16 _ a.1 in
    let c = below p.pp 16 _ b.1 in
    record { pm = a.0; ps = b.0; pp = c.0; int = ltb-true p.int 2 c.1 }

both : (x y : Bool) → x && y ≡ true → (x ≡ true) × (y ≡ true)
both x y e = (and_left x y e, and_right x y e)

cpu-from : (c : Cpu) → cpu_ok c ≡ true → CpuIn c
unfolding cpu_ok
cpu-from c e =
    let r = both (registers_ok c.registers) _ e in
    let k = both (control_ok c.control) _ r.1 in
    let t = both (timer_ok c.timer) _ k.1 in
    let i = both (interrupts_ok c.interrupts) _ t.1 in
    let a = both (stack_ok c.stack) _ i.1 in
    let s = both (status_ok c.status) _ a.1 in
    let o = both (outputs_ok c.outputs) _ s.1 in
    let p = both (pins_ok c.pins) _ o.1 in
    let q = both (options_ok c.options) _ p.1 in
    record {
      registers = registers-from c.registers r.0;
      control = control-from c.control k.0;
      timer = timer-from c.timer t.0;
      interrupts = interrupts-from c.interrupts i.0;
      stack = stack-from c.stack a.0;
      status = status-from c.status s.0;
      outputs = outputs-from c.outputs o.0;
      pins = pins-from c.pins p.0;
      options = q.0;
      cycles = ltb-true c.cycles (2 ^ 32) q.1;
    }

pub from : (s : State) → valid s ≡ true → Valid s
unfolding valid
from s e =
    let a = both (cpu_ok s.cpu) _ e in
    record { cpu = cpu-from s.cpu a.0; memory = a.1 }

-- ---- from the bounds to the tests
registers-to : (r : Registers) → RegistersIn r → registers_ok r ≡ true
unfolding registers_ok
registers-to r v =
    rw (lt-ltb r.acc 16 v.acc, lt-ltb r.r0 16 v.r0, lt-ltb r.r1 16 v.r1, lt-ltb r.r2 16 v.r2, lt-ltb r.r3 16 v.r3)
    (lt-ltb r.r4 16 v.r4)

control-to : (k : Control) → ControlIn k → control_ok k ≡ true
unfolding control_ok
control-to k v = rw (lt-ltb k.pc.0 addresses v.pc, lt-ltb k.cf 2 v.cf) (lt-ltb k.tf 2 v.tf)

timer-to : (t : Timer) → TimerIn t → timer_ok t ≡ true
unfolding timer_ok
timer-to t v = rw (lt-ltb t.count 256 v.count) (lt-ltb t.running 2 v.running)

interrupts-to : (i : Interrupts) → InterruptsIn i → interrupts_ok i ≡ true
unfolding interrupts_ok
interrupts-to i v = rw (lt-ltb i.enabled 2 v.enabled, lt-ltb i.held 2 v.held) (lt-ltb i.level 3 v.level)

stack-to : (k : Stack) → StackIn k → stack_ok k ≡ true
unfolding stack_ok
stack-to k v = rw (lt-ltb k.address.0 addresses v.address) (lt-ltb k.carry 2 v.carry)

status-to : (s : Status) → StatusIn s → status_ok s ≡ true
unfolding status_ok
status-to s v = rw (lt-ltb s.halted 2 v.halted, lt-ltb s.fault 4 v.fault) v.either

outputs-to : (o : Outputs) → OutputsIn o → outputs_ok o ≡ true
unfolding outputs_ok
outputs-to o v = rw (lt-ltb o.pa 16 v.pa, lt-ltb o.channel 17 v.channel) (lt-ltb o.mode 2 v.mode)

pins-to : (p : Pins) → PinsIn p → pins_ok p ≡ true
unfolding pins_ok
pins-to p v = rw (lt-ltb p.pm 16 v.pm, lt-ltb p.ps 16 v.ps, lt-ltb p.pp 16 v.pp) (lt-ltb p.int 2 v.int)

cpu-to : (c : Cpu) → CpuIn c → cpu_ok c ≡ true
unfolding cpu_ok
cpu-to c v =
    rw (
      registers-to c.registers v.registers,
      control-to c.control v.control,
      timer-to c.timer v.timer,
      interrupts-to c.interrupts v.interrupts,
      stack-to c.stack v.stack,
      status-to c.status v.status,
      outputs-to c.outputs v.outputs,
      pins-to c.pins v.pins,
      v.options,
    )
    (lt-ltb c.cycles (2 ^ 32) v.cycles)

pub to : (s : State) → Valid s → valid s ≡ true
unfolding valid
to s v = rw (cpu-to s.cpu v.cpu) v.memory

-- ---- another value of one part
parts : {c : Cpu} → RegistersIn c.registers → ControlIn c.control → TimerIn c.timer → InterruptsIn c.interrupts → StackIn c.stack → StatusIn c.status
    → OutputsIn c.outputs → PinsIn c.pins → options_ok c.options ≡ true → c.cycles < 2 ^ 32 → CpuIn c
parts r k t i a s o p q n = record { registers = r; control = k; timer = t; interrupts = i; stack = a; status = s; outputs = o; pins = p; options = q; cycles = n }

module _ {c : Cpu} (v : CpuIn c) where
  registers-in : (x : Registers) → RegistersIn x → CpuIn (with_registers x c)
  registers-in x h = parts h v.control v.timer v.interrupts v.stack v.status v.outputs v.pins v.options v.cycles

  control-in : (x : Control) → ControlIn x → CpuIn (with_control x c)
  control-in x h = parts v.registers h v.timer v.interrupts v.stack v.status v.outputs v.pins v.options v.cycles

  timer-in : (x : Timer) → TimerIn x → CpuIn (with_timer x c)
  timer-in x h = parts v.registers v.control h v.interrupts v.stack v.status v.outputs v.pins v.options v.cycles

  interrupts-in : (x : Interrupts) → InterruptsIn x → CpuIn (with_interrupts x c)
  interrupts-in x h = parts v.registers v.control v.timer h v.stack v.status v.outputs v.pins v.options v.cycles

  pub stack-in : (x : Stack) → StackIn x → CpuIn (with_stack x c)
  stack-in x h = parts v.registers v.control v.timer v.interrupts h v.status v.outputs v.pins v.options v.cycles

  status-in : (x : Status) → StatusIn x → CpuIn (with_status x c)
  status-in x h = parts v.registers v.control v.timer v.interrupts v.stack h v.outputs v.pins v.options v.cycles

  outputs-in : (x : Outputs) → OutputsIn x → CpuIn (with_outputs x c)
  outputs-in x h = parts v.registers v.control v.timer v.interrupts v.stack v.status h v.pins v.options v.cycles

  pub cycles-in : (x : ℕ) → x < 2 ^ 32 → CpuIn (with_cycles x c)
  cycles-in x h = parts v.registers v.control v.timer v.interrupts v.stack v.status v.outputs v.pins v.options h

  pub acc-in : (x : ℕ) → x < 16 → CpuIn (with_acc x c)
  acc-in x h = registers-in _ (record { acc = h; r0 = v.registers.r0; r1 = v.registers.r1; r2 = v.registers.r2; r3 = v.registers.r3; r4 = v.registers.r4 })

  pub r0-in : (x : ℕ) → x < 16 → CpuIn (with_r0 x c)
  r0-in x h = registers-in _ (record { acc = v.registers.acc; r0 = h; r1 = v.registers.r1; r2 = v.registers.r2; r3 = v.registers.r3; r4 = v.registers.r4 })

  pub r1-in : (x : ℕ) → x < 16 → CpuIn (with_r1 x c)
  r1-in x h = registers-in _ (record { acc = v.registers.acc; r0 = v.registers.r0; r1 = h; r2 = v.registers.r2; r3 = v.registers.r3; r4 = v.registers.r4 })

  pub r2-in : (x : ℕ) → x < 16 → CpuIn (with_r2 x c)
  r2-in x h = registers-in _ (record { acc = v.registers.acc; r0 = v.registers.r0; r1 = v.registers.r1; r2 = h; r3 = v.registers.r3; r4 = v.registers.r4 })

  pub r3-in : (x : ℕ) → x < 16 → CpuIn (with_r3 x c)
  r3-in x h = registers-in _ (record { acc = v.registers.acc; r0 = v.registers.r0; r1 = v.registers.r1; r2 = v.registers.r2; r3 = h; r4 = v.registers.r4 })

  pub r4-in : (x : ℕ) → x < 16 → CpuIn (with_r4 x c)
  r4-in x h = registers-in _ (record { acc = v.registers.acc; r0 = v.registers.r0; r1 = v.registers.r1; r2 = v.registers.r2; r3 = v.registers.r3; r4 = h })

  pub pc-in : (x : ProgramAddress) → x.0 < addresses → CpuIn (with_pc x c)
  pc-in x h = control-in _ (record { pc = h; cf = v.control.cf; tf = v.control.tf })

  pub cf-in : (x : ℕ) → x < 2 → CpuIn (with_cf x c)
  cf-in x h = control-in _ (record { pc = v.control.pc; cf = h; tf = v.control.tf })

  pub tf-in : (x : ℕ) → x < 2 → CpuIn (with_tf x c)
  tf-in x h = control-in _ (record { pc = v.control.pc; cf = v.control.cf; tf = h })

  pub count-in : (x : ℕ) → x < 256 → CpuIn (with_count x c)
  count-in x h = timer-in _ (record { count = h; running = v.timer.running })

  pub running-in : (x : ℕ) → x < 2 → CpuIn (with_running x c)
  running-in x h = timer-in _ (record { count = v.timer.count; running = h })

  pub enabled-in : (x : ℕ) → x < 2 → CpuIn (with_enabled x c)
  enabled-in x h = interrupts-in _ (record { enabled = h; held = v.interrupts.held; level = v.interrupts.level })

  pub held_in : (x : ℕ) → x < 2 → CpuIn (with_held x c)
  held_in x h = interrupts-in _ (record { enabled = v.interrupts.enabled; held = h; level = v.interrupts.level })

  pub level_in : (x : ℕ) → x < 3 → CpuIn (with_level x c)
  level_in x h = interrupts-in _ (record { enabled = v.interrupts.enabled; held = v.interrupts.held; level = h })

  -- a processor with no fault may halt, and one that has not halted may have a fault
  pub halted-in : c.status.fault ≡ 0 → CpuIn (with_halted 1 c)
  halted-in e = status-in _ (record { halted = omega arith; fault = v.status.fault; either = eq-eqb c.status.fault 0 e })

  pub fault-in : (x : ℕ) → c.status.halted ≡ 0 → x < 4 → CpuIn (with_fault x c)
  fault-in x e h = status-in _ (record { halted = v.status.halted; fault = h; either = rw (eq-eqb c.status.halted 0 e) refl })

  pub pa-in : (x : ℕ) → x < 16 → CpuIn (with_pa x c)
  pa-in x h = outputs-in _ (record { pa = h; channel = v.outputs.channel; mode = v.outputs.mode })

  pub channel-in : (x : ℕ) → x < 17 → CpuIn (with_channel x c)
  channel-in x h = outputs-in _ (record { pa = v.outputs.pa; channel = h; mode = v.outputs.mode })

  pub mode-in : (x : ℕ) → x < 2 → CpuIn (with_mode x c)
  mode-in x h = outputs-in _ (record { pa = v.outputs.pa; channel = v.outputs.channel; mode = h })

-- ---- the data memory
nibbles-at : (m : List ℕ) (k : ℕ) → nibbles m ≡ true → get_or m k 0 < 16
unfolding nibbles
nibbles-at [] zero e = omega arith
nibbles-at [] (suc k) e = omega arith
nibbles-at (x ∷ m) zero e = (below x 16 (nibbles m) e).0
nibbles-at (x ∷ m) (suc k) e = nibbles-at m k (below x 16 (nibbles m) e).1

nibbles-set : (m : List ℕ) (k x : ℕ) → x < 16 → nibbles m ≡ true → nibbles (set m k x) ≡ true
unfolding nibbles
nibbles-set [] zero x h e = refl
nibbles-set [] (suc k) x h e = refl
nibbles-set (y ∷ m) zero x h e = rw (lt-ltb x 16 h) (below y 16 (nibbles m) e).1
nibbles-set (y ∷ m) (suc k) x h e =
    and_both (ltb y 16) (nibbles (set m k x)) (and_left (ltb y 16) (nibbles m) e) (nibbles-set m k x h (and_right (ltb y 16) (nibbles m) e))

module _ (m : List ℕ) (v : memory_ok m ≡ true) where
  at_in : (k : ℕ) → get_or m k 0 < 16
  unfolding memory_ok
  at_in k = nibbles-at m k (both (eqb (length m) memory_size) _ v).1

  set-in : (k x : ℕ) → x < 16 → memory_ok (set m k x) ≡ true
  unfolding memory_ok
  set-in k x h =
      let a = both (eqb (length m) memory_size) _ v in
      rw length-set (and_both _ _ a.0 (nibbles-set m k x h a.1))

  pub loaded-in : (a : DataAddress) → loaded m a < 16
  unfolding loaded
  loaded-in a = one (ltb a.0 0x80) _ _ (at_in a.0) (one (ltb a.0 0xe0) _ _ (omega arith) (at_in (a.0 - 96)))
    where
      one : (t : Bool) (x y : ℕ) → x < 16 → y < 16 → pick t x y < 16
      one true x y h k = h
      one false x y h k = k

  pub stored-in : (a : DataAddress) (x : ℕ) → x < 16 → memory_ok (stored m a x) ≡ true
  unfolding stored
  stored-in a x h = one (ltb a.0 0x80) _ _ (set-in a.0 x h) (one (ltb a.0 0xe0) _ _ v (set-in (a.0 - 96) x h))
    where
      one : (t : Bool) (x y : List ℕ) → memory_ok x ≡ true → memory_ok y ≡ true → memory_ok (pick t x y) ≡ true
      one true x y h k = h
      one false x y h k = k

-- Whole lists of inputs. A power-on that is not refused gives a machine in range, and every input keeps one in range, so every list does;
-- and machines that the exported functions hand on, one to the next, end where the definition `after` ends. Assumes nothing.
use Prim.Native.Nat.{ℕ, zero, suc, ◌+◌, ◌%◌, ◌<◌, ◌^◌}
use native.Mathlib.Omega.{arith}
use mathlib.Core.Path.{◌≡◌, refl, sym, ap, ◌∙◌}
use mathlib.Core.Bool.{Bool, true, false, ◌&&◌}
use mathlib.Core.List.{List, [], ◌∷◌}
use lib.Dec.{eqb, lit<}
use lib.ListN.{length, get_or, drop, length-drop}
use borrow.Author.Tests.{ltb-true, eqb-true, eq-eqb}
use Rattle.std.specs.Prelude.{Some, None}
use Rattle.datapath.specs.Memory.{memory_size}
use Rattle.isa.specs.Choice.{pick}
use Rattle.isa.proofs.Exact.{and_left, and_right, and_both}
use Rattle.datapath.specs.Timer.{counted}
use Rattle.cpu.specs.State.{State, with_tf, with_halted, with_pins}
use Rattle.cpu.specs.Step.{step, timed}
use Rattle.cpu.specs.Range.{nibble, nibbles, valid, memory_ok, options_ok}
use Rattle.cpu.specs.declared.Cpu.{Cpu}
use Rattle.cpu.specs.declared.Options.{Options}
use Rattle.cpu.specs.declared.Pins.{Pins}
use Rattle.cpu.specs.declared.Registers.{Registers}
use Rattle.cpu.proofs.Ranges.{CpuIn, RegistersIn, PinsIn, from, to, held_in, tf-in, count-in}
use Rattle.rom.specs.Fetching.{Bytes}
use Rattle.cpu.proofs.Kept.{step-valid}
use Rattle.machine.specs.Machine.{state_of}
use Rattle.machine.specs.Power.{after_res, powered, power_refusal, answered, power_on}
use Rattle.cpu.specs.Run.{ran}
use Rattle.machine.specs.Events.{woken, wakes, with_int, pinned, interrupted, clocked, counting, happened, mask_ok, values_ok, refusal_of, applied, Input, power, named, answer_to, Call, after, Every, Session, ended, calling}
use Rattle.machine.specs.Report.{reporting, report, reported}
use Rattle.machine.specs.Property2.{Property2}
use Rattle.machine.specs.declared.Machine.{Machine}
use Rattle.machine.specs.declared.Answer.{Answer}
use Rattle.machine.specs.declared.events.Event.{Event}
use Rattle.machine.specs.declared.events.Event.TheVariants.{Run, Pins as PinsEvent, Int, Tmclk, Res}

-- ---- nibbles of an image
nibbles-at : (s : List ℕ) → nibbles s ≡ true → (k : ℕ) → get_or s k 0 < 16
unfolding nibbles
nibbles-at [] e zero = omega arith
nibbles-at [] e (suc k) = omega arith
nibbles-at (x ∷ s) e zero = ltb-true x 16 (and_left (nibble x) (nibbles s) e)
nibbles-at (x ∷ s) e (suc k) = nibbles-at s (and_right (nibble x) (nibbles s) e) k

nibbles-drop : (n : ℕ) (s : List ℕ) → nibbles s ≡ true → nibbles (drop n s) ≡ true
unfolding nibbles
nibbles-drop zero s e = e
nibbles-drop (suc n) [] e = e
nibbles-drop (suc n) (x ∷ s) e = nibbles-drop n s (and_right (nibble x) (nibbles s) e)

-- ---- RES and power-on
res-in : (r : Registers) (p : Pins) (o : Options) (n : ℕ) → RegistersIn r → PinsIn p → options_ok o ≡ true → n < 2 ^ 32 → CpuIn (after_res r p o n)
res-in r p o n hr hp ho hn = record {
  registers = hr;
  control = record { pc = omega arith; cf = omega arith; tf = omega arith };
  timer = record { count = omega arith; running = omega arith };
  interrupts = record { enabled = omega arith; held = omega arith; level = omega arith };
  stack = record { address = omega arith; carry = omega arith };
  status = record { halted = omega arith; fault = omega arith; either = refl };
  outputs = record { pa = omega arith; channel = omega arith; mode = omega arith };
  pins = hp;
  options = ho;
  cycles = hn;
}

-- what an accepted power-on has been shown
pub record Accepted (o : Options) (image : List ℕ) : Type 0 where
  pub size : length image ≡ 166
  pub nibbled : nibbles image ≡ true
  pub chosen : options_ok o ≡ true

pub accepted : (o : Options) (image : List ℕ) → power_refusal o image ≡ 0 → Accepted o image
unfolding power_refusal
accepted o image e = go (eqb (length image) 166) (nibbles image) (options_ok o) refl refl refl e
  where
    go : (x y z : Bool) → eqb (length image) 166 ≡ x → nibbles image ≡ y → options_ok o ≡ z → ◌≡◌ {A = ℕ} (pick x (pick y (pick z 0 4) 3) 2) 0 → Accepted o image
    go true true true p q r n = record { size = eqb-true (length image) 166 p; nibbled = q; chosen = r }
    go true true false p q r n = absurd (omega arith)
    go true false z p q r n = absurd (omega arith)
    go false y z p q r n = absurd (omega arith)

pub powered-valid : (o : Options) (image : List ℕ) → power_refusal o image ≡ 0 → valid (state_of (powered o image)) ≡ true
unfolding powered memory_ok
powered-valid o image e =
    let h = accepted o image e in
    let n = nibbles-at image h.nibbled in
    to (state_of (powered o image)) (record {
      cpu = res-in _ _ o 0 (record { acc = n 0; r0 = n 1; r1 = n 2; r2 = n 3; r3 = n 4; r4 = n 5 })
          (record { pm = omega arith; ps = omega arith; pp = omega arith; int = omega arith }) h.chosen (lit< tt);
      memory = and_both (eqb (length (drop 6 image)) memory_size) (nibbles (drop 6 image))
          (eq-eqb (length (drop 6 image)) memory_size (omega (arith, length-drop 6 image, h.size))) (nibbles-drop 6 image h.nibbled);
    })

-- ---- each event
pick-in : (t : Bool) (x y : Cpu) → CpuIn x → CpuIn y → CpuIn (pick t x y)
pick-in true x y p q = p
pick-in false x y p q = q

woken-in : {c : Cpu} → CpuIn c → CpuIn (woken c)
woken-in {c} v = held_in {c = with_halted 0 c} (record {
  registers = v.registers;
  control = v.control;
  timer = v.timer;
  interrupts = v.interrupts;
  stack = v.stack;
  status = record { halted = omega arith; fault = v.status.fault; either = refl };
  outputs = v.outputs;
  pins = v.pins;
  options = v.options;
  cycles = v.cycles;
}) 1 (omega arith)

pins-in : {c : Cpu} → CpuIn c → (p : Pins) → PinsIn p → CpuIn (with_pins p c)
pins-in v p h = record {
  registers = v.registers;
  control = v.control;
  timer = v.timer;
  interrupts = v.interrupts;
  stack = v.stack;
  status = v.status;
  outputs = v.outputs;
  pins = h;
  options = v.options;
  cycles = v.cycles;
}

timed-in : {c : Cpu} → CpuIn c → (n : ℕ) → CpuIn (timed (counted c.timer.count n) c)
timed-in {c} v n =
    let passed = eqb (counted c.timer.count n).passed 1 in
    count-in (pick-in passed (with_tf 1 c) c (tf-in v 1 (omega arith)) v) ((c.timer.count + n) % 256) (below (c.timer.count + n))
  where
    below : (x : ℕ) → x % 256 < 256
    below x = omega arith

ran-valid : (mask : List ℕ) → Bytes mask → (n : ℕ) (s : State) → valid s ≡ true → valid (ran mask n s) ≡ true
unfolding ran
ran-valid mask b zero s v = v
ran-valid mask b (suc n) s v = ran-valid mask b n (step mask s) (step-valid mask s b v)

happened-valid : (mask : List ℕ) → Bytes mask → (e : Event) (m : Machine) → values_ok e ≡ true → valid (state_of m) ≡ true → valid (state_of (happened mask e m)) ≡ true
unfolding happened values_ok pinned interrupted counting
happened-valid mask b (Run n) m r v = ran-valid mask b n (state_of m) v
happened-valid mask b (PinsEvent pm ps pp) m r v =
    let w = from (state_of m) v in
    let h = and_right (nibble pm) (nibble ps && nibble pp) r in
    to (state_of (happened mask (PinsEvent pm ps pp) m)) (record {
      cpu = pins-in (pick-in (wakes pm ps pp m.cpu) (woken m.cpu) m.cpu (woken-in w.cpu) w.cpu) _
          (record { pm = ltb-true pm 16 (and_left (nibble pm) (nibble ps && nibble pp) r); ps = ltb-true ps 16 (and_left (nibble ps) (nibble pp) h); pp = ltb-true pp 16 (and_right (nibble ps) (nibble pp) h); int = pin (wakes pm ps pp m.cpu) w.cpu.pins.int });
      memory = w.memory;
    })
  where
    pin : (t : Bool) → m.cpu.pins.int < 2 → (pick t (woken m.cpu) m.cpu).pins.int < 2
    pin true h = h
    pin false h = h
happened-valid mask b (Int level) m r v =
    let w = from (state_of m) v in
    to (state_of (happened mask (Int level) m)) (record {
      cpu = pins-in (pick-in (eqb m.cpu.pins.int 1 && eqb level 0) (woken m.cpu) m.cpu (woken-in w.cpu) w.cpu) _
          (ports (eqb m.cpu.pins.int 1 && eqb level 0) w.cpu.pins (ltb-true level 2 r));
      memory = w.memory;
    })
  where
    ports : (t : Bool) → PinsIn m.cpu.pins → level < 2 → PinsIn (with_int level (pick t (woken m.cpu) m.cpu)).pins
    ports true p h = record { pm = p.pm; ps = p.ps; pp = p.pp; int = h }
    ports false p h = record { pm = p.pm; ps = p.ps; pp = p.pp; int = h }
happened-valid mask b (Tmclk n) m r v =
    let w = from (state_of m) v in
    to (state_of (happened mask (Tmclk n) m)) (record {
      cpu = pick-in (clocked m.cpu) (timed (counted m.cpu.timer.count n) m.cpu) m.cpu (timed-in w.cpu n) w.cpu;
      memory = w.memory;
    })
happened-valid mask b Res m r v =
    let w = from (state_of m) v in
    to (state_of (happened mask Res m)) (record {
      cpu = res-in _ _ _ _ w.cpu.registers w.cpu.pins w.cpu.options w.cpu.cycles;
      memory = w.memory;
    })

-- ---- each input, and every list
-- an answer is the new machine where nothing is refused, and the old one otherwise
answered-valid : (n : ℕ) (new old : Machine) → (n ≡ 0 → valid (state_of new) ≡ true) → valid (state_of old) ≡ true → valid (state_of (answered n new old).machine) ≡ true
answered-valid n new old f v = go (eqb n 0) (eqb-true n 0)
  where
    go : (t : Bool) → (t ≡ true → n ≡ 0) → valid (state_of (pick t new old)) ≡ true
    go true g = f (g refl)
    go false g = v

-- what is not refused has its values in range
unrefused : (mask : List ℕ) (e : Event) (m : Machine) → refusal_of mask e m ≡ 0 → values_ok e ≡ true
unfolding refusal_of
unrefused mask e m r = go (mask_ok mask e) (values_ok e) (valid (state_of m)) refl r
  where
    go : (x y z : Bool) → values_ok e ≡ y → ◌≡◌ {A = ℕ} (pick x (pick y (pick z 0 5) 3) 1) 0 → values_ok e ≡ true
    go true true z q r = q
    go true false z q r = absurd (omega arith)
    go false y z q r = absurd (omega arith)

pub input-valid : (mask : List ℕ) → Bytes mask → (i : Input) (m : Machine) → valid (state_of m) ≡ true → valid (state_of (answer_to mask i m).machine) ≡ true
unfolding power_on applied
input-valid mask b (power o image) m v = answered-valid (power_refusal o image) (powered o image) m (λ e. powered-valid o image e) v
input-valid mask b (named (Some e)) m v = answered-valid (refusal_of mask e m) (happened mask e m) m (λ r. happened-valid mask b e m (unrefused mask e m r) v) v
input-valid mask b (named None) m v = answered-valid (pick (valid (state_of m)) 7 5) m m (λ e. v) v

-- no list of inputs takes the machine out of its ranges
pub after-valid : (ks : List Call) → Every (λ (k : Call). Bytes k.mask) ks → (m : Machine) → valid (state_of m) ≡ true → valid (state_of (after ks m)) ≡ true
unfolding after
after-valid [] b m v = v
after-valid (k ∷ ks) b m v = after-valid ks b.1 (answer_to k.mask k.input m).machine (input-valid k.mask b.0 k.input m v)

-- ---- a whole list of calls
-- the last machine is, in every field, the one that the rules give
pub session-after : (m n : Machine) (ks : List Call) → Session m ks n → n ≡ after ks m
unfolding after
session-after m n ks ended = refl
session-after m n ks (calling {ks = js} k r p s) = session-after r.machine n js s ∙ ap (λ (a : Answer). after js a.machine) p

-- an accepted power-on answers the machine that it makes
pub powered-on : (o : Options) (image : List ℕ) (m : Machine) (r : Answer) → r ≡ power_on o image m → r.refusal ≡ 0 → (power_refusal o image ≡ 0) × (r.machine ≡ powered o image)
unfolding power_on
powered-on o image m r e z =
    let n = ap (λ (a : Answer). a.refusal) (sym e) ∙ z in
    (n, ap (λ (a : Answer). a.machine) e ∙ rw (eq-eqb (power_refusal o image) 0 n) refl)

-- a machine in range is reported
good-report : (m : Machine) (old : List ℕ) → length old ≡ 48 → valid (state_of m) ≡ true → report m old ≡ reporting 0 (reported m)
unfolding report
good-report m old l v = rw (eq-eqb (length old) 48 l, v) refl

pub property2 : Property2
property2 options image before start e z calls last bytes s =
    let p = powered-on options image before start e z in
    let q : last ≡ after calls (powered options image) = session-after start.machine last calls s ∙ ap (after calls) p.1 in
    let v : valid (state_of last) ≡ true = ap (λ (m : Machine). valid (state_of m)) q ∙ after-valid calls bytes (powered options image) (powered-valid options image p.0) in
    record {
      state = q;
      in-range = v;
      shows = λ out l. good-report last out l v ∙ ap (λ (m : Machine). reporting 0 (reported m)) q;
    }

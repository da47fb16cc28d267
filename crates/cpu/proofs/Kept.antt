-- A step keeps a machine in its ranges, where every byte of the mask is below 256. Each value that an effect stores is a constant, a
-- remainder, a nibble made of bits, a value of the machine in the same range, the AND, OR or XOR of two nibbles, half of a byte, two
-- nibbles put together, or a field of the instruction; and `sound` says that the fields of what two bytes read as are in range. A step
-- changes only a machine with neither halt nor fault, and sets at most one of the two, so that it never halts with a fault. Assumes nothing.
use Rattle.std.specs.Prelude.{Option, Some, None}
use Rattle.std.proofs.Common.{◌≡◌, ℕ, ◌+◌, ◌*◌, ◌/◌, ◌%◌, ◌^◌, ◌<◌, Bool, true, false, ◌&&◌, ◌||◌, eqb, ltb, List, refl, arith, ltb-true, eqb-true}
use lib.Bits.{and_lt, or_lt, xor_lt}
use borrow.Author.Tests.{not-false}
use Rattle.isa.specs.Choice.{pick}
use Rattle.rom.specs.Fetching.{Bytes, branch_to, read_at}
use Rattle.rom.proofs.Fetching.{read-fields}
use Rattle.isa.specs.Code.{addresses, in_range}
use Rattle.isa.specs.declared.ProgramAddress.{ProgramAddress}
use Rattle.isa.specs.declared.Pointer.{Pointer}
use Rattle.isa.specs.declared.Pointer.TheVariants.{R1R0, R3R2}
use Rattle.isa.specs.declared.Port.{Port}
use Rattle.isa.specs.declared.Port.TheVariants.{Pm, Ps, Pp}
use Rattle.isa.specs.declared.Condition.{Condition}
use Rattle.isa.specs.declared.Condition.TheVariants.{Ja, JnzR0, JnzR1, JnzR4, Jz, JnzA, Jc, Jnc, Jtmr}
use Rattle.isa.specs.declared.Instruction.{Instruction}
use Rattle.isa.specs.declared.Instruction.TheVariants as I
use Rattle.isa.proofs.Exact.{and_left, and_right}
use Rattle.datapath.specs.Alu.{flag, nibble_of, summed, adjusted}
use Rattle.datapath.specs.Timer.{clocks, counted}
use Rattle.datapath.specs.declared.alu.Sum.{Sum}
use Rattle.datapath.specs.declared.timer.Count.{Count}
use Rattle.cpu.specs.State.{State, state, on_cpu, address, with_acc}
use Rattle.cpu.specs.Effect.{place_of, nibble_at, with_nibble, taking, register_of, with_register, port_of, with_pair, holds, tested, branched, called, returned}
use Rattle.cpu.specs.Effect.{returned_with_carry, effect}
use Rattle.cpu.specs.Step.{timed, ticked, entered, moved, settled, instructed, executed, vector_of, stepped, stopped, step}
use Rattle.cpu.specs.Range.{valid}
use Rattle.cpu.specs.declared.Cpu.{Cpu}
use Rattle.cpu.proofs.Ranges.{CpuIn, Valid, from, to, stack-in, cycles-in, acc-in, r0-in, r1-in, r2-in, r3-in, r4-in, pc-in, cf-in, tf-in, count-in, running-in, enabled-in, held_in}
use Rattle.cpu.proofs.Ranges.{level_in, halted-in, fault-in, pa-in, channel-in, mode-in, loaded-in, stored-in}

-- ---- numbers: a nibble, a flag, the high half of a byte
low : (n : ℕ) → n % 16 < 16
low n = omega arith

odd : (n : ℕ) → n % 2 < 2
odd n = omega arith

bits : (a b c d : ℕ) → nibble_of (a % 2) (b % 2) (c % 2) (d % 2) < 16
bits a b c d = omega arith

high : (n : ℕ) → n < 256 → n / 16 < 16
high n h = omega arith

-- two nibbles in a byte
joined : (x y : ℕ) → x < 16 → x * 16 + y % 16 < 256
joined x y h = omega arith

-- a channel that sounds
sound-in : (n : ℕ) → n < 16 → n < 17
sound-in n h = omega arith

flag-in : (t : Bool) → flag t < 2
flag-in true = omega arith
flag-in false = omega arith

-- one of two, by a test
one_of : {A : Type 0} (P : A → Type 0) (t : Bool) {x y : A} → P x → P y → P (pick t x y)
one_of P true p q = p
one_of P false p q = q

-- ---- the arithmetic unit: a value and a carry
record SumIn (x : Sum) : Type 0 where
  value : x.value < 16
  carry : x.carry < 2

summed-in : (a b c : ℕ) → SumIn (summed a b c)
summed-in a b c = record { value = low (a + b + c); carry = flag-in (ltb 15 (a + b + c)) }

adjusted-in : (a c : ℕ) → a < 16 → c < 2 → SumIn (adjusted a c)
adjusted-in a c h k = one (ltb 9 a || eqb c 1)
  where
    one : (t : Bool) → SumIn (pick t (record { value = (a + 6) % 16; carry = 1 }) (record { value = a; carry = c }))
    one true = record { value = low (a + 6); carry = omega arith }
    one false = record { value = h; carry = k }

-- ---- parts of an effect: on a processor in its ranges
module _ {c : Cpu} (v : CpuIn c) where
  taking-in : {x : Sum} → SumIn x → CpuIn (taking x c)
  taking-in {x} h = acc-in (cf-in v x.carry h.carry) x.value h.value

  register-in : (n : ℕ) → register_of n c < 16
  unfolding register_of
  register-in n =
      let r = v.registers in
      let P : ℕ → Type 0 = λ x. x < 16 in
      one_of P (eqb n 0) r.r0 (one_of P (eqb n 1) r.r1 (one_of P (eqb n 2) r.r2 (one_of P (eqb n 3) r.r3 r.r4)))

  with-register-in : (n x : ℕ) → x < 16 → CpuIn (with_register n x c)
  unfolding with_register
  with-register-in n x h =
      one_of CpuIn (eqb n 0) (r0-in v x h)
      (one_of CpuIn (eqb n 1) (r1-in v x h) (one_of CpuIn (eqb n 2) (r2-in v x h) (one_of CpuIn (eqb n 3) (r3-in v x h) (r4-in v x h))))

  port-in : (p : Port) → port_of p c < 16
  port-in Pm = v.pins.pm
  port-in Ps = v.pins.ps
  port-in Pp = v.pins.pp

  pair-in : (p : Pointer) (x y : ℕ) → ltb x 16 && ltb y 16 ≡ true → CpuIn (with_pair p x y c)
  pair-in R1R0 x y h = r0-in (r1-in v y (ltb-true y 16 (and_right (ltb x 16) (ltb y 16) h))) x (ltb-true x 16 (and_left (ltb x 16) (ltb y 16) h))
  pair-in R3R2 x y h = r2-in (r3-in v y (ltb-true y 16 (and_right (ltb x 16) (ltb y 16) h))) x (ltb-true x 16 (and_left (ltb x 16) (ltb y 16) h))

  tested-in : (k : Condition) → CpuIn (tested k c)
  tested-in (Ja n) = v
  tested-in JnzR0 = v
  tested-in JnzR1 = v
  tested-in JnzR4 = v
  tested-in Jz = v
  tested-in JnzA = v
  tested-in Jc = v
  tested-in Jnc = v
  tested-in Jtmr = tf-in v 0 (omega arith)

  branched-in : (k : Condition) (t : ProgramAddress) → CpuIn (branched k t c)
  unfolding branched
  branched-in k t = one_of CpuIn (holds k c) (pc-in (tested-in k) (address (branch_to c.control.pc.0 t)) (within c.control.pc.0 t.0 v.control.pc)) (tested-in k)
    where
      within : (a b : ℕ) → a < addresses → a / 2048 * 2048 + b % 2048 < addresses
      within a b h = omega arith

  called-in : (t : ProgramAddress) → t.0 < addresses → c.status.halted ≡ 0 → CpuIn (called t c)
  unfolding called
  called-in t h e =
      one_of CpuIn (eqb c.interrupts.level 0)
      (stack-in (level_in (pc-in v t h) 1 (omega arith)) _ (record { address = v.control.pc; carry = v.stack.carry }))
      (fault-in v 2 e (omega arith))

  returned-in : c.status.halted ≡ 0 → CpuIn (returned c)
  unfolding returned
  returned-in e = one_of CpuIn (eqb c.interrupts.level 0) (fault-in v 3 e (omega arith)) (level_in (pc-in v c.stack.address v.stack.address) 0 (omega arith))

  returned-with-carry-in : c.status.halted ≡ 0 → CpuIn (returned_with_carry c)
  unfolding returned_with_carry
  returned-with-carry-in e =
      one_of CpuIn (eqb c.interrupts.level 0) (fault-in v 3 e (omega arith))
      (cf-in (level_in (pc-in v c.stack.address v.stack.address) 0 (omega arith)) c.stack.carry v.stack.carry)

-- ---- the effects, on a machine that goes on
module _ (mask : List ℕ) (s : State) (b : Bytes mask) (v : Valid s) (e : s.cpu.status.halted ≡ 0) (f : s.cpu.status.fault ≡ 0) where
  acc : s.cpu.registers.acc < 16
  acc = v.cpu.registers.acc

  at : (p : Pointer) → nibble_at p s < 16
  at p = loaded-in s.memory v.memory (place_of p s.cpu)

  on : {c : Cpu} → CpuIn c → Valid (state c s.memory)
  on h = record { cpu = h; memory = v.memory }

  sum : {x : Sum} → SumIn x → Valid (on_cpu (taking x) s)
  sum h = on (taking-in v.cpu h)

  to-acc : {x : ℕ} → x < 16 → Valid (on_cpu (with_acc x) s)
  to-acc {x} h = on (acc-in v.cpu x h)

  put : (p : Pointer) (x : ℕ) → x < 16 → Valid (with_nibble p x s)
  put p x h = record { cpu = v.cpu; memory = stored-in s.memory v.memory (place_of p s.cpu) x h }

  pub effect-valid : (i : Instruction) → in_range i ≡ true → Valid (effect mask i s)
  unfolding effect in_range
  effect-valid I.AddAM r = sum (summed-in _ _ _)
  effect-valid I.AdcAM r = sum (summed-in _ _ _)
  effect-valid I.SubAM r = sum (summed-in _ _ _)
  effect-valid I.SbcAM r = sum (summed-in _ _ _)
  effect-valid (I.AddAX d) r = sum (summed-in _ _ _)
  effect-valid (I.SubAX d) r = sum (summed-in _ _ _)
  effect-valid I.Daa r = sum (adjusted-in _ _ acc v.cpu.control.cf)
  effect-valid I.AndAM r = to-acc (and_lt 4 _ _ acc (at R1R0))
  effect-valid I.OrAM r = to-acc (or_lt 4 _ _ acc (at R1R0))
  effect-valid I.XorAM r = to-acc (xor_lt 4 _ _ acc (at R1R0))
  effect-valid I.AndMA r = put R1R0 _ (and_lt 4 _ _ (at R1R0) acc)
  effect-valid I.OrMA r = put R1R0 _ (or_lt 4 _ _ (at R1R0) acc)
  effect-valid I.XorMA r = put R1R0 _ (xor_lt 4 _ _ (at R1R0) acc)
  effect-valid (I.AndAX d) r = to-acc (and_lt 4 _ _ acc (ltb-true d 16 r))
  effect-valid (I.OrAX d) r = to-acc (or_lt 4 _ _ acc (ltb-true d 16 r))
  effect-valid (I.XorAX d) r = to-acc (xor_lt 4 _ _ acc (ltb-true d 16 r))
  effect-valid I.IncA r = to-acc (low _)
  effect-valid (I.IncR n) r = on (with-register-in v.cpu n _ (low _))
  effect-valid (I.IncM p) r = put p _ (low _)
  effect-valid I.DecA r = to-acc (low _)
  effect-valid (I.DecR n) r = on (with-register-in v.cpu n _ (low _))
  effect-valid (I.DecM p) r = put p _ (low _)
  effect-valid (I.MovAR n) r = to-acc (register-in v.cpu n)
  effect-valid (I.MovRA n) r = on (with-register-in v.cpu n _ acc)
  effect-valid (I.MovAM p) r = to-acc (at p)
  effect-valid (I.MovMA p) r = put p _ acc
  effect-valid (I.MovAX d) r = to-acc (ltb-true d 16 r)
  effect-valid (I.MovPairXX p x y) r = on (pair-in v.cpu p x y r)
  effect-valid (I.MovR4X d) r = on (r4-in v.cpu d (ltb-true d 16 r))
  effect-valid I.RlA r = sum (record { value = bits _ _ _ _; carry = odd _ })
  effect-valid I.RlcA r = sum (record { value = bits _ _ _ _; carry = odd _ })
  effect-valid I.RrA r = sum (record { value = bits _ _ _ _; carry = odd _ })
  effect-valid I.RrcA r = sum (record { value = bits _ _ _ _; carry = odd _ })
  effect-valid (I.InA p) r = to-acc (port-in v.cpu p)
  effect-valid I.OutPaA r = on (pa-in v.cpu _ acc)
  effect-valid (I.Jmp t) r = on (pc-in v.cpu t (ltb-true t.0 addresses r))
  effect-valid (I.Branch t k) r = on (branched-in v.cpu k t)
  effect-valid (I.Call t) r = on (called-in v.cpu t (ltb-true t.0 addresses r) e)
  effect-valid I.Ret r = on (returned-in v.cpu e)
  effect-valid I.Reti r = on (returned-with-carry-in v.cpu e)
  effect-valid I.Clc r = on (cf-in v.cpu 0 (odd 0))
  effect-valid I.Stc r = on (cf-in v.cpu 1 (odd 1))
  effect-valid I.Ei r = on (enabled-in v.cpu 1 (odd 1))
  effect-valid I.Di r = on (enabled-in v.cpu 0 (odd 0))
  effect-valid I.Nop r = v
  effect-valid (I.TimerXX x) r = on (count-in v.cpu x (ltb-true x 256 r))
  effect-valid I.TimerOn r = on (running-in v.cpu 1 (odd 1))
  effect-valid I.TimerOff r = on (running-in v.cpu 0 (odd 0))
  effect-valid I.MovATmrl r = to-acc (low _)
  effect-valid I.MovATmrh r = to-acc (high _ v.cpu.timer.count)
  effect-valid I.MovTmrlA r = on (count-in v.cpu _ (joined _ _ (high _ v.cpu.timer.count)))
  effect-valid I.MovTmrhA r = on (count-in v.cpu _ (joined _ _ (low _)))
  effect-valid (I.ReadR4A p) r = on (r4-in (acc-in v.cpu _ (low _)) _ (high _ (b _)))
  effect-valid (I.ReadMr0A p) r = record { cpu = acc-in v.cpu _ (low _); memory = (put R1R0 _ (high _ (b _))).memory }
  effect-valid (I.SoundN n) r = on (channel-in v.cpu n (sound-in n (ltb-true n 16 r)))
  effect-valid I.SoundA r = on (channel-in v.cpu _ (sound-in _ acc))
  effect-valid I.SoundOne r = on (mode-in v.cpu 0 (odd 0))
  effect-valid I.SoundLoop r = on (mode-in v.cpu 1 (odd 1))
  effect-valid I.SoundOff r = on (channel-in v.cpu 16 (omega arith))
  effect-valid I.Halt r = on (halted-in v.cpu f)

-- ---- one step
module _ {c : Cpu} (v : CpuIn c) where
  timed-in : (k : Count) → k.count < 256 → CpuIn (timed k c)
  timed-in k h = count-in (one_of CpuIn (eqb k.passed 1) (tf-in v 1 (odd 1)) v) k.count h

  ticked-in : (n : ℕ) → CpuIn (ticked n c)
  unfolding ticked
  ticked-in n =
      let k = clocks c.options.rate c.cycles n in
      cycles-in (one_of CpuIn (eqb c.timer.running 1) (timed-in (counted c.timer.count k) (byte (c.timer.count + k))) v) _ (wrapped (c.cycles + n))
    where
      byte : (n : ℕ) → n % 256 < 256
      byte n = omega arith

      wrapped : (n : ℕ) → n % 2 ^ 32 < 2 ^ 32
      wrapped n = omega arith

  moved_in : (n : ℕ) → CpuIn (moved n c)
  moved_in n = pc-in v _ (around (c.control.pc.0 + n))
    where
      around : (n : ℕ) → n % addresses < addresses
      around n = omega arith

entered-in : {c : Cpu} (a : ℕ) → a < addresses → CpuIn c → CpuIn (entered a c)
unfolding entered
entered-in {c} a h v = ticked-in (stack-in (level_in (pc-in v (address a) h) 2 (omega arith)) _ (record { address = v.control.pc; carry = v.control.cf })) 2

module _ (mask : List ℕ) (s : State) (b : Bytes mask) (v : Valid s) where
  -- a machine that goes on
  module _ (e : s.cpu.status.halted ≡ 0) (f : s.cpu.status.fault ≡ 0) where
    settled-valid : (n : ℕ) (t : State) → Valid t → Valid (settled n s t)
    settled-valid n t w =
        one_of Valid (eqb t.cpu.status.fault 0)
        (record { cpu = ticked-in w.cpu n; memory = w.memory })
        (record { cpu = fault-in v.cpu t.cpu.status.fault e w.cpu.status.fault; memory = v.memory })

    instructed-valid : (d : Option Instruction) (l n : ℕ) → read_at mask s.cpu.control.pc.0 ≡ d → Valid (instructed mask d l n s)
    instructed-valid (Some i) l n q =
        settled-valid n _ (effect-valid mask (on_cpu (moved l) s) b (record { cpu = moved_in v.cpu l; memory = v.memory }) e f i (read-fields mask s.cpu.control.pc.0 b i q))
    instructed-valid None l n q = record { cpu = fault-in v.cpu 1 e (omega arith); memory = v.memory }

    executed-valid : Valid (executed mask s)
    unfolding executed
    executed-valid = instructed-valid _ _ _ refl

    stepped-valid : Valid (stepped mask s)
    unfolding stepped
    stepped-valid =
        one_of Valid (eqb (vector_of s.cpu) 8)
        (record { cpu = entered-in 8 (omega arith) (held_in v.cpu 0 (odd 0)); memory = v.memory })
        (one_of Valid (eqb (vector_of s.cpu) 4)
        (record { cpu = entered-in 4 (omega arith) (tf-in v.cpu 0 (odd 0)); memory = v.memory })
        executed-valid)

  step_in : Valid (step mask s)
  unfolding step
  step_in = go (stopped s) refl
    where
      go : (t : Bool) → stopped s ≡ t → Valid (pick t s (stepped mask s))
      go true p = v
      go false p =
          let q = not-false (eqb s.cpu.status.halted 0 && eqb s.cpu.status.fault 0) p in
          stepped-valid
          (eqb-true s.cpu.status.halted 0 (and_left (eqb s.cpu.status.halted 0) _ q))
          (eqb-true s.cpu.status.fault 0 (and_right (eqb s.cpu.status.halted 0) _ q))

-- a step on a machine in its ranges leaves it in them
pub step-valid : (mask : List ℕ) (s : State) → Bytes mask → valid s ≡ true → valid (step mask s) ≡ true
step-valid mask s b e = to (step mask s) (step_in mask s b (from s e))

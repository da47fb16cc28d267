-- The ranges of a processor, grouped by the tests that are made at once. Assumes nothing.
use Prim.Native.Nat.{ℕ, ◌<◌, ◌^◌}
use mathlib.Core.Path.{◌≡◌, refl, sym}
use mathlib.Core.Bool.{Bool, true, false, not, ◌&&◌, ◌||◌}
use lib.Dec.{eqb, ltb}
use lib.ListN.{replicate}
use borrow.Author.Tests.{lt-ltb, ltb-true}
use Rattle.isa.proofs.Exact.{and_left, and_right, and_both}
use Rattle.cpu.specs.State.{state}
use Rattle.cpu.specs.Range.{bit, cpu_ok, memory_ok, nibble, nibbles, options_ok, registers_ok, valid}
use Rattle.cpu.specs.declared.Cpu.{Cpu}
use Rattle.cpu.proofs.Ranges.{CpuIn, from, to}
use Rattle.datapath.specs.Memory.{memory_size}
use Rattle.isa.specs.Code.{addresses}

-- two tests that pass together
same : (x y : Bool) → (x ≡ true → y ≡ true) → (y ≡ true → x ≡ true) → x ≡ y
same true y f g = sym (f refl)
same false true f g = g refl
same false false f g = refl

-- the first of two tests, and what is left
below : (x n : ℕ) (t : Bool) → ltb x n && t ≡ true → (x < n) × (t ≡ true)
below x n t e = (ltb-true x n (and_left (ltb x n) t e), and_right (ltb x n) t e)

both : (x y : Bool) → x && y ≡ true → (x ≡ true) × (y ≡ true)
both x y e = (and_left x y e, and_right x y e)

-- a memory in range, to say of a processor what is said of a state
zeros : memory_ok (replicate memory_size 0) ≡ true
unfolding memory_ok nibbles
zeros = refl

bounds : (c : Cpu) → cpu_ok c ≡ true → CpuIn c
unfolding valid
bounds c e = (from (state c (replicate memory_size 0)) (and_both (cpu_ok c) (memory_ok (replicate memory_size 0)) e zeros)).cpu

tests : (c : Cpu) → CpuIn c → cpu_ok c ≡ true
unfolding valid
tests c v = and_left (cpu_ok c) (memory_ok (replicate memory_size 0)) (to (state c (replicate memory_size 0)) (record { cpu = v; memory = zeros }))

module _ (c : Cpu) where
  abbrev pub small : Bool
  small =
      registers_ok c.registers
      && ((nibble c.outputs.pa && (nibble c.pins.pm && (nibble c.pins.ps && nibble c.pins.pp)))
      && (nibble c.options.pm && (nibble c.options.ps && nibble c.options.pp)))

  abbrev pub flags : Bool
  flags =
      (bit c.control.cf && (bit c.control.tf && (bit c.stack.carry && bit c.status.halted)))
      && (bit c.interrupts.enabled && (bit c.interrupts.held && (bit c.timer.running && (bit c.outputs.mode && bit c.pins.int))))

  abbrev pub bothAddresses : Bool
  bothAddresses = ltb c.control.pc.0 addresses && ltb c.stack.address.0 addresses

  abbrev pub rated : Bool
  rated = ltb c.options.rate 14 && not (eqb c.options.rate 6) || eqb c.options.rate 255

  abbrev pub common : Bool
  common = eqb c.options.commons 3 || eqb c.options.commons 4

  abbrev pub others : Bool
  others =
      ltb c.interrupts.level 3
      && (ltb c.status.fault 4
      && ((eqb c.status.halted 0 || eqb c.status.fault 0)
      && (ltb c.outputs.channel 17 && (rated && common))))

  module _ (count : c.timer.count < 256) (cycles : c.cycles < 2 ^ 32) where
    to-parts : small && (flags && (bothAddresses && others)) ≡ true → CpuIn c
    unfolding registers_ok options_ok
    to-parts e =
        let s = both small _ e in
        let f = both flags _ s.1 in
        let p = both bothAddresses _ f.1 in
        let r = both (registers_ok c.registers) _ s.0 in
        let n = both (nibble c.outputs.pa && (nibble c.pins.pm && (nibble c.pins.ps && nibble c.pins.pp))) _ r.1 in
        let acc = below c.registers.acc 16 _ r.0 in
        let r0 = below c.registers.r0 16 _ acc.1 in
        let r1 = below c.registers.r1 16 _ r0.1 in
        let r2 = below c.registers.r2 16 _ r1.1 in
        let r3 = below c.registers.r3 16 _ r2.1 in
        let pa = below c.outputs.pa 16 _ n.0 in
        let pm = below c.pins.pm 16 _ pa.1 in
        let ps = below c.pins.ps 16 _ pm.1 in
        let g = both (bit c.control.cf && (bit c.control.tf && (bit c.stack.carry && bit c.status.halted))) _ f.0 in
        let cf = below c.control.cf 2 _ g.0 in
        let tf = below c.control.tf 2 _ cf.1 in
        let carry = below c.stack.carry 2 _ tf.1 in
        let enabled = below c.interrupts.enabled 2 _ g.1 in
        let held = below c.interrupts.held 2 _ enabled.1 in
        let running = below c.timer.running 2 _ held.1 in
        let mode = below c.outputs.mode 2 _ running.1 in
        let pc = below c.control.pc.0 addresses _ p.0 in
        let level = below c.interrupts.level 3 _ p.1 in
        let fault = below c.status.fault 4 _ level.1 in
        let either = both (eqb c.status.halted 0 || eqb c.status.fault 0) _ fault.1 in
        let channel = below c.outputs.channel 17 _ either.1 in
        let chosen = both rated common channel.1 in
        record {
          registers = record { acc = acc.0; r0 = r0.0; r1 = r1.0; r2 = r2.0; r3 = r3.0; r4 = ltb-true c.registers.r4 16 r3.1 };
          control = record { pc = pc.0; cf = cf.0; tf = tf.0 };
          timer = record { count = count; running = running.0 };
          interrupts = record { enabled = enabled.0; held = held.0; level = level.0 };
          stack = record { address = ltb-true c.stack.address.0 addresses pc.1; carry = carry.0 };
          status = record { halted = ltb-true c.status.halted 2 carry.1; fault = fault.0; either = either.0 };
          outputs = record { pa = pa.0; channel = channel.0; mode = mode.0 };
          pins = record { pm = pm.0; ps = ps.0; pp = ltb-true c.pins.pp 16 ps.1; int = ltb-true c.pins.int 2 mode.1 };
          options = and_both rated _ chosen.0 (and_both common _ chosen.1 n.1);
          cycles = cycles;
        }

    of_parts : CpuIn c → small && (flags && (bothAddresses && others)) ≡ true
    unfolding registers_ok options_ok
    of_parts v =
        let r = v.registers in
        let q = v.pins in
        let o = both rated _ v.options in
        let w = both common _ o.1 in
        and_both small _
        (rw (
          lt-ltb c.registers.acc 16 r.acc,
          lt-ltb c.registers.r0 16 r.r0,
          lt-ltb c.registers.r1 16 r.r1,
          lt-ltb c.registers.r2 16 r.r2,
          lt-ltb c.registers.r3 16 r.r3,
          lt-ltb c.registers.r4 16 r.r4,
          lt-ltb c.outputs.pa 16 v.outputs.pa,
          lt-ltb c.pins.pm 16 q.pm,
          lt-ltb c.pins.ps 16 q.ps,
          lt-ltb c.pins.pp 16 q.pp,
        ) w.1)
        (and_both flags _
        (rw (
          lt-ltb c.control.cf 2 v.control.cf,
          lt-ltb c.control.tf 2 v.control.tf,
          lt-ltb c.stack.carry 2 v.stack.carry,
          lt-ltb c.status.halted 2 v.status.halted,
          lt-ltb c.interrupts.enabled 2 v.interrupts.enabled,
          lt-ltb c.interrupts.held 2 v.interrupts.held,
          lt-ltb c.timer.running 2 v.timer.running,
          lt-ltb c.outputs.mode 2 v.outputs.mode,
          lt-ltb c.pins.int 2 q.int,
        ) refl)
        (and_both bothAddresses _ (rw (lt-ltb c.control.pc.0 addresses v.control.pc, lt-ltb c.stack.address.0 addresses v.stack.address) refl)
        (rw (lt-ltb c.interrupts.level 3 v.interrupts.level, lt-ltb c.status.fault 4 v.status.fault, v.status.either, lt-ltb c.outputs.channel 17 v.outputs.channel, o.0) w.0)))

    pub grouped : small && (flags && (bothAddresses && others)) ≡ cpu_ok c
    grouped = same (small && (flags && (bothAddresses && others))) (cpu_ok c) (λ e. tests c (to-parts e)) (λ e. of_parts (bounds c e))

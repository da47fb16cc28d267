-- Wish 1 holds of the rule: by cases, whether the timer is clocked and whether its count passes 255. After the wake TF is `Waiting`: the step that
-- takes the edge and the one that returns from it keep that, since their timer can set TF alone. Assumes nothing.
use Prim.Native.Nat.{ℕ, ◌+◌, ◌%◌}
use mathlib.Core.Path.{◌≡◌, refl, sym, ap, ◌∙◌}
use mathlib.Core.Bool.{Bool, true, false}
use mathlib.Core.List.{List}
use native.Mathlib.Omega.{arith}
use lib.Dec.{eqb}
use borrow.Author.Tests.{lt-ltb, eq-eqb, ne_eqb}
use Rattle.isa.specs.Choice.{pick}
use Rattle.isa.specs.Reading.{decoded, opcodes}
use Rattle.isa.specs.Timing.{columns_of, columns_at, length_of, cycles_of}
use Rattle.isa.specs.declared.Instruction.TheVariants as I
use Rattle.rom.specs.Fetching.{byte_at}
use Rattle.rom.proofs.Fetching.{read-bytes, length-bytes, cycles-bytes}
use Rattle.datapath.specs.Timer.{clocks, counted}
use Rattle.cpu.specs.State.{State, state, with_cf, with_pc, with_tf, with_count, with_held, with_level, with_halted, with_cycles}
use Rattle.cpu.specs.Effect.{effect, returned_with_carry}
use Rattle.cpu.specs.Step.{ticked, entered, moved, settled, instructed, executed, vector_of, step}
use Rattle.cpu.specs.declared.Cpu.{Cpu}
use Rattle.cpu.specs.declared.Interrupts.{Interrupts}
use Rattle.cpu.specs.declared.Status.{Status}
use Rattle.cpu.proofs.Leaves.{Standing, ticked-same}
use Rattle.cpu.proofs.Steps.{takes-edge, takes-timer, runs}
use Rattle.machine.specs.Events.{with_int, woken, clocked, interrupted, counting}
use Rattle.machine.specs.Pulses.{Overflows, first_step, PulsesAsleep}

-- `timed` where it is chosen, with its test apart
abbrev counts : Bool → Bool → ℕ → Cpu → Cpu
counts t p k c = pick t (with_count k (pick p (with_tf 1 c) c)) c

counts-asleep : (t p : Bool) (k h : ℕ) (c : Cpu) → counts t p k (with_halted h c) ≡ with_halted h (counts t p k c)
counts-asleep true true k h c = refl
counts-asleep true false k h c = refl
counts-asleep false p k h c = refl

counts_alone : (t p : Bool) (k : ℕ) (c : Cpu) → with_count 0 (with_tf 0 (counts t p k c)) ≡ with_count 0 (with_tf 0 c)
counts_alone true true k c = refl
counts_alone true false k c = refl
counts_alone false p k c = refl

-- interrupts enabled in a level, TF set, no edge held, neither halted nor faulted
pub record Waiting (level : ℕ) (c : Cpu) : Type 0 where
  pub flag : c.control.tf ≡ 1
  pub interrupts : c.interrupts ≡ record { enabled = 1; held = 0; level = level }
  pub status : c.status ≡ record { halted = 0; fault = 0 }

ticked-waits : (n level : ℕ) (c : Cpu) → Waiting level c → Waiting level (ticked n c)
unfolding ticked
ticked-waits n level c w = go (eqb c.timer.running 1) (eqb (counted c.timer.count (clocks c.options.rate c.cycles n)).passed 1) _ _
  where
    go : (t p : Bool) (k x : ℕ) → Waiting level (with_cycles x (counts t p k c))
    go true true k x = record { flag = refl; interrupts = w.interrupts; status = w.status }
    go true false k x = record { flag = w.flag; interrupts = w.interrupts; status = w.status }
    go false p k x = record { flag = w.flag; interrupts = w.interrupts; status = w.status }

-- an interrupt goes to its vector
entered-pc : (v : ℕ) (c : Cpu) → (entered v c).control.pc.0 ≡ v
unfolding entered
entered-pc v c = ap (λ (s : Standing). s.pc) (ticked-same 2 _)

-- where TF waits in main it is taken
takes-flag : (mask memory : List ℕ) (c : Cpu) → Waiting 0 c → (step mask (state c memory)).cpu.control.pc.0 ≡ 4
unfolding vector_of
takes-flag mask memory c w =
    ap (λ (s : State). s.cpu.control.pc.0) (sym (takes-timer mask (state c memory) (ap (λ (x : Status). x.halted) w.status) (ap (λ (x : Status). x.fault) w.status) next))
    ∙ entered-pc 4 (with_tf 0 c)
  where
    next : vector_of c ≡ 4
    next = rw (w.interrupts, w.flag) refl

-- RETI at 8, where TF waits in an interrupt: it waits in main
module _ (mask memory : List ℕ) (c : Cpu) (w : Waiting 2 c) (at : c.control.pc.0 ≡ 8) (reti : byte_at mask 8 ≡ 0x2f) where
  abbrev back : Cpu
  back = ticked 1 (with_cf c.stack.carry (with_level 0 (with_pc c.stack.address (moved 1 c))))

  back-waits : Waiting 0 back
  back-waits = ticked-waits 1 0 _ (record {
    flag = w.flag;
    interrupts = ap (λ (x : Interrupts). record { enabled = x.enabled; held = x.held; level = 0 }) w.interrupts;
    status = w.status;
  })

  none-next : vector_of c ≡ 0
  unfolding vector_of
  none-next = rw w.interrupts refl

  read : instructed mask (decoded 0x2f (byte_at mask (c.control.pc.0 + 1))) (length_of 0x2f) (cycles_of 0x2f) (state c memory) ≡ settled 1 (state c memory) (effect mask I.Reti (state (moved 1 c) memory))
  unfolding decoded opcodes columns_of columns_at
  read = refl

  there : executed mask (state c memory)
      ≡ instructed mask (decoded (byte_at mask c.control.pc.0) (byte_at mask (c.control.pc.0 + 1))) (length_of (byte_at mask c.control.pc.0)) (cycles_of (byte_at mask c.control.pc.0)) (state c memory)
  unfolding executed
  there = rw (read-bytes mask c.control.pc.0, length-bytes mask c.control.pc.0, cycles-bytes mask c.control.pc.0) refl

  returned : step mask (state c memory) ≡ state back memory
  unfolding effect returned_with_carry
  returned =
      sym (runs mask (state c memory) (ap (λ (x : Status). x.halted) w.status) (ap (λ (x : Status). x.fault) w.status)
      (λ e. absurd (omega (arith, none-next, e))) (λ e. absurd (omega (arith, none-next, e))))
      ∙ there
      ∙ ap (λ (x : ℕ). instructed mask (decoded x (byte_at mask (c.control.pc.0 + 1))) (length_of x) (cycles_of x) (state c memory))
      (ap (byte_at mask) at ∙ reti)
      ∙ read
      ∙ rw (
        ne_eqb c.interrupts.level 0 (λ e. absurd (omega (arith, ap (λ (x : Interrupts). x.level) w.interrupts, e))),
        eq-eqb c.status.fault 0 (ap (λ (x : Status). x.fault) w.status),
      ) refl

-- the wake
module _ (mask memory : List ℕ) (n : ℕ) (c : Cpu) (o : Overflows n c) where
  -- awake, with TF set and an edge held
  abbrev awake : Cpu
  awake = with_int 0 (woken (with_count ((c.timer.count + n) % 256) (with_tf 1 c)))

  wakes-up : interrupted 0 (counting n c) ≡ awake
  unfolding interrupted counting
  wakes-up = rw (o.sleeps.external, o.sleeps.running, lt-ltb 255 (c.timer.count + n) o.passes, o.int-high) refl

  edge-next : vector_of awake ≡ 8
  unfolding vector_of
  edge-next = rw (o.main, o.enabled) refl

  abbrev took : Cpu
  took = entered 8 (with_held 0 awake)

  taken : first_step mask memory n c ≡ state took memory
  taken = ap (λ (c : Cpu). step mask (state c memory)) wakes-up ∙ sym (takes-edge mask (state awake memory) refl o.no-fault edge-next)

  took-waits : Waiting 2 took
  unfolding entered
  took-waits = ticked-waits 2 2 _ (record {
    flag = refl;
    interrupts = ap (λ (x : ℕ). record { enabled = x; held = 0; level = 2 }) o.enabled;
    status = ap (λ (x : ℕ). record { halted = 0; fault = x }) o.no-fault;
  })

  edge : (first_step mask memory n c).cpu.control.pc.0 ≡ 8
  edge = ap (λ (s : State). s.cpu.control.pc.0) taken ∙ entered-pc 8 (with_held 0 awake)

  flag : byte_at mask 8 ≡ 0x2f → (step mask (step mask (first_step mask memory n c))).cpu.control.pc.0 ≡ 4
  flag reti =
      let at = entered-pc 8 (with_held 0 awake) in
      ap (λ (s : State). (step mask (step mask s)).cpu.control.pc.0) taken
      ∙ ap (λ (s : State). (step mask s).cpu.control.pc.0) (returned mask memory took took-waits at reti)
      ∙ takes-flag mask memory (back mask memory took took-waits at reti) (back-waits mask memory took took-waits at reti)

pub pulses-asleep : PulsesAsleep
unfolding counting
pulses-asleep = record {
  moves = λ n c s. rw (s.external, s.running) refl;
  as-awake = λ n h c. counts-asleep (clocked c) (eqb (counted c.timer.count n).passed 1) (counted c.timer.count n).count h c;
  wakes-nothing = λ n c. counts_alone (clocked c) (eqb (counted c.timer.count n).passed 1) (counted c.timer.count n).count c;
  edge-first = edge;
  then-flag = flag;
}

-- The cycles that a step spends, by what it does, and that the machine's own count moves on by as many: an effect leaves that count, and what goes by
-- after it is what is spent. Assumes nothing.
use Prim.Native.Nat.{ℕ, zero, suc, ◌+◌, ◌%◌, ◌^◌, ◌<◌}
use native.Mathlib.Omega.{arith}
use mathlib.Core.Path.{◌≡◌, refl, sym, ap, ◌∙◌}
use mathlib.Core.Bool.{Bool, true, false, ◌&&◌}
use mathlib.Core.List.{List, [], ◌∷◌}
use mathlib.Core.Logic.{◌⊎◌, inl, inr}
use lib.Dec.{eqb}
use borrow.Author.Tests.{eq-eqb, eqb-true}
use Rattle.std.specs.Prelude.{Option, Some, None}
use Rattle.isa.specs.declared.Instruction.{Instruction}
use Rattle.isa.specs.Choice.{pick}
use Rattle.rom.specs.Fetching.{read_at, length_at, cycles_at}
use Rattle.cpu.specs.State.{State, on_cpu, with_fault}
use Rattle.cpu.specs.Effect.{effect}
use Rattle.cpu.specs.Step.{ticked, entered, moved, settled, instructed, executed, vector_of, stepped, stopped, step}
use Rattle.cpu.specs.Run.{ran, yielded}
use Rattle.cpu.specs.Range.{valid}
use Rattle.cpu.specs.declared.Cpu.{Cpu}
use Rattle.cpu.specs.declared.Options.{Options}
use Rattle.datapath.specs.Timer.{counted}
use Rattle.machine.specs.Machine.{state_of}
use Rattle.machine.specs.Power.{answered}
use Rattle.machine.specs.Events.{woken, wakes, pinned, interrupted, clocked, counting, happened, refusal_of, applied}
use Rattle.machine.specs.Events.{Input, power, named, answer_to, Call, steps_of, after, Every}
use Rattle.machine.specs.declared.Machine.{Machine}
use Rattle.machine.specs.declared.events.Event.{Event}
use Rattle.machine.specs.declared.events.Event.TheVariants.{Run, Pins, Int, Tmclk, Res}
use Rattle.cpu.proofs.Leaves.{Standing, ticked-same}
use Rattle.bound_laws.specs.Delay.{spent_by, spent_in, spent, NoRestart, SpentCounts}
use Rattle.bound_laws.proofs.Sides.{Aside, effect-sides, counting-same, ticked-cycles}

-- the vector is one of three
abbrev Vector : ℕ → Type 0
Vector v = (v ≡ 8) ⊎ ((v ≡ 4) ⊎ (v ≡ 0))

vectors-of : (c : Cpu) → Vector (vector_of c)
unfolding vector_of
vectors-of c = go (eqb c.interrupts.level 0 && eqb c.interrupts.enabled 1) (eqb c.interrupts.held 1) (eqb c.control.tf 1)
  where
    go : (a b d : Bool) → Vector (pick a (pick b 8 (pick d 4 0)) 0)
    go true true d = inl refl
    go true false true = inr (inl refl)
    go true false false = inr (inr refl)
    go false b d = inr (inr refl)

module _ (mask : List ℕ) (s : State) where
  -- a step that takes no interrupt and does not fault spends the instruction's cycles
  pub spent-instruction : s.cpu.status.halted ≡ 0 → s.cpu.status.fault ≡ 0 → vector_of s.cpu ≡ 0 → (executed mask s).cpu.status.fault ≡ 0
      → spent_by mask s ≡ cycles_at mask s.cpu.control.pc.0
  unfolding spent_by
  spent-instruction h f v e =
      rw (eq-eqb s.cpu.status.halted 0 h, eq-eqb s.cpu.status.fault 0 f, v, eq-eqb (executed mask s).cpu.status.fault 0 e) refl

  -- ---- the machine's count
  module _ (small : s.cpu.cycles < 2 ^ 32) where
    none : s.cpu.cycles ≡ (s.cpu.cycles + 0) % 2 ^ 32
    none = omega arith

    -- of what an instruction makes of the machine, t
    abbrev Counts : ℕ → State → Type 0
    Counts n t = t.cpu.cycles ≡ (s.cpu.cycles + pick (eqb t.cpu.status.fault 0) n 0) % 2 ^ 32

    settled-counts : (n : ℕ) (t : State) → t.cpu.cycles ≡ s.cpu.cycles → Counts n (settled n s t)
    settled-counts n t e = go (eqb t.cpu.status.fault 0) refl
      where
        tested : (b c : Bool) → b ≡ c → (s.cpu.cycles + pick c n 0) % 2 ^ 32 ≡ (s.cpu.cycles + pick b n 0) % 2 ^ 32
        tested b c p = ap (λ (b : Bool). (s.cpu.cycles + pick b n 0) % 2 ^ 32) (sym p)

        go : (b : Bool) → eqb t.cpu.status.fault 0 ≡ b → Counts n (pick b (on_cpu (ticked n) t) (on_cpu (with_fault t.cpu.status.fault) s))
        go true p =
            let new = ticked n t.cpu in
            let f : new.status.fault ≡ 0 = ap (λ (x : Standing). x.fault) (ticked-same n t.cpu) ∙ eqb-true t.cpu.status.fault 0 p in
            ticked-cycles n t.cpu
            ∙ ap (λ (c : ℕ). (c + n) % 2 ^ 32) e
            ∙ tested (eqb new.status.fault 0) true (eq-eqb new.status.fault 0 f)
        go false p = none ∙ tested (eqb t.cpu.status.fault 0) false p

    instructed-counts : (d : Option Instruction) (l n : ℕ) → Counts n (instructed mask d l n s)
    instructed-counts None l n = none
    instructed-counts (Some i) l n = settled-counts n (effect mask i (on_cpu (moved l) s)) (effect-sides mask i (on_cpu (moved l) s)).cycles

    executed-counts : Counts (cycles_at mask s.cpu.control.pc.0) (executed mask s)
    unfolding executed
    executed-counts = let pc = s.cpu.control.pc.0 in instructed-counts (read_at mask pc) (length_at mask pc) (cycles_at mask pc)

    -- an interrupt or an instruction, and its cycles
    abbrev going : ℕ
    going = pick (eqb (vector_of s.cpu) 0) (pick (eqb (executed mask s).cpu.status.fault 0) (cycles_at mask s.cpu.control.pc.0) 0) 2

    stepped-counts : (stepped mask s).cpu.cycles ≡ (s.cpu.cycles + going) % 2 ^ 32
    unfolding stepped entered
    stepped-counts = go (vectors-of s.cpu)
      where
        go : Vector (vector_of s.cpu) → (stepped mask s).cpu.cycles ≡ (s.cpu.cycles + going) % 2 ^ 32
        go (inl v) = rw v (ticked-cycles 2 _)
        go (inr (inl v)) = rw v (ticked-cycles 2 _)
        go (inr (inr v)) = rw v executed-counts

    pub step_counts : (step mask s).cpu.cycles ≡ (s.cpu.cycles + spent_by mask s) % 2 ^ 32
    unfolding step spent_by
    step_counts = go (stopped s)
      where
        go : (b : Bool) → (pick b s (stepped mask s)).cpu.cycles ≡ (s.cpu.cycles + pick b 0 going) % 2 ^ 32
        go true = none
        go false = stepped-counts

-- ---- a Run, each input, and every list
both : (a b c d : ℕ) → c ≡ (a + b) % 2 ^ 32 → (c + d) % 2 ^ 32 ≡ (a + (b + d)) % 2 ^ 32
both a b c d e = omega arith

ran-counts : (mask : List ℕ) (n : ℕ) (s : State) → s.cpu.cycles < 2 ^ 32 → (ran mask n s).cpu.cycles ≡ (s.cpu.cycles + spent_in mask n s) % 2 ^ 32
unfolding ran yielded
ran-counts mask zero s h = none mask s h
ran-counts mask (suc n) s h =
    let e = step_counts mask s h in
    let new = step mask s in
    ran-counts mask n new (omega (arith, e)) ∙ both s.cpu.cycles (spent_by mask s) new.cpu.cycles (spent_in mask n new) e

pick-cycles : (t : Bool) (x y : Cpu) {n : ℕ} → x.cycles ≡ n → y.cycles ≡ n → (pick t x y).cycles ≡ n
pick-cycles true x y p q = p
pick-cycles false x y p q = q

module _ (mask : List ℕ) (m : Machine) (small : m.cpu.cycles < 2 ^ 32) where
  same_count : {n : ℕ} → n ≡ m.cpu.cycles → n ≡ (m.cpu.cycles + 0) % 2 ^ 32
  same_count e = e ∙ none mask (state_of m) small

  happened-counts : (e : Event) → (happened mask e m).cpu.cycles ≡ (m.cpu.cycles + spent_in mask (steps_of (named (Some e))) (state_of m)) % 2 ^ 32
  unfolding happened pinned interrupted counting steps_of yielded
  happened-counts (Run n) = ran-counts mask n (state_of m) small
  happened-counts (Pins pm ps pp) = same_count (pick-cycles (wakes pm ps pp m.cpu) (woken m.cpu) m.cpu refl refl)
  happened-counts (Int level) =
      same_count (pick-cycles (eqb m.cpu.pins.int 1 && eqb level 0) (woken m.cpu) m.cpu refl refl)
  happened-counts (Tmclk n) =
      same_count (ap (λ (a : Aside). a.cycles) (counting-same (clocked m.cpu) (counted m.cpu.timer.count n) m.cpu))
  happened-counts Res = same_count refl

  answered-counts : (r n : ℕ) (new : Machine) → new.cpu.cycles ≡ (m.cpu.cycles + n) % 2 ^ 32
      → (answered r new m).machine.cpu.cycles ≡ (m.cpu.cycles + pick (eqb r 0) n 0) % 2 ^ 32
  answered-counts r n new e = go (eqb r 0)
    where
      go : (b : Bool) → (pick b new m).cpu.cycles ≡ (m.cpu.cycles + pick b n 0) % 2 ^ 32
      go true = e
      go false = same_count refl

  input-counts : (i : Input) → ((options : Options) (image : List ℕ) → i ≡ power options image → ⊥)
      → (answer_to mask i m).machine.cpu.cycles
      ≡ (m.cpu.cycles + pick (eqb (answer_to mask i m).refusal 0) (spent_in mask (steps_of i) (state_of m)) 0) % 2 ^ 32
  unfolding applied steps_of yielded
  input-counts (power options image) q = absurd (q options image refl)
  input-counts (named (Some e)) q =
      answered-counts (refusal_of mask e m) (spent_in mask (steps_of (named (Some e))) (state_of m)) (happened mask e m) (happened-counts e)
  input-counts (named None) q = answered-counts (pick (valid (state_of m)) 7 5) 0 m (same_count refl)

list_counts : (calls : List Call) (m : Machine) → Every NoRestart calls → m.cpu.cycles < 2 ^ 32
    → (after calls m).cpu.cycles ≡ (m.cpu.cycles + spent calls m) % 2 ^ 32
unfolding after spent
list_counts [] m q h = none [] (state_of m) h
list_counts (k ∷ ks) m q h =
    let e = input-counts k.mask m h k.input q.0.0 in
    let new = (answer_to k.mask k.input m).machine in
    list_counts ks new q.1 (omega (arith, e)) ∙ both m.cpu.cycles _ new.cpu.cycles (spent ks new) e

pub spent-counts : SpentCounts
spent-counts = record { step_counts = step_counts; list_counts = list_counts }

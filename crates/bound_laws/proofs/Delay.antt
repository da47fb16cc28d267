-- A machine that waits above main comes to main before more than n cycles are spent. Each input keeps the wait or ends it: a Run by its steps
-- (Waiting.antt); one that is refused leaves the machine; pins, INT and TMCLK move neither PC nor level, and can only wake it and hold an edge. No
-- list ends in the wait with n cycles spent: some chain to a return would have to fit in what is left, and that is none. Assumes nothing.
use Prim.Native.Nat.{ℕ, ◌+◌, ◌≤◌}
use native.Mathlib.Nat.{add-zero}
use native.Mathlib.Omega.{arith}
use mathlib.Core.Path.{◌≡◌, refl, sym, ap, subst, ◌∙◌}
use mathlib.Core.Bool.{Bool, true, false, ◌&&◌}
use mathlib.Core.List.{List, [], ◌∷◌}
use mathlib.Core.Logic.{◌⊎◌, inl, inr}
use lib.Dec.{eqb}
use borrow.Author.Tests.{eq-eqb}
use Rattle.std.specs.Prelude.{Some, None}
use Rattle.isa.specs.Choice.{pick}
use Rattle.rom.specs.Fetching.{Bytes}
use Rattle.datapath.specs.Timer.{counted}
use Rattle.datapath.specs.declared.timer.Count.{Count}
use Rattle.cpu.specs.State.{State, address, with_pc, with_held, with_level, with_stack, with_pins}
use Rattle.cpu.specs.Step.{timed, entered, vector_of, step}
use Rattle.cpu.specs.Range.{valid}
use Rattle.cpu.specs.Run.{ran, yielded}
use Rattle.cpu.specs.declared.Cpu.{Cpu}
use Rattle.cpu.specs.declared.Pins.{Pins}
use Rattle.cpu.proofs.Leaves.{Standing, standing, ticked-same, counting-same}
use Rattle.cpu.proofs.Steps.{takes-edge}
use Rattle.machine.specs.Machine.{state_of}
use Rattle.machine.specs.Power.{answered}
use Rattle.machine.specs.Events.{woken, wakes, pinned, interrupted, clocked, counting, happened, mask_ok, values_ok, refusal_of, applied}
use Rattle.machine.specs.Events.{Input, power, named, answer_to, Call, steps_of, after, Every, UnderMask}
use Rattle.machine.specs.declared.Machine.{Machine}
use Rattle.machine.specs.declared.events.Event.TheVariants.{Run, Pins as PinsEvent, Int, Tmclk, Res}
use Rattle.checker.specs.Verdicts.{Safe}
use Rattle.bound_laws.specs.Delay.{spent_in, spent, NoRestart, run, UpTo, this, later, Taken, DelayBounded}
use Rattle.bound_laws.proofs.Ends.{finds}
use Rattle.bound_laws.proofs.Sides.{Aside, ticked-cycles, ticked-held, ticked-stack, counting-same as counting-aside}
use Rattle.bound_laws.proofs.Waiting.{Waiting, InMain, To, Ran, joined, ran_on}

-- what an input spends
abbrev spending : List ℕ → Input → Machine → ℕ
spending given i m = pick (eqb (answer_to given i m).refusal 0) (spent_in given (steps_of i) (state_of m)) 0

module _ (mask : List ℕ) (safe : Safe mask) (bytes : Bytes mask) (n : ℕ) where
  abbrev Still : ℕ → Cpu → Cpu → Type 0
  Still k c d = To mask safe n (Waiting mask safe n) k c d

  abbrev Comes : ℕ → Cpu → Cpu → Type 0
  Comes k c d = To mask safe n (InMain mask safe n) k c d

  -- as far as the step that comes to main
  record Found (k : ℕ) (calls : List Call) (m : Machine) : Type 0 where
    until : List Call
    far : UpTo calls until
    comes : Comes (k + spent until m) m.cpu (after until m).cpu

  -- an input keeps the wait, or has that step
  abbrev One : ℕ → List ℕ → Input → Machine → Type 0
  One k given i m =
      Still (k + spending given i m) m.cpu (answer_to given i m).machine.cpu
      ⊎ ((ks : List Call) → Found k (record { mask = given; input = i } ∷ ks) m)

  -- ---- each input
  module _ (k : ℕ) (m : Machine) (w : Waiting mask safe n k (standing m.cpu)) (awake : m.cpu.status.halted ≡ 0) where
    stays : Still k m.cpu m.cpu
    stays = record { stands = w; awake = awake; held = λ z. z }

    -- pins of any kind, with a wake or without
    pinned-waits : (pins : Cpu → Pins) (t : Bool) → let c : Cpu = pick t (woken m.cpu) m.cpu in Still k m.cpu (with_pins (pins c) c)
    pinned-waits pins true = record { stands = w; awake = refl; held = λ z. refl }
    pinned-waits pins false = record { stands = w; awake = awake; held = λ z. z }

    counted-waits : (t : Bool) (x : Count) → Still k m.cpu (pick t (timed x m.cpu) m.cpu)
    counted-waits t x =
        let same = counting-aside t x m.cpu in
        record {
          stands = subst (Waiting mask safe n k) (sym (counting-same t x m.cpu)) w;
          awake = ap (λ (a : Aside). a.halted) same ∙ awake;
          held = λ z. ap (λ (a : Aside). a.held) same ∙ z;
        }

    -- an input without steps
    answered-waits : (r : ℕ) (new : Machine) → Still k m.cpu new.cpu → Still (k + pick (eqb r 0) 0 0) m.cpu (answered r new m).machine.cpu
    answered-waits r new x = go (eqb r 0)
      where
        go : (b : Bool) → Still (k + pick b 0 0) m.cpu (pick b new m).cpu
        go true = rw add-zero x
        go false = rw add-zero stays

    -- a Run that ends with one of its steps: its refusal does not look at how many they are
    run-ended : (i r : ℕ) → eqb (refusal_of mask (Run r) m) 0 ≡ true → Comes (k + spent_in mask i (state_of m)) m.cpu (ran mask i (state_of m)).cpu
        → Comes (k + spent (run mask i ∷ []) m) m.cpu (after (run mask i ∷ []) m).cpu
    unfolding applied happened steps_of after spent refusal_of mask_ok values_ok
    run-ended i r e y = rw (e, add-zero) y

    run-one : (r : ℕ) → One k mask (named (Some (Run r))) m
    unfolding applied happened steps_of
    run-one r = go (eqb (refusal_of mask (Run r) m) 0) refl
      where
        stepped : eqb (refusal_of mask (Run r) m) 0 ≡ true → Ran mask safe n k r (state_of m)
            → Still (k + spent_in mask r (state_of m)) m.cpu (ran mask r (state_of m)).cpu ⊎ ((ks : List Call) → Found k (run mask r ∷ ks) m)
        stepped e (inl y) = inl y
        stepped e (inr (i, p, h, y)) = inr (λ ks. record { until = run mask i ∷ []; far = this p h; comes = run-ended i r e y })

        go : (b : Bool) → eqb (refusal_of mask (Run r) m) 0 ≡ b
            → Still (k + pick b (spent_in mask r (state_of m)) 0) m.cpu (pick b (happened mask (Run r) m) m).cpu
            ⊎ ((ks : List Call) → Found k (run mask r ∷ ks) m)
        go true e = stepped e (ran_on mask safe n r k (state_of m) w awake)
        go false e = inl (rw add-zero stays)

    input-one : (given : List ℕ) (i : Input) → UnderMask mask (record { mask = given; input = i }) → NoRestart (record { mask = given; input = i })
        → One k given i m
    unfolding applied happened pinned interrupted counting steps_of yielded
    input-one given (power options image) u q = absurd (q.0 options image refl)
    input-one given (named None) u q = inl (answered-waits (pick (valid (state_of m)) 7 5) m stays)
    input-one given (named (Some (Run r))) u q = subst (λ (g : List ℕ). One k g (named (Some (Run r))) m) (sym (u r refl)) (run-one r)
    input-one given (named (Some (PinsEvent pm ps pp))) u q =
        inl (answered-waits (refusal_of given (PinsEvent pm ps pp) m) (happened given (PinsEvent pm ps pp) m)
        (pinned-waits (λ (c : Cpu). record { pm = pm; ps = ps; pp = pp; int = c.pins.int }) (wakes pm ps pp m.cpu)))
    input-one given (named (Some (Int level))) u q =
        inl (answered-waits (refusal_of given (Int level) m) (happened given (Int level) m)
        (pinned-waits (λ (c : Cpu). record { pm = c.pins.pm; ps = c.pins.ps; pp = c.pins.pp; int = level })
        (eqb m.cpu.pins.int 1 && eqb level 0)))
    input-one given (named (Some (Tmclk r))) u q =
        inl (answered-waits (refusal_of given (Tmclk r) m) (happened given (Tmclk r) m)
        (counted-waits (clocked m.cpu) (counted m.cpu.timer.count r)))
    input-one given (named (Some Res)) u q = absurd (q.1 refl)

  -- ---- every list
  found : (calls : List Call) → Every (UnderMask mask) calls → Every NoRestart calls → (k : ℕ) (m : Machine) → Waiting mask safe n k (standing m.cpu)
      → m.cpu.status.halted ≡ 0 → n ≤ k + spent calls m → Found k calls m
  unfolding spent after
  found [] u q k m w a h =
      let f = finds mask safe bytes _ w.waits in
      absurd (omega (arith, w.fits f.cycles f.spends, f.some))
  found (c ∷ ks) u q k m w a h = go (input-one k m w a c.mask c.input u.0 q.0) (found ks u.1 q.1)
    where
      new : Machine
      new = (answer_to c.mask c.input m).machine

      sum : (j : ℕ) → k + spending c.mask c.input m + j ≡ k + (spending c.mask c.input m + j)
      sum j = omega arith

      go : One k c.mask c.input m
          → ((k : ℕ) (m : Machine) → Waiting mask safe n k (standing m.cpu) → m.cpu.status.halted ≡ 0 → n ≤ k + spent ks m → Found k ks m)
          → Found k (c ∷ ks) m
      go (inl x) rest =
          let y = rest (k + spending c.mask c.input m) new x.stands x.awake (omega (arith, h, sum (spent ks new))) in
          record {
            until = c ∷ y.until;
            far = later y.far;
            comes = joined mask safe n (InMain mask safe n) x y.comes (sum (spent y.until new));
          }
      go (inr y) rest = y ks

-- ---- the next step
edge-taken : (mask : List ℕ) (s : State) → s.cpu.interrupts.level ≡ 0 → s.cpu.status.halted ≡ 0 → s.cpu.status.fault ≡ 0
    → s.cpu.interrupts.enabled ≡ 1 → s.cpu.interrupts.held ≡ 1 → Taken s.cpu (step mask s).cpu
unfolding vector_of entered
edge-taken mask s l h f e d = subst (λ (t : State). Taken s.cpu t.cpu) (takes-edge mask s h f vector) taken
  where
    vector : vector_of s.cpu ≡ 8
    vector = rw (eq-eqb s.cpu.interrupts.level 0 l, eq-eqb s.cpu.interrupts.enabled 1 e, eq-eqb s.cpu.interrupts.held 1 d) refl

    taken : Taken s.cpu (entered 8 (with_held 0 s.cpu))
    taken =
        let c = s.cpu in
        let new = with_stack (record { address = c.control.pc; carry = c.control.cf }) (with_level 2 (with_pc (address 8) (with_held 0 c))) in
        record {
          vector = ap (λ (x : Standing). x.pc) (ticked-same 2 new);
          cleared = ticked-held 2 new;
          stacked = ticked-stack 2 new;
          level = ap (λ (x : Standing). x.level) (ticked-same 2 new);
          cycles = ticked-cycles 2 new;
        }

pub delay-bounded : DelayBounded
delay-bounded mask bytes n m (asked, (above, reached), bounded) awake no-fault calls under quiet enough =
    let safe = asked.passed in
    let w : Waiting mask safe n 0 (standing m.cpu) = record {
      waits = record { reached = reached; above = above; ends = bounded.ends };
      fits = λ j c. omega (arith, bounded.longest.most j c);
      no-fault = no-fault;
    } in
    let f = found mask safe bytes n calls under quiet 0 m w awake (omega arith) in
    let c = f.comes in
    record {
      until = f.until;
      far = f.far;
      soon = omega (arith, c.stands.soon);
      main = c.stands.main;
      awake = c.awake;
      no-fault = c.stands.no-fault;
      held = c.held;
      taken = edge-taken mask (state_of (after f.until m)) c.stands.main c.awake c.stands.no-fault;
    }

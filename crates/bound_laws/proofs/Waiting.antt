-- One step of a machine that waits above main, k cycles spent, where every chain from its pair to a return fits in what is left of n. No interrupt is
-- taken there, so one instruction runs. RET and RETI end the wait, and their own cycles are a chain; any other goes on to a pair whose chains, with
-- its cycles before them, are chains from here. HALT is none of them: it would be without end. Assumes nothing.
use Prim.Native.Nat.{ℕ, zero, suc, ◌+◌, ◌<◌, ◌≤◌}
use native.Mathlib.Nat.{add-zero}
use native.Mathlib.Omega.{arith}
use mathlib.Core.Path.{◌≡◌, refl, sym, ap, subst, ◌∙◌}
use mathlib.Core.List.{List, [], ◌∷◌}
use mathlib.Core.Logic.{◌⊎◌, inl, inr}
use borrow.Author.Tests.{eq-eqb, ne_eqb}
use Rattle.std.specs.Prelude.{Option, Some, None}
use Rattle.isa.specs.Views.{View, on, jmp, branch, call, ret, reti, ei, view}
use Rattle.isa.specs.declared.Instruction.{Instruction}
use Rattle.isa.specs.declared.Instruction.TheVariants as I
use Rattle.rom.specs.Fetching.{read_at, length_at, cycles_at, moved_from}
use Rattle.cpu.specs.State.{State, on_cpu}
use Rattle.cpu.specs.Effect.{effect}
use Rattle.cpu.specs.Step.{ticked, moved, settled, instructed, executed, vector_of, step}
use Rattle.cpu.specs.Run.{ran, yielded}
use Rattle.cpu.specs.declared.Cpu.{Cpu}
use Rattle.cpu.proofs.Leaves.{Standing, standing, ticked-same, Leaves, leaves}
use Rattle.cpu.proofs.Steps.{runs}
use Rattle.reach.specs.Chains.{Member, here, there}
use Rattle.reach.proofs.Chains.{reached-start}
use Rattle.checker.specs.Marks.{Pair, pair, flow_by, flow_of, flow_read, flow_at, fault_in, onward}
use Rattle.checker.specs.Verdicts.{Safe}
use Rattle.checker.specs.declared.flow.Flow.{Flow}
use Rattle.checker.specs.declared.flow.Flow.TheVariants.{Unread, Back}
use Rattle.bound.specs.Paths.{Spends}
use Rattle.bound.specs.Bounds.{within, Returns, cycles_of}
use Rattle.bound_laws.specs.Delay.{spent_by, spent_in}
use Rattle.bound_laws.proofs.Ends.{no_call, Waits, spends-here, spends-over, within_of, no-fault-of, within-waits}
use Rattle.bound_laws.proofs.Sides.{effect-sides, ticked-held, ticked-halted}
use Rattle.bound_laws.proofs.Spent.{spent-instruction}

-- the PC moved on, and nothing else
abbrev moved_to : ℕ → Standing → Standing
moved_to to s = record { pc = to; level = s.level; stack = s.stack; enabled = s.enabled; fault = s.fault }

-- an instruction above main that gives no fault goes on to what its flow names, or returns
abbrev Went : Flow → ℕ → Standing → Standing → Type 0
Went f to s t = (Member (pair t.pc t.level) (onward f to s.level) ⊎ ((f ≡ Back) × (t.level ≡ 0))) × (t.fault ≡ s.fault)

module _ (s t : Standing) (to : ℕ) (above : 0 < s.level) where
  went : {i : Instruction} (v : View i) → Leaves v (moved_to to s) t → fault_in (flow_by v) s.level ≡ 0 → Went (flow_by v) to s t
  went on l n = (inl (rw (l.pc, l.level) here), l.fault)
  went (jmp a) l n = (inl (rw (l.pc, l.level) here), l.fault)
  went (branch a k) (inl l) n = (inl (rw (l.pc, l.level) here), l.fault)
  went (branch a k) (inr l) n = (inl (rw (l.pc, l.level) (there here)), l.fault)
  went (call a) l n = absurd (no_call s.level above n)
  went ret l n = let e = l (λ z. omega arith) in (inr (refl, ap (λ (x : Standing). x.level) e), ap (λ (x : Standing). x.fault) e)
  went reti l n = let e = l (λ z. omega arith) in (inr (refl, ap (λ (x : Standing). x.level) e), ap (λ (x : Standing). x.fault) e)
  went ei l n =
      (inl (subst (λ (x : Standing). Member (pair x.pc x.level) (pair to s.level ∷ [])) (sym l) here), ap (λ (x : Standing). x.fault) l)

module _ (mask : List ℕ) (safe : Safe mask) (n : ℕ) where
  abbrev pair_of : Standing → Pair
  pair_of s = pair s.pc s.level

  -- it waits: a chain to a return fits in what is left
  pub record Waiting (k : ℕ) (s : Standing) : Type 0 where
    pub waits : Waits mask (pair_of s)
    pub fits : (m : ℕ) → Spends (within mask) (Returns mask) (cycles_of mask) (pair_of s) m → k + m ≤ n
    pub no-fault : s.fault ≡ 0

  -- it has come to main
  pub record InMain (k : ℕ) (s : Standing) : Type 0 where
    pub soon : k ≤ n
    pub main : s.level ≡ 0
    pub no-fault : s.fault ≡ 0

  -- from c to d: it goes on, and an edge held before is held
  pub record To (P : ℕ → Standing → Type 0) (k : ℕ) (c d : Cpu) : Type 0 where
    pub stands : P k (standing d)
    pub awake : d.status.halted ≡ 0
    pub held : c.interrupts.held ≡ 1 → d.interrupts.held ≡ 1

  abbrev pub Next : ℕ → Cpu → Cpu → Type 0
  Next k c d = To Waiting k c d ⊎ To InMain k c d

  -- ---- one instruction
  module _ (k : ℕ) (s : Standing) (w : Waiting k s) where
    went-next : (f : Flow) (t : Standing) → flow_at mask s.pc ≡ f → Went f (moved_from mask s.pc) s t
        → Waiting (k + cycles_at mask s.pc) t ⊎ InMain (k + cycles_at mask s.pc) t
    went-next f t e (inl m, z) =
        let q = pair_of s in
        let next : Member (pair_of t) (within mask q) = rw (within_of mask safe q w.waits.reached, e) m in
        inl (record {
          waits = within-waits mask safe q (pair_of t) w.waits next;
          fits = λ j c. omega (arith, w.fits (cycles_of mask q + j) (spends-over mask next c));
          no-fault = z ∙ w.no-fault;
        })
    went-next f t e (inr (b, l), z) =
        inr (record { soon = w.fits (cycles_of mask (pair_of s)) (spends-here mask (e ∙ b)); main = l; no-fault = z ∙ w.no-fault })

    -- what waits is no HALT
    no-halt : (i : Instruction) → read_at mask s.pc ≡ Some i → i ≡ I.Halt → ⊥
    no-halt i e h = w.waits.ends (record { at = pair_of s; reached = reached-start; shown = inr (e ∙ ap Some h) })

  -- ---- one step
  module _ (k : ℕ) (s : State) (w : Waiting k (standing s.cpu)) (awake : s.cpu.status.halted ≡ 0) where
    -- the cycles go by
    ticked-to : (P : ℕ → Standing → Type 0) (j c : ℕ) (d : Cpu) → d.status.halted ≡ 0 → d.interrupts.held ≡ s.cpu.interrupts.held
        → P j (standing d) → To P j s.cpu (ticked c d)
    ticked-to P j c d h e x =
        record { stands = subst (P j) (sym (ticked-same c d)) x; awake = ticked-halted c d ∙ h; held = λ z. ticked-held c d ∙ e ∙ z }

    settled-next : (j c : ℕ) (t : State) → t.cpu.status.fault ≡ 0 → t.cpu.status.halted ≡ 0
        → t.cpu.interrupts.held ≡ s.cpu.interrupts.held → Waiting j (standing t.cpu) ⊎ InMain j (standing t.cpu)
        → Next j s.cpu (settled c s t).cpu
    settled-next j c t z h e (inl x) = rw (eq-eqb t.cpu.status.fault 0 z) (inl (ticked-to Waiting j c t.cpu h e x))
    settled-next j c t z h e (inr x) = rw (eq-eqb t.cpu.status.fault 0 z) (inr (ticked-to InMain j c t.cpu h e x))

    abbrev pc : ℕ
    pc = s.cpu.control.pc.0

    instructed-next : (d : Option Instruction) → read_at mask pc ≡ d
        → Next (k + cycles_at mask pc) s.cpu (instructed mask d (length_at mask pc) (cycles_at mask pc) s).cpu
    unfolding flow_at flow_of
    instructed-next None e =
        absurd (omega (arith, no-fault-of mask safe (pair_of (standing s.cpu)) Unread w.waits.reached (ap flow_read e)))
    instructed-next (Some i) e =
        let here = standing s.cpu in
        let m = on_cpu (moved (length_at mask pc)) s in
        let t = effect mask i m in
        let sides = effect-sides mask i m in
        let allowed : fault_in (flow_of i) here.level ≡ 0 = no-fault-of mask safe (pair_of here) (flow_of i) w.waits.reached (ap flow_read e) in
        let g = went here (standing t.cpu) (moved_from mask pc) w.waits.above (view i) (leaves mask i m) allowed in
        settled-next (k + cycles_at mask pc) (cycles_at mask pc) t (g.1 ∙ w.no-fault) (sides.awake (no-halt k here w i e) ∙ awake) sides.held
        (went-next k here w (flow_of i) (standing t.cpu) (ap flow_read e) g)

    executed-next : Next (k + cycles_at mask pc) s.cpu (executed mask s).cpu
    unfolding executed
    executed-next = instructed-next (read_at mask pc) refl

    no-fault-next : {j : ℕ} {c d : Cpu} → Next j c d → d.status.fault ≡ 0
    no-fault-next (inl x) = x.stands.no-fault
    no-fault-next (inr x) = x.stands.no-fault

    no-vector : vector_of s.cpu ≡ 0
    unfolding vector_of
    no-vector = rw (ne_eqb s.cpu.interrupts.level 0 (λ z. omega (arith, w.waits.above))) refl

    step-next : Next (k + spent_by mask s) s.cpu (step mask s).cpu
    step-next =
        let v = no-vector in
        let e : executed mask s ≡ step mask s = runs mask s awake w.no-fault (λ z. omega arith) (λ z. omega arith) in
        let p : spent_by mask s ≡ cycles_at mask pc = spent-instruction mask s awake w.no-fault v (no-fault-next executed-next) in
        rw p (subst (λ (t : State). Next (k + cycles_at mask pc) s.cpu t.cpu) e executed-next)

  -- ---- a Run
  -- it waits still, or came to main at one of its steps
  abbrev pub Ran : ℕ → ℕ → State → Type 0
  Ran k r s = To Waiting (k + spent_in mask r s) s.cpu (ran mask r s).cpu
      ⊎ ((i : ℕ) × (0 < i) × (i ≤ r) × To InMain (k + spent_in mask i s) s.cpu (ran mask i s).cpu)

  -- a step, then the rest
  pub joined : (P : ℕ → Standing → Type 0) {i j l : ℕ} {b c d : Cpu} → To Waiting i b c → To P j c d → j ≡ l → To P l b d
  joined P {d = d} x y e = record { stands = subst (λ (j : ℕ). P j (standing d)) e y.stands; awake = y.awake; held = λ z. y.held (x.held z) }

  pub ran_on : (r k : ℕ) (s : State) → Waiting k (standing s.cpu) → s.cpu.status.halted ≡ 0 → Ran k r s
  unfolding ran yielded
  ran_on zero k s w a = inl (record { stands = rw add-zero w; awake = a; held = λ z. z })
  ran_on (suc r) k s w a = go (step-next k s w a) (ran_on r (k + spent_by mask s) (step mask s))
    where
      next : State
      next = step mask s

      sum : (j : ℕ) → k + spent_by mask s + j ≡ k + (spent_by mask s + j)
      sum j = omega arith

      rest : To Waiting (k + spent_by mask s) s.cpu next.cpu → Ran (k + spent_by mask s) r next → Ran k (suc r) s
      rest x (inl y) = inl (joined Waiting x y (sum (spent_in mask r next)))
      rest x (inr (i, p, h, y)) = inr (suc i, omega arith, omega arith, joined InMain x y (sum (spent_in mask i next)))

      go : Next (k + spent_by mask s) s.cpu next.cpu
          → (Waiting (k + spent_by mask s) (standing next.cpu) → next.cpu.status.halted ≡ 0 → Ran (k + spent_by mask s) r next) → Ran k (suc r) s
      go (inl x) f = rest x (f x.stands x.awake)
      go (inr x) f = inr (1, omega arith, omega arith, rw add-zero x)

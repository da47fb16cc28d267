-- What every input keeps, over places R, pairs of address and level, that the mask in use confines a program to: none of them is forbidden, and
-- the successors of each are among them. The place of PC and level is one of R; above level 0 the stack address is one in level 0; where
-- interrupts are enabled both vectors are in level 2; and the fault is 0. An instruction at a place that is not forbidden hands the program on to
-- one of its successors. Under a mask that passes, the reached pairs are such places. Assumes nothing.
use Prim.Native.Nat.{ℕ, zero, suc}
use mathlib.Core.Path.{◌≡◌, refl, sym, ap, subst}
use mathlib.Core.Bool.{Bool, true, false, ◌&&◌}
use mathlib.Core.List.{List}
use mathlib.Core.Logic.{inl, inr}
use native.Mathlib.Omega.{arith}
use lib.Dec.{eqb}
use borrow.Author.Tests.{eq-eqb, eqb-true, eqb-false}
use Rattle.std.specs.Prelude.{Option, Some, None}
use Rattle.isa.specs.Choice.{pick}
use Rattle.isa.specs.Views.{View, on, jmp, branch, call, ret, reti, ei, view}
use Rattle.isa.specs.declared.Instruction.{Instruction}
use Rattle.rom.specs.Fetching.{Bytes, read_at, length_at, cycles_at, moved_from, branch_to}
use Rattle.cpu.specs.declared.Cpu.{Cpu}
use Rattle.cpu.specs.State.{State, on_cpu, address, with_pc, with_tf, with_held, with_level, with_stack}
use Rattle.cpu.specs.Effect.{effect}
use Rattle.cpu.specs.Step.{ticked, entered, moved, settled, instructed, executed, vector_of, stepped, stopped, step}
use Rattle.cpu.specs.Run.{ran}
use Rattle.cpu.proofs.Leaves.{Standing, standing, ticked-same, GoesTo, Returns, Leaves, leaves}
use Rattle.reach.specs.Chains.{Member, here, there}
use Rattle.reach.proofs.Chains.{reached-next}
use Rattle.checker.specs.Marks.{Pair, pair, flow_by, flow_of, flow_read, flow_at, fault_in, handed, fault, successors, Reached}
use Rattle.checker.specs.declared.flow.Flow.{Flow}
use Rattle.checker.specs.declared.flow.Flow.TheVariants.{Unread}
use Rattle.checker.specs.Verdicts.{is_marked, Marked, Safe}
use Rattle.checker.proofs.Reach.{reached-level, reached-address}

-- a mask confines a program to places
pub record Confines (mask : List ℕ) (R : ℕ → ℕ → Type 0) : Type 0 where
  pub next : (a l : ℕ) → R a l → (q : Pair) → Member q (successors mask (pair a l)) → R q.address q.level
  pub allowed : (a l : ℕ) → R a l → fault mask (pair a l) ≡ 0

pub record Kept (R : ℕ → ℕ → Type 0) (s : Standing) : Type 0 where
  pub here : R s.pc s.level
  pub back : (s.level ≡ 0 → ⊥) → R s.stack 0
  pub vectors : s.enabled ≡ 1 → R 4 2 × R 8 2
  pub no-fault : s.fault ≡ 0

-- of a processor
abbrev pub Keeps : (ℕ → ℕ → Type 0) → Cpu → Type 0
Keeps R c = Kept R (standing c)

-- address 0, main, interrupts off and no fault
pub start-kept : (R : ℕ → ℕ → Type 0) → R 0 0 → Kept R (record { pc = 0; level = 0; stack = 0; enabled = 0; fault = 0 })
start-kept R begins = record { here = begins; back = λ h. absurd (h refl); vectors = λ e. absurd (omega arith); no-fault = refl }

-- where nesting gives no fault: CALL in level 0, a return above it
main-only : (l : ℕ) → ◌≡◌ {A = ℕ} (pick (eqb l 0) 0 2) 0 → l ≡ 0
main-only l = go (eqb l 0) (eqb-true l 0)
  where
    go : (t : Bool) → (t ≡ true → l ≡ 0) → ◌≡◌ {A = ℕ} (pick t 0 2) 0 → l ≡ 0
    go true f m = f refl
    go false f m = absurd (omega arith)

never-main : (l : ℕ) → ◌≡◌ {A = ℕ} (pick (eqb l 0) 3 0) 0 → l ≡ 0 → ⊥
never-main l = go (eqb l 0) (eqb-false l 0)
  where
    go : (t : Bool) → (t ≡ false → l ≡ 0 → ⊥) → ◌≡◌ {A = ℕ} (pick t 3 0) 0 → l ≡ 0 → ⊥
    go true f m = absurd (omega arith)
    go false f m = f refl

-- ---- one instruction
-- the PC moved on, and nothing else
abbrev moved_to : ℕ → Standing → Standing
moved_to to s = record { pc = to; level = s.level; stack = s.stack; enabled = s.enabled; fault = s.fault }

module _ (R : ℕ → ℕ → Type 0) (s t : Standing) (to : ℕ) (k : Kept R s) where
  goes_kept : (a : ℕ) → GoesTo a (moved_to to s) t → R a s.level → Kept R t
  goes_kept a g r =
      record {
        here = rw (g.pc, g.level) r;
        back = λ h. rw g.stack (k.back (λ z. h (rw g.level z)));
        vectors = λ z. k.vectors (g.quiet z);
        no-fault = rw g.fault k.no-fault;
      }

  returns-kept : Returns (moved_to to s) t → (s.level ≡ 0 → ⊥) → Kept R t
  returns-kept l z =
      subst (Kept R) (sym (l z)) (record { here = k.back z; back = λ h. absurd (h refl); vectors = k.vectors; no-fault = k.no-fault })

  -- an instruction hands the program on to such places: what it leaves keeps
  handing : {i : Instruction} (v : View i) → Leaves v (moved_to to s) t → fault_in (flow_by v) s.level ≡ 0
      → ((q : Pair) → Member q (handed (flow_by v) to s.level) → R q.address q.level) → Kept R t
  handing on l n r = goes_kept to l (r (pair to s.level) here)
  handing (jmp a) l n r = goes_kept a.0 l (r (pair a.0 s.level) here)
  handing (branch a c) (inl l) n r = goes_kept to l (r (pair to s.level) here)
  handing (branch a c) (inr l) n r = goes_kept (branch_to to a) l (r (pair (branch_to to a) s.level) (there here))
  handing (call a) l n r =
      subst (Kept R) (sym (l (main-only s.level n)))
      (record { here = r (pair a.0 1) here; back = λ h. r (pair to 0) (there here); vectors = k.vectors; no-fault = k.no-fault })
  handing ret l n r = returns-kept l (never-main s.level n)
  handing reti l n r = returns-kept l (never-main s.level n)
  handing ei l n r =
      subst (Kept R) (sym l)
      (record {
        here = r (pair to s.level) here;
        back = k.back;
        vectors = λ z. (r (pair 4 2) (there here), r (pair 8 2) (there (there here)));
        no-fault = k.no-fault;
      })

module _ (mask : List ℕ) (R : ℕ → ℕ → Type 0) (confines : Confines mask R) where
  -- what a place hands on is one of them
  next : (a l : ℕ) (f : Flow) → R a l → flow_at mask a ≡ f → (q : Pair) → Member q (handed f (moved_from mask a) l) → R q.address q.level
  unfolding successors
  next a l f r e q m =
      confines.next a l r q (rw (eq-eqb (fault mask (pair a l)) 0 (confines.allowed a l r)) (subst (λ (x : Flow). Member q (handed x (moved_from mask a) l)) (sym e) m))

  -- and gives no fault
  allowed : (a l : ℕ) (f : Flow) → R a l → flow_at mask a ≡ f → fault_in f l ≡ 0
  unfolding fault
  allowed a l f r e = subst (λ (x : Flow). fault_in x l ≡ 0) e (confines.allowed a l r)

  -- the cycles go by
  ticked-kept : (n : ℕ) (c : Cpu) → Keeps R c → Keeps R (ticked n c)
  ticked-kept n c = subst (Kept R) (sym (ticked-same n c))

  settled-kept : (n : ℕ) (s t : State) → Keeps R t.cpu → Keeps R (settled n s t).cpu
  settled-kept n s t k = rw (eq-eqb t.cpu.status.fault 0 k.no-fault) (ticked-kept n t.cpu k)

  instructed-kept : (s : State) (d : Option Instruction) → Keeps R s.cpu → read_at mask s.cpu.control.pc.0 ≡ d
      → Keeps R (instructed mask d (length_at mask s.cpu.control.pc.0) (cycles_at mask s.cpu.control.pc.0) s).cpu
  unfolding flow_of flow_at
  instructed-kept s None k e = absurd (omega (arith, allowed s.cpu.control.pc.0 s.cpu.interrupts.level Unread k.here (ap flow_read e)))
  instructed-kept s (Some i) k e =
      let pc = s.cpu.control.pc.0 in
      let l = s.cpu.interrupts.level in
      let m = on_cpu (moved (length_at mask pc)) s in
      settled-kept (cycles_at mask pc) s (effect mask i m)
      (handing R (standing s.cpu) (standing (effect mask i m).cpu) (moved_from mask pc) k (view i) (leaves mask i m)
      (allowed pc l (flow_of i) k.here (ap flow_read e)) (next pc l (flow_of i) k.here (ap flow_read e)))

  executed-kept : (s : State) → Keeps R s.cpu → Keeps R (executed mask s).cpu
  unfolding executed
  executed-kept s k = instructed-kept s (read_at mask s.cpu.control.pc.0) k refl

  -- ---- an interrupt
  -- it is taken only in level 0 with the enable flag on
  vector-from : (c : Cpu) (v : ℕ) → vector_of c ≡ v → (v ≡ 0 → ⊥) → (c.interrupts.level ≡ 0) × (c.interrupts.enabled ≡ 1)
  unfolding vector_of
  vector-from c v e n = go (eqb c.interrupts.level 0) (eqb c.interrupts.enabled 1) (eqb-true c.interrupts.level 0) (eqb-true c.interrupts.enabled 1) e
    where
      go : (t u : Bool) → (t ≡ true → c.interrupts.level ≡ 0) → (u ≡ true → c.interrupts.enabled ≡ 1)
          → pick (t && u) (pick (eqb c.interrupts.held 1) 8 (pick (eqb c.control.tf 1) 4 0)) 0 ≡ v → (c.interrupts.level ≡ 0) × (c.interrupts.enabled ≡ 1)
      go true true f g h = (f refl, g refl)
      go true false f g h = absurd (n (sym h))
      go false u f g h = absurd (n (sym h))

  entered-kept : (c : Cpu) (v : ℕ) → c.interrupts.level ≡ 0 → R v 2 → Keeps R c → Keeps R (entered v c)
  unfolding entered
  entered-kept c v z r k =
      ticked-kept 2 (with_stack (record { address = c.control.pc; carry = c.control.cf }) (with_level 2 (with_pc (address v) c)))
      (record {
        here = r;
        back = λ h. subst (R c.control.pc.0) z k.here;
        vectors = k.vectors;
        no-fault = k.no-fault;
      })

  -- ---- one step, and Run
  stepped_kept : (s : State) → Keeps R s.cpu → Keeps R (stepped mask s).cpu
  unfolding stepped
  stepped_kept s k = first (eqb (vector_of s.cpu) 8) (eqb-true (vector_of s.cpu) 8)
    where
      second : (t : Bool) → (t ≡ true → vector_of s.cpu ≡ 4) → Keeps R (pick t (on_cpu (λ (c : Cpu). entered 4 (with_tf 0 c)) s) (executed mask s)).cpu
      second true f =
          let h = vector-from s.cpu 4 (f refl) (λ e. absurd (omega arith)) in entered-kept (with_tf 0 s.cpu) 4 h.0 (k.vectors h.1).0 k
      second false f = executed-kept s k

      first : (t : Bool) → (t ≡ true → vector_of s.cpu ≡ 8)
          → Keeps R (pick t (on_cpu (λ (c : Cpu). entered 8 (with_held 0 c)) s) (pick (eqb (vector_of s.cpu) 4) (on_cpu (λ (c : Cpu). entered 4 (with_tf 0 c)) s) (executed mask s))).cpu
      first true f =
          let h = vector-from s.cpu 8 (f refl) (λ e. absurd (omega arith)) in entered-kept (with_held 0 s.cpu) 8 h.0 (k.vectors h.1).1 k
      first false f = second (eqb (vector_of s.cpu) 4) (eqb-true (vector_of s.cpu) 4)

  pub step_kept : (s : State) → Keeps R s.cpu → Keeps R (step mask s).cpu
  unfolding step
  step_kept s k = go (stopped s)
    where
      go : (t : Bool) → Keeps R (pick t s (stepped mask s)).cpu
      go true = k
      go false = stepped_kept s k

  pub ran-kept : (n : ℕ) (s : State) → Keeps R s.cpu → Keeps R (ran mask n s).cpu
  unfolding ran
  ran-kept zero s k = k
  ran-kept (suc n) s k = ran-kept n (step mask s) (step_kept s k)

-- ---- the HT1130: the pairs that chains reach
abbrev pub ReachedAt : List ℕ → ℕ → ℕ → Type 0
ReachedAt mask a l = Reached mask (pair a l)

pub safe-confines : (mask : List ℕ) → Safe mask → Confines mask (ReachedAt mask)
safe-confines mask safe = record { next = λ a l r q m. reached-next r m; allowed = λ a l r. safe (pair a l) r }

-- the checker's marks are the reached pairs
pub kept-marked : (mask marks : List ℕ) → Bytes mask → Marked mask marks → (s : Standing) → Kept (ReachedAt mask) s → is_marked marks s.pc s.level ≡ true
kept-marked mask marks bytes m s k =
    let p = pair s.pc s.level in
    m.full s.pc s.level (reached-address mask bytes p k.here) (reached-level mask p k.here) k.here

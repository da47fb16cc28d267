-- What the proofs of one step share, on definitions alone: a faulting instruction sets the fault alone, and what the code at the
-- PC, read and timed, makes of a step. Assumes nothing.
use Rattle.std.specs.Prelude.{Option, Some}
use Rattle.std.proofs.Common.{◌≡◌, ℕ, ◌+◌, ◌%◌, ◌^◌, ◌<◌, Bool, true, false, eqb, List, [], sym, refl, ap, ◌∙◌, subst, ap₂, inl, inr, arith, eq-eqb, ne_eqb}
use Rattle.isa.specs.Choice.{pick}
use Rattle.rom.specs.Fetching.{code_at, read_at, length_at, cycles_at, moved_by}
use Rattle.rom.specs.declared.reader.Code.{Code}
use Rattle.rom.proofs.Fetching.{read-there, length-code, cycles-code}
use Rattle.isa.specs.Reading.{Reading}
use Rattle.isa.specs.Timing.{Columns, columns_of, columns_at}
use Rattle.isa.specs.Views.{View, on, jmp, branch, call, ret, reti, ei, view}
use Rattle.isa.proofs.Exact.{timed as timed-at}
use Rattle.isa.specs.declared.ProgramAddress.{ProgramAddress}
use Rattle.isa.specs.declared.Instruction.{Instruction}
use Rattle.datapath.specs.Timer.{clocks, counted}
use Rattle.cpu.specs.State.{State, state, on_cpu, address, with_pc, with_cf, with_tf, with_held, with_level, with_stack, with_fault, with_cycles}
use Rattle.cpu.specs.Effect.{called, returned, returned_with_carry, effect}
use Rattle.cpu.specs.Step.{timed, ticked, entered, moved, settled, instructed, executed, vector_of, stepped, stopped, step}
use Rattle.cpu.specs.declared.Cpu.{Cpu}
use Rattle.cpu.proofs.Leaves.{standing, Leaves, leaves}

-- a choice of which one part keeps the fault at 0: where there is a fault, the other part was chosen
module _ (c : Cpu) (z : c.status.fault ≡ 0) where
  abbrev Only : Cpu → Type 0
  Only d = (d.status.fault ≡ 0 → ⊥) → d ≡ with_fault d.status.fault c

  second-only : (t : Bool) (a : Cpu) (n : ℕ) → a.status.fault ≡ 0 → Only (pick t a (with_fault n c))
  second-only true a n p f = absurd (f p)
  second-only false a n p f = refl

  first-only : (t : Bool) (a : Cpu) (n : ℕ) → a.status.fault ≡ 0 → Only (pick t (with_fault n c) a)
  first-only true a n p f = refl
  first-only false a n p f = absurd (f p)

  call-only : (t : ProgramAddress) → Only (called t c)
  unfolding called
  call-only t = second-only (eqb c.interrupts.level 0) (with_stack (record { address = c.control.pc; carry = c.stack.carry }) (with_level 1 (with_pc t c))) 2 z

  ret-only : Only (returned c)
  unfolding returned
  ret-only = first-only (eqb c.interrupts.level 0) (with_level 0 (with_pc c.stack.address c)) 3 z

  reti-only : Only (returned_with_carry c)
  unfolding returned_with_carry
  reti-only = first-only (eqb c.interrupts.level 0) (with_cf c.stack.carry (with_level 0 (with_pc c.stack.address c))) 3 z

-- an instruction that faults sets the fault and nothing else
only-fault : (mask : List ℕ) (i : Instruction) (s : State) → s.cpu.status.fault ≡ 0 → ((effect mask i s).cpu.status.fault ≡ 0 → ⊥)
    → effect mask i s ≡ on_cpu (with_fault (effect mask i s).cpu.status.fault) s
unfolding effect
only-fault mask i s e = go (view i) (leaves mask i s)
  where
    go : {i : Instruction} (v : View i) → Leaves v (standing s.cpu) (standing (effect mask i s).cpu) → ((effect mask i s).cpu.status.fault ≡ 0 → ⊥)
        → effect mask i s ≡ on_cpu (with_fault (effect mask i s).cpu.status.fault) s
    go on l f = absurd (f (l.fault ∙ e))
    go (jmp t) l f = absurd (f (l.fault ∙ e))
    go (branch t k) (inl l) f = absurd (f (l.fault ∙ e))
    go (branch t k) (inr l) f = absurd (f (l.fault ∙ e))
    go (call t) l f = ap (λ (c : Cpu). state c s.memory) (call-only s.cpu e t f)
    go ret l f = ap (λ (c : Cpu). state c s.memory) (ret-only s.cpu e f)
    go reti l f = ap (λ (c : Cpu). state c s.memory) (reti-only s.cpu e f)
    go ei l f = absurd (f e)

-- a fault: the processor with its PC back is the one before, with the fault set
pub faulted : (mask : List ℕ) (i : Instruction) (s t : State) (l n : ℕ) → t ≡ effect mask i (on_cpu (moved l) s) → s.cpu.status.fault ≡ 0 → (t.cpu.status.fault ≡ 0 → ⊥)
    → state (with_pc (address s.cpu.control.pc.0) t.cpu) t.memory ≡ settled n s (effect mask i (on_cpu (moved l) s))
faulted mask i s t l n e z f =
    let after : State = effect mask i (on_cpu (moved l) s) in
    let g : after.cpu.status.fault ≡ 0 → ⊥ = λ h. f (ap (λ (x : State). x.cpu.status.fault) e ∙ h) in
    ap (λ (x : State). state (with_pc (address s.cpu.control.pc.0) x.cpu) x.memory) (e ∙ only-fault mask i (on_cpu (moved l) s) z g)
    ∙ rw (ne_eqb after.cpu.status.fault 0 g) refl

-- no fault: the cycles go by
pub finished : (mask : List ℕ) (i : Instruction) (s t : State) (l n : ℕ) {r : Cpu} → t ≡ effect mask i (on_cpu (moved l) s) → t.cpu.status.fault ≡ 0 → r ≡ ticked n t.cpu
    → state r t.memory ≡ settled n s (effect mask i (on_cpu (moved l) s))
finished mask i s t l n {r} e z p =
    ap (λ (c : Cpu). state c t.memory) p
    ∙ ap (on_cpu (ticked n)) e
    ∙ rw (eq-eqb (effect mask i (on_cpu (moved l) s)).cpu.status.fault 0 (ap (λ (x : State). x.cpu.status.fault) (sym e) ∙ z)) refl

-- the code at the PC: what it reads as, and what that does
module _ (mask : List ℕ) (s : State) (k : Code) (d : Option Instruction) (at : k ≡ code_at mask s.cpu.control.pc.0) (h : k.second < 256) (r : Reading k.first k.second d) where
  abbrev pc : ℕ
  pc = s.cpu.control.pc.0

  pub read : d ≡ read_at mask pc
  read = read-there mask pc k at h d r

  columns-first : (i : Instruction) → d ≡ Some i → columns_of i ≡ columns_at (code_at mask pc).first
  columns-first i e = sym ((timed-at k.first).read k.second i h (subst (Reading k.first k.second) e r)) ∙ ap (λ (k : Code). columns_at k.first) at

  -- length and cycles by what was read are those of the code
  pub size-read : (i : Instruction) → d ≡ Some i → (columns_of i).bytes ≡ length_at mask pc
  size-read i e = ap (λ (c : Columns). c.bytes) (columns-first i e) ∙ length-code mask pc

  pub cycles-read : (i : Instruction) → d ≡ Some i → (columns_of i).cycles ≡ cycles_at mask pc
  cycles-read i e = ap (λ (c : Columns). c.cycles) (columns-first i e) ∙ cycles-code mask pc

  pub fetched : instructed mask d (length_at mask pc) (cycles_at mask pc) s ≡ executed mask s
  unfolding executed
  fetched = ap (λ (d : Option Instruction). instructed mask d (length_at mask pc) (cycles_at mask pc) s) read

-- the whole instruction, at the two ways out that the code has behind its effect, t
pub record Ended (mask : List ℕ) (s t : State) : Type 0 where
  pub in-fault : s.cpu.status.fault ≡ 0 → (t.cpu.status.fault ≡ 0 → ⊥) → state (with_pc (address s.cpu.control.pc.0) t.cpu) t.memory ≡ executed mask s
  pub in-time : {r : Cpu} (n : ℕ) → t.cpu.status.fault ≡ 0 → n ≡ cycles_at mask s.cpu.control.pc.0 → r ≡ ticked n t.cpu → state r t.memory ≡ executed mask s

pub whole : (mask : List ℕ) (s t : State) (i : Instruction) (d : Option Instruction) (n to : ℕ) → d ≡ Some i
    → instructed mask d (length_at mask s.cpu.control.pc.0) (cycles_at mask s.cpu.control.pc.0) s ≡ executed mask s
    → n ≡ length_at mask s.cpu.control.pc.0 → to ≡ moved_by n s.cpu.control.pc.0 → t ≡ effect mask i (state (with_pc (address to) s.cpu) s.memory) → Ended mask s t
whole mask s t i d n to known at size went done =
    let l = length_at mask s.cpu.control.pc.0 in
    let m = cycles_at mask s.cpu.control.pc.0 in
    let there : to ≡ moved_by l s.cpu.control.pc.0 = went ∙ ap (λ (n : ℕ). moved_by n s.cpu.control.pc.0) size in
    let reached : t ≡ effect mask i (on_cpu (moved l) s) = done ∙ ap (λ (a : ℕ). effect mask i (state (with_pc (address a) s.cpu) s.memory)) there in
    let all : settled m s (effect mask i (on_cpu (moved l) s)) ≡ executed mask s = ap (λ (d : Option Instruction). instructed mask d l m s) (sym known) ∙ at in
    record {
      in-fault = λ z f. faulted mask i s t l m reached z f ∙ all;
      in-time = λ {r} n z q p. finished mask i s t l m reached z (p ∙ ap (λ (n : ℕ). ticked n t.cpu) q) ∙ all;
    }

-- a timer that runs, and one that does not
pub running : (n x : ℕ) (c t : Cpu) → c.timer.running ≡ 1 → x ≡ (c.cycles + n) % 2 ^ 32 → t ≡ timed (counted c.timer.count (clocks c.options.rate c.cycles n)) c → with_cycles x t ≡ ticked n c
unfolding ticked
running n x c t e p q = ap₂ with_cycles p q ∙ rw (eq-eqb c.timer.running 1 e) refl

pub still : (n x : ℕ) (c : Cpu) → (c.timer.running ≡ 1 → ⊥) → x ≡ (c.cycles + n) % 2 ^ 32 → with_cycles x c ≡ ticked n c
unfolding ticked
still n x c e p = ap (λ (y : ℕ). with_cycles y c) p ∙ rw (ne_eqb c.timer.running 1 e) refl

-- a stopped processor, by the tests of the code
pub stopped-halted : (c : Cpu) → (c.status.halted ≡ 0 → ⊥) → stopped (state c []) ≡ true
stopped-halted c h = rw (ne_eqb c.status.halted 0 h) refl

pub stopped-faulted : (c : Cpu) → c.status.halted ≡ 0 → (c.status.fault ≡ 0 → ⊥) → stopped (state c []) ≡ true
stopped-faulted c h f = rw (eq-eqb c.status.halted 0 h, ne_eqb c.status.fault 0 f) refl

-- ---- one step, by the tests of the code
module _ (mask : List ℕ) (s : State) where
  pub stops : stopped s ≡ true → s ≡ step mask s
  unfolding step
  stops e = rw e refl

  going : s.cpu.status.halted ≡ 0 → s.cpu.status.fault ≡ 0 → stepped mask s ≡ step mask s
  unfolding step
  going h f = rw (eq-eqb s.cpu.status.halted 0 h, eq-eqb s.cpu.status.fault 0 f) refl

  pub takes-edge : s.cpu.status.halted ≡ 0 → s.cpu.status.fault ≡ 0 → vector_of s.cpu ≡ 8 → on_cpu (λ (c : Cpu). entered 8 (with_held 0 c)) s ≡ step mask s
  unfolding stepped
  takes-edge h f v = rw (eq-eqb (vector_of s.cpu) 8 v) refl ∙ going h f

  pub takes-timer : s.cpu.status.halted ≡ 0 → s.cpu.status.fault ≡ 0 → vector_of s.cpu ≡ 4 → on_cpu (λ (c : Cpu). entered 4 (with_tf 0 c)) s ≡ step mask s
  unfolding stepped
  takes-timer h f v = rw (ne_eqb (vector_of s.cpu) 8 (omega (arith, v)), eq-eqb (vector_of s.cpu) 4 v) refl ∙ going h f

  pub runs : s.cpu.status.halted ≡ 0 → s.cpu.status.fault ≡ 0 → (vector_of s.cpu ≡ 8 → ⊥) → (vector_of s.cpu ≡ 4 → ⊥) → executed mask s ≡ step mask s
  unfolding stepped
  runs h f v w = rw (ne_eqb (vector_of s.cpu) 8 v, ne_eqb (vector_of s.cpu) 4 w) refl ∙ going h f

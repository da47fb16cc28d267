-- What an instruction, a step and a Run count of the gap, on definitions alone: one that faults makes no access, one that does not makes those of
-- what was read, and a step counts where it runs one. Assumes nothing.
use Rattle.std.specs.Prelude.{Option, Some}
use Rattle.std.proofs.Common.{◌≡◌, ℕ, zero, suc, ◌+◌, ◌-◌, ◌<◌, true, List, [], ◌∷◌, map, sym, refl, ap, ◌∙◌, subst, ap₂, arith, eq-eqb, ne_eqb}
use Rattle.isa.specs.Views.{View, on, jmp, branch, call, ret, reti, ei, view}
use Rattle.isa.specs.declared.DataAddress.{DataAddress}
use Rattle.isa.specs.declared.ProgramAddress.{ProgramAddress}
use Rattle.isa.specs.declared.Pointer.{Pointer}
use Rattle.isa.specs.declared.Pointer.TheVariants.{R1R0, R3R2}
use Rattle.isa.specs.declared.Instruction.{Instruction}
use Rattle.rom.specs.Fetching.{read_at}
use Rattle.datapath.specs.Memory.{strays, tallied}
use Rattle.datapath.proofs.Tally.{tallied-add}
use Rattle.cpu.specs.State.{State, with_pc}
use Rattle.cpu.specs.Effect.{place_of, effect}
use Rattle.cpu.specs.Gap.{pointers, accesses, accesses_of, strays_at, strays_by, strays_in}
use Rattle.cpu.specs.Step.{executed, stopped, vector_of, step}
use Rattle.cpu.specs.Run.{yielded}
use Rattle.cpu.specs.declared.Cpu.{Cpu}
use Rattle.cpu.proofs.Leaves.{standing, Leaves, leaves}

-- the PC decides no data address
pub accesses-moved : (i : Instruction) (a : ProgramAddress) (c : Cpu) → accesses i (with_pc a c) ≡ accesses i c
accesses-moved i a c = go (pointers i)
  where
    go : (l : List Pointer) → map (λ (p : Pointer). place_of p (with_pc a c)) l ≡ map (λ (p : Pointer). place_of p c) l
    go [] = refl
    go (R1R0 ∷ l) = ap (λ (m : List DataAddress). place_of R1R0 c ∷ m) (go l)
    go (R3R2 ∷ l) = ap (λ (m : List DataAddress). place_of R3R2 c ∷ m) (go l)

-- an instruction that faults makes no access
pub faulting : (mask : List ℕ) (i : Instruction) (s : State) → s.cpu.status.fault ≡ 0 → ((effect mask i s).cpu.status.fault ≡ 0 → ⊥) → (count : ℕ) (c : Cpu)
    → tallied count (strays (accesses i c)) ≡ count
unfolding pointers strays tallied
faulting mask i s e f count c = go (view i) (leaves mask i s) f
  where
    go : {i : Instruction} (v : View i) → Leaves v (standing s.cpu) (standing (effect mask i s).cpu) → ((effect mask i s).cpu.status.fault ≡ 0 → ⊥) → tallied count (strays (accesses i c)) ≡ count
    go on l f = absurd (f (l.fault ∙ e))
    go (jmp t) l f = refl
    go (branch t k) l f = refl
    go (call t) l f = refl
    go ret l f = refl
    go reti l f = refl
    go ei l f = refl

-- ---- one instruction, by the state after it
module _ (mask : List ℕ) (s : State) (count : ℕ) {t : State} (e : t ≡ executed mask s) where
  pub uncounted : (t.cpu.status.fault ≡ 0 → ⊥) → count ≡ tallied count (strays_at mask s)
  unfolding strays_at tallied
  uncounted f = rw (ne_eqb (executed mask s).cpu.status.fault 0 (λ z. f (ap (λ (x : State). x.cpu.status.fault) e ∙ z))) refl

  pub counted : t.cpu.status.fault ≡ 0 → (i : Instruction) → Some i ≡ read_at mask s.cpu.control.pc.0 → tallied count (strays (accesses i s.cpu)) ≡ tallied count (strays_at mask s)
  unfolding strays_at
  counted z i r =
      ap (λ (d : Option Instruction). tallied count (strays (accesses_of d s.cpu))) r
      ∙ rw (eq-eqb (executed mask s).cpu.status.fault 0 (ap (λ (x : State). x.cpu.status.fault) (sym e) ∙ z)) refl

-- ---- one step, by the tests of the code
module _ (mask : List ℕ) (s : State) (count : ℕ) where
  pub still-counts-none : stopped s ≡ true → count ≡ tallied count (strays_by mask s)
  unfolding strays_by tallied
  still-counts-none e = rw e refl

  module _ (h : s.cpu.status.halted ≡ 0) (f : s.cpu.status.fault ≡ 0) where
    pub interrupt-counts-none : (vector_of s.cpu ≡ 0 → ⊥) → count ≡ tallied count (strays_by mask s)
    unfolding strays_by tallied
    interrupt-counts-none v = rw (eq-eqb s.cpu.status.halted 0 h, eq-eqb s.cpu.status.fault 0 f, ne_eqb (vector_of s.cpu) 0 v) refl

    pub instruction-counts : vector_of s.cpu ≡ 0 → tallied count (strays_at mask s) ≡ tallied count (strays_by mask s)
    unfolding strays_by
    instruction-counts v = rw (eq-eqb s.cpu.status.halted 0 h, eq-eqb s.cpu.status.fault 0 f, eq-eqb (vector_of s.cpu) 0 v) refl

-- ---- n steps: a state that a step neither changes nor counts, and one step of those left
module _ (mask : List ℕ) (s : State) (count : ℕ) where
  pub stopped-counts-none : (n : ℕ) → s ≡ step mask s → count ≡ tallied count (strays_by mask s) → count ≡ tallied count (strays_in mask n s)
  unfolding yielded tallied
  stopped-counts-none zero e z = refl
  stopped-counts-none (suc n) e z =
      stopped-counts-none n e z ∙ ap₂ (λ (k : ℕ) (x : State). tallied k (strays_in mask n x)) z e
      ∙ tallied-add count (strays_by mask s) (strays_in mask n (step mask s))

  pub next-counts : (n : ℕ) → 0 < n → tallied (tallied count (strays_by mask s)) (strays_in mask (n - 1) (step mask s)) ≡ tallied count (strays_in mask n s)
  unfolding yielded
  next-counts n h =
      tallied-add count (strays_by mask s) (strays_in mask (n - 1) (step mask s))
      ∙ subst (λ (k : ℕ). tallied count (strays_by mask s + strays_in mask (n - 1) (step mask s)) ≡ tallied count (strays_in mask k s)) (back n h) refl
    where
      back : (n : ℕ) → 0 < n → suc (n - 1) ≡ n
      back n h = omega arith

-- What stands aside where an instruction runs: no effect changes the held edge or the cycle count, and HALT alone halts. `effect-sides` goes through
-- every effect, as `leaves` of the processor does for where it stands; of what the timer changes, only the count of cycles is one of them. Assumes
-- nothing.
use Prim.Native.Nat.{ℕ, ◌+◌, ◌%◌, ◌^◌}
use mathlib.Core.Path.{◌≡◌, refl, ap, ◌∙◌}
use mathlib.Core.Bool.{Bool, true, false}
use mathlib.Core.List.{List}
use lib.Dec.{eqb}
use Rattle.isa.specs.Choice.{pick}
use Rattle.isa.specs.declared.ProgramAddress.{ProgramAddress}
use Rattle.isa.specs.declared.Pointer.TheVariants.{R1R0, R3R2}
use Rattle.isa.specs.declared.Condition.{Condition}
use Rattle.isa.specs.declared.Condition.TheVariants.{Ja, JnzR0, JnzR1, JnzR4, Jz, JnzA, Jc, Jnc, Jtmr}
use Rattle.isa.specs.declared.Instruction.{Instruction}
use Rattle.isa.specs.declared.Instruction.TheVariants as I
use Rattle.rom.specs.Fetching.{branch_to}
use Rattle.datapath.specs.Timer.{clocks, counted}
use Rattle.datapath.specs.declared.timer.Count.{Count}
use Rattle.cpu.specs.State.{State, address, with_pc, with_tf, with_count, with_cycles}
use Rattle.cpu.specs.Effect.{with_register, holds, tested, branched, called, returned, returned_with_carry, effect}
use Rattle.cpu.specs.Step.{timed, ticked}
use Rattle.cpu.specs.declared.Cpu.{Cpu}

pub record Aside : Type 0 where
  pub halted : ℕ
  pub held : ℕ
  pub cycles : ℕ

abbrev pub aside : Cpu → Aside
aside c = record { halted = c.status.halted; held = c.interrupts.held; cycles = c.cycles }

-- a choice of two that leave them
choice : (t : Bool) (c x y : Cpu) → aside x ≡ aside c → aside y ≡ aside c → aside (pick t x y) ≡ aside c
choice true c x y p q = p
choice false c x y p q = q

-- ---- the effects
register-same : (n v : ℕ) (c : Cpu) → aside (with_register n v c) ≡ aside c
unfolding with_register
register-same n v c = choice (eqb n 0) c _ _ refl (choice (eqb n 1) c _ _ refl (choice (eqb n 2) c _ _ refl (choice (eqb n 3) c _ _ refl refl)))

tested-same : (k : Condition) (c : Cpu) → aside (tested k c) ≡ aside c
tested-same (Ja n) c = refl
tested-same JnzR0 c = refl
tested-same JnzR1 c = refl
tested-same JnzR4 c = refl
tested-same Jz c = refl
tested-same JnzA c = refl
tested-same Jc c = refl
tested-same Jnc c = refl
tested-same Jtmr c = refl

branch_same : (t : Bool) (k : Condition) (a : ProgramAddress) (c : Cpu) → aside (pick t (with_pc a (tested k c)) (tested k c)) ≡ aside c
branch_same t k a c = choice t c _ _ (tested-same k c) (tested-same k c)

-- what an instruction leaves of them
pub record Sides (i : Instruction) (c d : Cpu) : Type 0 where
  pub held : d.interrupts.held ≡ c.interrupts.held
  pub cycles : d.cycles ≡ c.cycles
  pub awake : (i ≡ I.Halt → ⊥) → d.status.halted ≡ c.status.halted

same : {i : Instruction} {c d : Cpu} → aside d ≡ aside c → Sides i c d
same e = record { held = ap (λ (a : Aside). a.held) e; cycles = ap (λ (a : Aside). a.cycles) e; awake = λ f. ap (λ (a : Aside). a.halted) e }

pub effect-sides : (mask : List ℕ) (i : Instruction) (s : State) → Sides i s.cpu (effect mask i s).cpu
unfolding effect branched called returned returned_with_carry
effect-sides mask I.AddAM s = same refl
effect-sides mask I.AdcAM s = same refl
effect-sides mask I.SubAM s = same refl
effect-sides mask I.SbcAM s = same refl
effect-sides mask (I.AddAX d) s = same refl
effect-sides mask (I.SubAX d) s = same refl
effect-sides mask I.Daa s = same refl
effect-sides mask I.AndAM s = same refl
effect-sides mask I.OrAM s = same refl
effect-sides mask I.XorAM s = same refl
effect-sides mask I.AndMA s = same refl
effect-sides mask I.OrMA s = same refl
effect-sides mask I.XorMA s = same refl
effect-sides mask (I.AndAX d) s = same refl
effect-sides mask (I.OrAX d) s = same refl
effect-sides mask (I.XorAX d) s = same refl
effect-sides mask I.IncA s = same refl
effect-sides mask (I.IncR n) s = same (register-same n _ s.cpu)
effect-sides mask (I.IncM p) s = same refl
effect-sides mask I.DecA s = same refl
effect-sides mask (I.DecR n) s = same (register-same n _ s.cpu)
effect-sides mask (I.DecM p) s = same refl
effect-sides mask (I.MovAR n) s = same refl
effect-sides mask (I.MovRA n) s = same (register-same n _ s.cpu)
effect-sides mask (I.MovAM p) s = same refl
effect-sides mask (I.MovMA p) s = same refl
effect-sides mask (I.MovAX d) s = same refl
effect-sides mask (I.MovPairXX R1R0 low high) s = same refl
effect-sides mask (I.MovPairXX R3R2 low high) s = same refl
effect-sides mask (I.MovR4X d) s = same refl
effect-sides mask I.RlA s = same refl
effect-sides mask I.RlcA s = same refl
effect-sides mask I.RrA s = same refl
effect-sides mask I.RrcA s = same refl
effect-sides mask (I.InA p) s = same refl
effect-sides mask I.OutPaA s = same refl
effect-sides mask (I.Jmp t) s = same refl
effect-sides mask (I.Branch t k) s = same (branch_same (holds k s.cpu) k (address (branch_to s.cpu.control.pc.0 t)) s.cpu)
effect-sides mask (I.Call t) s = same (choice (eqb s.cpu.interrupts.level 0) s.cpu _ _ refl refl)
effect-sides mask I.Ret s = same (choice (eqb s.cpu.interrupts.level 0) s.cpu _ _ refl refl)
effect-sides mask I.Reti s = same (choice (eqb s.cpu.interrupts.level 0) s.cpu _ _ refl refl)
effect-sides mask I.Clc s = same refl
effect-sides mask I.Stc s = same refl
effect-sides mask I.Ei s = same refl
effect-sides mask I.Di s = same refl
effect-sides mask I.Nop s = same refl
effect-sides mask (I.TimerXX x) s = same refl
effect-sides mask I.TimerOn s = same refl
effect-sides mask I.TimerOff s = same refl
effect-sides mask I.MovATmrl s = same refl
effect-sides mask I.MovATmrh s = same refl
effect-sides mask I.MovTmrlA s = same refl
effect-sides mask I.MovTmrhA s = same refl
effect-sides mask (I.ReadR4A p) s = same refl
effect-sides mask (I.ReadMr0A p) s = same refl
effect-sides mask (I.SoundN n) s = same refl
effect-sides mask I.SoundA s = same refl
effect-sides mask I.SoundOne s = same refl
effect-sides mask I.SoundLoop s = same refl
effect-sides mask I.SoundOff s = same refl
effect-sides mask I.Halt s = record { held = refl; cycles = refl; awake = λ f. absurd (f refl) }

-- ---- what the timer and the cycles that go by leave
module _ {A : Type 0} (f : Cpu → A) (tf : (x : ℕ) (c : Cpu) → f (with_tf x c) ≡ f c) (count : (x : ℕ) (c : Cpu) → f (with_count x c) ≡ f c) where
  pub counting-keeps : (t : Bool) (k : Count) (c : Cpu) → f (pick t (timed k c) c) ≡ f c
  counting-keeps t k c = go t (eqb k.passed 1)
    where
      go : (t p : Bool) → f (pick t (with_count k.count (pick p (with_tf 1 c) c)) c) ≡ f c
      go true true = count k.count (with_tf 1 c) ∙ tf 1 c
      go true false = count k.count c
      go false p = refl

  pub ticked-keeps : ((x : ℕ) (c : Cpu) → f (with_cycles x c) ≡ f c) → (n : ℕ) (c : Cpu) → f (ticked n c) ≡ f c
  unfolding ticked
  ticked-keeps cycles n c =
      cycles _ _ ∙ counting-keeps (eqb c.timer.running 1) (counted c.timer.count (clocks c.options.rate c.cycles n)) c

pub counting-same : (t : Bool) (k : Count) (c : Cpu) → aside (pick t (timed k c) c) ≡ aside c
counting-same = counting-keeps aside (λ x c. refl) (λ x c. refl)

pub ticked-held : (n : ℕ) (c : Cpu) → (ticked n c).interrupts.held ≡ c.interrupts.held
ticked-held = ticked-keeps (λ (c : Cpu). c.interrupts.held) (λ x c. refl) (λ x c. refl) (λ x c. refl)

pub ticked-halted : (n : ℕ) (c : Cpu) → (ticked n c).status.halted ≡ c.status.halted
ticked-halted = ticked-keeps (λ (c : Cpu). c.status.halted) (λ x c. refl) (λ x c. refl) (λ x c. refl)

pub ticked-stack : (n : ℕ) (c : Cpu) → (ticked n c).stack ≡ c.stack
ticked-stack = ticked-keeps (λ (c : Cpu). c.stack) (λ x c. refl) (λ x c. refl) (λ x c. refl)

pub ticked-cycles : (n : ℕ) (c : Cpu) → (ticked n c).cycles ≡ (c.cycles + n) % 2 ^ 32
unfolding ticked
ticked-cycles n c = refl

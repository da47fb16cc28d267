-- Where an instruction leaves a processor standing: its PC, level, stack address, enable flag and fault, by the view of the instruction. Those
-- that go on leave all five, but that DI clears the enable flag. The one law that goes through every effect is `leaves`; what else is said of
-- all instructions at once cites it. Assumes nothing.
use Rattle.std.proofs.Common.{◌≡◌, ℕ, Bool, true, false, eqb, ◌⊎◌, List, sym, refl, subst, inl, inr, arith, eq-eqb, ne_eqb}
use Rattle.isa.specs.Choice.{pick}
use Rattle.isa.specs.Views.{View, on, jmp, branch, call, ret, reti, ei, view}
use Rattle.isa.specs.declared.ProgramAddress.{ProgramAddress}
use Rattle.isa.specs.declared.Pointer.TheVariants.{R1R0, R3R2}
use Rattle.isa.specs.declared.Condition.{Condition}
use Rattle.isa.specs.declared.Condition.TheVariants.{Ja, JnzR0, JnzR1, JnzR4, Jz, JnzA, Jc, Jnc, Jtmr}
use Rattle.isa.specs.declared.Instruction.{Instruction}
use Rattle.isa.specs.declared.Instruction.TheVariants as I
use Rattle.rom.specs.Fetching.{branch_to}
use Rattle.datapath.specs.Timer.{clocks, counted}
use Rattle.datapath.specs.declared.timer.Count.{Count}
use Rattle.cpu.specs.State.{State, address, with_pc, with_tf}
use Rattle.cpu.specs.Effect.{with_register, holds, tested, branched, called, returned, returned_with_carry, effect}
use Rattle.cpu.specs.Step.{timed, ticked}
use Rattle.cpu.specs.declared.Cpu.{Cpu}

pub record Standing : Type 0 where
  pub pc : ℕ
  pub level : ℕ
  pub stack : ℕ
  pub enabled : ℕ
  pub fault : ℕ

abbrev pub standing : Cpu → Standing
standing c = record { pc = c.control.pc.0; level = c.interrupts.level; stack = c.stack.address.0; enabled = c.interrupts.enabled; fault = c.status.fault }

-- ---- what changes none of the five
pub same-pick : (t : Bool) (c x y : Cpu) → standing x ≡ standing c → standing y ≡ standing c → standing (pick t x y) ≡ standing c
same-pick true c x y p q = p
same-pick false c x y p q = q

register-same : (n v : ℕ) (c : Cpu) → standing (with_register n v c) ≡ standing c
unfolding with_register
register-same n v c =
    same-pick (eqb n 0) c _ _ refl (same-pick (eqb n 1) c _ _ refl (same-pick (eqb n 2) c _ _ refl (same-pick (eqb n 3) c _ _ refl refl)))

pub tested-same : (k : Condition) (c : Cpu) → standing (tested k c) ≡ standing c
tested-same (Ja n) c = refl
tested-same JnzR0 c = refl
tested-same JnzR1 c = refl
tested-same JnzR4 c = refl
tested-same Jz c = refl
tested-same JnzA c = refl
tested-same Jc c = refl
tested-same Jnc c = refl
tested-same Jtmr c = refl

timed-same : (k : Count) (c : Cpu) → standing (timed k c) ≡ standing c
timed-same k c = same-pick (eqb k.passed 1) c (with_tf 1 c) c refl refl

pub counting-same : (t : Bool) (k : Count) (c : Cpu) → standing (pick t (timed k c) c) ≡ standing c
counting-same t k c = same-pick t c (timed k c) c (timed-same k c) refl

pub ticked-same : (n : ℕ) (c : Cpu) → standing (ticked n c) ≡ standing c
unfolding ticked
ticked-same n c = counting-same (eqb c.timer.running 1) (counted c.timer.count (clocks c.options.rate c.cycles n)) c

-- ---- what an instruction changes of them
-- on at an address: level, stack address and fault stay, and interrupts are not enabled anew
pub record GoesTo (to : ℕ) (s t : Standing) : Type 0 where
  pub pc : t.pc ≡ to
  pub level : t.level ≡ s.level
  pub stack : t.stack ≡ s.stack
  pub fault : t.fault ≡ s.fault
  pub quiet : t.enabled ≡ 1 → s.enabled ≡ 1

abbrev pub Returns : Standing → Standing → Type 0
Returns s t = (s.level ≡ 0 → ⊥) → t ≡ record { pc = s.stack; level = 0; stack = s.stack; enabled = s.enabled; fault = s.fault }

abbrev pub Leaves : {i : Instruction} → View i → Standing → Standing → Type 0
Leaves on s t = GoesTo s.pc s t
Leaves (jmp a) s t = GoesTo a.0 s t
Leaves (branch a k) s t = GoesTo s.pc s t ⊎ GoesTo (branch_to s.pc a) s t
Leaves (call a) s t = s.level ≡ 0 → t ≡ record { pc = a.0; level = 1; stack = s.pc; enabled = s.enabled; fault = s.fault }
Leaves ret s t = Returns s t
Leaves reti s t = Returns s t
Leaves ei s t = t ≡ record { pc = s.pc; level = s.level; stack = s.stack; enabled = 1; fault = s.fault }

stays : {s t : Standing} → t ≡ s → GoesTo s.pc s t
stays {s} e = subst (GoesTo s.pc s) (sym e) (record { pc = refl; level = refl; stack = refl; fault = refl; quiet = λ h. h })

-- a branch, taken or not
branches : (b : Bool) (c d : Cpu) (a : ProgramAddress) (k : Condition) → standing d ≡ standing c
    → Leaves (branch a k) (standing c) (standing (pick b (with_pc (address (branch_to c.control.pc.0 a)) d) d))
branches true c d a k e = let g = stays e in inr (record { pc = refl; level = g.level; stack = g.stack; fault = g.fault; quiet = g.quiet })
branches false c d a k e = inl (stays e)

pub leaves : (mask : List ℕ) (i : Instruction) (s : State) → Leaves (view i) (standing s.cpu) (standing (effect mask i s).cpu)
unfolding view effect branched called returned returned_with_carry
leaves mask I.AddAM s = stays refl
leaves mask I.AdcAM s = stays refl
leaves mask I.SubAM s = stays refl
leaves mask I.SbcAM s = stays refl
leaves mask (I.AddAX d) s = stays refl
leaves mask (I.SubAX d) s = stays refl
leaves mask I.Daa s = stays refl
leaves mask I.AndAM s = stays refl
leaves mask I.OrAM s = stays refl
leaves mask I.XorAM s = stays refl
leaves mask I.AndMA s = stays refl
leaves mask I.OrMA s = stays refl
leaves mask I.XorMA s = stays refl
leaves mask (I.AndAX d) s = stays refl
leaves mask (I.OrAX d) s = stays refl
leaves mask (I.XorAX d) s = stays refl
leaves mask I.IncA s = stays refl
leaves mask (I.IncR n) s = stays (register-same n _ s.cpu)
leaves mask (I.IncM p) s = stays refl
leaves mask I.DecA s = stays refl
leaves mask (I.DecR n) s = stays (register-same n _ s.cpu)
leaves mask (I.DecM p) s = stays refl
leaves mask (I.MovAR n) s = stays refl
leaves mask (I.MovRA n) s = stays (register-same n _ s.cpu)
leaves mask (I.MovAM p) s = stays refl
leaves mask (I.MovMA p) s = stays refl
leaves mask (I.MovAX d) s = stays refl
leaves mask (I.MovPairXX R1R0 low high) s = stays refl
leaves mask (I.MovPairXX R3R2 low high) s = stays refl
leaves mask (I.MovR4X d) s = stays refl
leaves mask I.RlA s = stays refl
leaves mask I.RlcA s = stays refl
leaves mask I.RrA s = stays refl
leaves mask I.RrcA s = stays refl
leaves mask (I.InA p) s = stays refl
leaves mask I.OutPaA s = stays refl
leaves mask (I.Jmp t) s = record { pc = refl; level = refl; stack = refl; fault = refl; quiet = λ h. h }
leaves mask (I.Branch t k) s = branches (holds k s.cpu) s.cpu (tested k s.cpu) t k (tested-same k s.cpu)
leaves mask (I.Call t) s = λ z. rw (eq-eqb s.cpu.interrupts.level 0 z) refl
leaves mask I.Ret s = λ z. rw (ne_eqb s.cpu.interrupts.level 0 z) refl
leaves mask I.Reti s = λ z. rw (ne_eqb s.cpu.interrupts.level 0 z) refl
leaves mask I.Clc s = stays refl
leaves mask I.Stc s = stays refl
leaves mask I.Ei s = refl
leaves mask I.Di s = record { pc = refl; level = refl; stack = refl; fault = refl; quiet = λ h. absurd (omega arith) }
leaves mask I.Nop s = stays refl
leaves mask (I.TimerXX x) s = stays refl
leaves mask I.TimerOn s = stays refl
leaves mask I.TimerOff s = stays refl
leaves mask I.MovATmrl s = stays refl
leaves mask I.MovATmrh s = stays refl
leaves mask I.MovTmrlA s = stays refl
leaves mask I.MovTmrhA s = stays refl
leaves mask (I.ReadR4A p) s = stays refl
leaves mask (I.ReadMr0A p) s = stays refl
leaves mask (I.SoundN n) s = stays refl
leaves mask I.SoundA s = stays refl
leaves mask I.SoundOne s = stays refl
leaves mask I.SoundLoop s = stays refl
leaves mask I.SoundOff s = stays refl
leaves mask I.Halt s = stays refl

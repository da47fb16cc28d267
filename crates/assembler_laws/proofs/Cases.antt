-- Each instruction in range is a form with a value of its field, and its printed line is the form's words and signs with that value after them. By
-- cases on the instruction, each of which computes. Assumes nothing.
use Prim.Native.Nat.{ℕ, zero, suc, ◌+◌, ◌*◌, ◌/◌, ◌%◌, ◌<◌}
use native.Mathlib.Nat.{not-suc-le-zero, le_of_suc-le-suc, zero-add, add-zero, add-suc, suc-add}
use native.Mathlib.Omega.{arith}
use mathlib.Core.Path.{◌≡◌, refl, sym, ap, ap₂, subst, ◌∙◌}
use mathlib.Core.Bool.{true, ◌&&◌}
use mathlib.Core.Option.{some}
use lib.Dec.{T, ltb, lit<}
use borrow.Author.Tests.{ltb-true, eq-eqb}
use Rattle.isa.specs.Code.{in_range, bit_in_range}
use Rattle.isa.specs.Views.{view}
use Rattle.isa.specs.declared.Pointer.{Pointer}
use Rattle.isa.specs.declared.Pointer.TheVariants.{R1R0, R3R2}
use Rattle.isa.specs.declared.Port.TheVariants.{Pm, Ps, Pp}
use Rattle.isa.specs.declared.Page.TheVariants.{Current, F}
use Rattle.isa.specs.declared.ProgramAddress.{ProgramAddress}
use Rattle.isa.specs.declared.Condition.{Condition}
use Rattle.isa.specs.declared.Condition.TheVariants.{Ja, JnzR0, JnzR1, JnzR4, Jz, JnzA, Jc, Jnc, Jtmr}
use Rattle.isa.specs.declared.Instruction.{Instruction}
use Rattle.isa.specs.declared.Instruction.TheVariants as I
use Rattle.isa.proofs.Exact.{and_left, and_right}
use Rattle.rom.specs.Fetching.{branch_to}
use Rattle.mnemonic.specs.Line.{line_of}
use Rattle.mnemonic.specs.Placing.{placed_at}
use Rattle.assembler.specs.Forms.{always, paired, addressed, branching, forms, lead, field, reaches, rom_size}
use Rattle.assembler.specs.Statement.{form_in}
use Rattle.assembler.specs.Program.{span}
use Rattle.assembler_laws.proofs.Each.{Each, ◌and◌}
use Rattle.assembler_laws.proofs.Spoken.{line-of}

pub record Case (moved : ℕ) (i : Instruction) : Type 0 where
  pub form : ℕ → Instruction
  pub value : ℕ
  pub found : form_in forms (lead form) ≡ some form
  pub is : form value ≡ i
  pub low : value < field form
  pub reach : reaches form moved value ≡ true
  pub line : line_of (placed_at moved i) ≡ line-of form value

-- what holds of the first n numbers
counted : {P : ℕ → Type 0} (a n k : ℕ) → Each P (span a n) → k < n → P (a + k)
counted a zero k ps h = absurd (not-suc-le-zero h)
counted {P} a (suc n) zero (p and ps) h = rw (add-zero a) p
counted {P} a (suc n) (suc k) (p and ps) h = subst P (suc-add a k ∙ sym (add-suc a k)) (counted (suc a) n k ps (le_of_suc-le-suc h))

each_below : (P : ℕ → Type 0) (n k : ℕ) → Each P (span 0 n) → ltb k n ≡ true → P k
each_below P n k ps h = subst P (zero-add k) (counted 0 n k ps (ltb-true k n h))

module _ (moved : ℕ) (bound : moved < rom_size) where
  with_value : {i : Instruction} (f : ℕ → Instruction) (v : ℕ) → form_in forms (lead f) ≡ some f → f v ≡ i → v < field f → reaches f moved v ≡ true
      → line_of (placed_at moved i) ≡ line-of f v → Case moved i
  with_value f v e p h r l = record { form = f; value = v; found = e; is = p; low = h; reach = r; line = l }

  still : {i : Instruction} → form_in forms (lead (always i)) ≡ some (always i) → T (ltb 0 (field (always i))) → reaches (always i) moved 0 ≡ true
      → line_of (placed_at moved i) ≡ line-of (always i) 0 → Case moved i
  still {i} e h r l = with_value (always i) 0 e refl (lit< h) r l

  pair : (p : Pointer) (low high : ℕ) → ltb low 16 && ltb high 16 ≡ true → form_in forms (lead (paired p)) ≡ some (paired p) → field (paired p) ≡ 256
      → reaches (paired p) moved (16 * high + low) ≡ true
      → line_of (placed_at moved (I.MovPairXX p low high)) ≡ line-of (paired p) (16 * high + low)
      → Case moved (I.MovPairXX p low high)
  pair p low high h e d r l =
      let a : low < 16 = ltb-true low 16 (and_left (ltb low 16) (ltb high 16) h) in
      let b : high < 16 = ltb-true high 16 (and_right (ltb low 16) (ltb high 16) h) in
      with_value (paired p) (16 * high + low) e (ap₂ (I.MovPairXX p) (omega arith) (omega arith)) (rw d (omega arith)) r l

  -- a branch, whose whole target gives its low 11 bits back and has the bit 11 of the moved address
  to : (k : Condition) (t : ProgramAddress) → ltb t.0 2048 ≡ true → form_in forms (lead (branching k)) ≡ some (branching k)
      → field (branching k) ≡ rom_size → line_of (placed_at moved (I.Branch t k)) ≡ line-of (branching k) (branch_to moved t) → Case moved (I.Branch t k)
  unfolding view
  to k t h e d l =
      let b : t.0 < 2048 = ltb-true t.0 2048 h in
      let back : branch_to moved t % 2048 ≡ t.0 = omega arith in
      with_value (branching k) (branch_to moved t) e (ap (λ (n : ℕ). I.Branch (record { 0 = n }) k) back) (rw d (omega arith))
      (eq-eqb (branch_to moved t / 2048) (moved / 2048) (omega arith)) l

  -- JAn: the four bits
  bits : (t : ProgramAddress) → ltb t.0 2048 ≡ true → Each (λ (n : ℕ). Case moved (I.Branch t (Ja n))) (span 0 4)
  unfolding forms line_of placed_at view
  bits t r =
      to (Ja 0) t r refl refl refl and to (Ja 1) t r refl refl refl and to (Ja 2) t r refl refl refl and to (Ja 3) t r refl refl refl
      and Each.none

  pub case : (i : Instruction) → in_range i ≡ true → Case moved i
  unfolding forms in_range bit_in_range line_of placed_at view
  case I.AddAM r = still refl tt refl refl
  case I.AdcAM r = still refl tt refl refl
  case I.SubAM r = still refl tt refl refl
  case I.SbcAM r = still refl tt refl refl
  case (I.AddAX d) r = with_value I.AddAX d refl refl (ltb-true d 16 r) refl refl
  case (I.SubAX d) r = with_value I.SubAX d refl refl (ltb-true d 16 r) refl refl
  case I.Daa r = still refl tt refl refl
  case I.AndAM r = still refl tt refl refl
  case I.OrAM r = still refl tt refl refl
  case I.XorAM r = still refl tt refl refl
  case I.AndMA r = still refl tt refl refl
  case I.OrMA r = still refl tt refl refl
  case I.XorMA r = still refl tt refl refl
  case (I.AndAX d) r = with_value I.AndAX d refl refl (ltb-true d 16 r) refl refl
  case (I.OrAX d) r = with_value I.OrAX d refl refl (ltb-true d 16 r) refl refl
  case (I.XorAX d) r = with_value I.XorAX d refl refl (ltb-true d 16 r) refl refl
  case I.IncA r = still refl tt refl refl
  case (I.IncR n) r = each_below (λ (n : ℕ). Case moved (I.IncR n)) 5 n
      (still refl tt refl refl and still refl tt refl refl and still refl tt refl refl and still refl tt refl refl and still refl tt refl refl
      and Each.none) r
  case (I.IncM R1R0) r = still refl tt refl refl
  case (I.IncM R3R2) r = still refl tt refl refl
  case I.DecA r = still refl tt refl refl
  case (I.DecR n) r = each_below (λ (n : ℕ). Case moved (I.DecR n)) 5 n
      (still refl tt refl refl and still refl tt refl refl and still refl tt refl refl and still refl tt refl refl and still refl tt refl refl
      and Each.none) r
  case (I.DecM R1R0) r = still refl tt refl refl
  case (I.DecM R3R2) r = still refl tt refl refl
  case (I.MovAR n) r = each_below (λ (n : ℕ). Case moved (I.MovAR n)) 5 n
      (still refl tt refl refl and still refl tt refl refl and still refl tt refl refl and still refl tt refl refl and still refl tt refl refl
      and Each.none) r
  case (I.MovRA n) r = each_below (λ (n : ℕ). Case moved (I.MovRA n)) 5 n
      (still refl tt refl refl and still refl tt refl refl and still refl tt refl refl and still refl tt refl refl and still refl tt refl refl
      and Each.none) r
  case (I.MovAM R1R0) r = still refl tt refl refl
  case (I.MovAM R3R2) r = still refl tt refl refl
  case (I.MovMA R1R0) r = still refl tt refl refl
  case (I.MovMA R3R2) r = still refl tt refl refl
  case (I.MovAX d) r = with_value I.MovAX d refl refl (ltb-true d 16 r) refl refl
  case (I.MovPairXX R1R0 low high) r = pair R1R0 low high r refl refl refl refl
  case (I.MovPairXX R3R2 low high) r = pair R3R2 low high r refl refl refl refl
  case (I.MovR4X d) r = with_value I.MovR4X d refl refl (ltb-true d 16 r) refl refl
  case I.RlA r = still refl tt refl refl
  case I.RlcA r = still refl tt refl refl
  case I.RrA r = still refl tt refl refl
  case I.RrcA r = still refl tt refl refl
  case (I.InA Pm) r = still refl tt refl refl
  case (I.InA Ps) r = still refl tt refl refl
  case (I.InA Pp) r = still refl tt refl refl
  case I.OutPaA r = still refl tt refl refl
  case (I.Jmp t) r = with_value (addressed I.Jmp) t.0 refl refl (ltb-true t.0 rom_size r) refl refl
  case (I.Branch t (Ja n)) r =
      each_below (λ (n : ℕ). Case moved (I.Branch t (Ja n))) 4 n (bits t (and_right (ltb n 4) (ltb t.0 2048) r))
      (and_left (ltb n 4) (ltb t.0 2048) r)
  case (I.Branch t JnzR0) r = to JnzR0 t r refl refl refl
  case (I.Branch t JnzR1) r = to JnzR1 t r refl refl refl
  case (I.Branch t JnzR4) r = to JnzR4 t r refl refl refl
  case (I.Branch t Jz) r = to Jz t r refl refl refl
  case (I.Branch t JnzA) r = to JnzA t r refl refl refl
  case (I.Branch t Jc) r = to Jc t r refl refl refl
  case (I.Branch t Jnc) r = to Jnc t r refl refl refl
  case (I.Branch t Jtmr) r = to Jtmr t r refl refl refl
  case (I.Call t) r = with_value (addressed I.Call) t.0 refl refl (ltb-true t.0 rom_size r) refl refl
  case I.Ret r = still refl tt refl refl
  case I.Reti r = still refl tt refl refl
  case I.Clc r = still refl tt refl refl
  case I.Stc r = still refl tt refl refl
  case I.Ei r = still refl tt refl refl
  case I.Di r = still refl tt refl refl
  case I.Nop r = still refl tt refl refl
  case (I.TimerXX x) r = with_value I.TimerXX x refl refl (ltb-true x 256 r) refl refl
  case I.TimerOn r = still refl tt refl refl
  case I.TimerOff r = still refl tt refl refl
  case I.MovATmrl r = still refl tt refl refl
  case I.MovATmrh r = still refl tt refl refl
  case I.MovTmrlA r = still refl tt refl refl
  case I.MovTmrhA r = still refl tt refl refl
  case (I.ReadR4A Current) r = still refl tt refl refl
  case (I.ReadR4A F) r = still refl tt refl refl
  case (I.ReadMr0A Current) r = still refl tt refl refl
  case (I.ReadMr0A F) r = still refl tt refl refl
  case (I.SoundN d) r = with_value I.SoundN d refl refl (ltb-true d 16 r) refl refl
  case I.SoundA r = still refl tt refl refl
  case I.SoundOne r = still refl tt refl refl
  case I.SoundLoop r = still refl tt refl refl
  case I.SoundOff r = still refl tt refl refl
  case I.Halt r = still refl tt refl refl

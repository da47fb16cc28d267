-- `checker::next::next_codes` meets its contract: an arm knows the flow, at which the definition computes, and a target that was read is an
-- address, so that its code fits. Assumes nothing.
use Prim.Native.Nat.{ℕ, suc, ◌+◌, ◌*◌, ◌%◌}
use mathlib.Core.Path.{◌≡◌, refl, ap, ◌∙◌}
use mathlib.Core.Bool.{Bool, true, false}
use mathlib.Core.List.{[], ◌∷◌, map}
use native.Mathlib.Omega.{arith}
use lib.Dec.{eqb}
use borrow.Author.Tests.{eq-eqb, ne_eqb}
use Rattle.isa.specs.Choice.{pick}
use Rattle.isa.specs.declared.ProgramAddress.{ProgramAddress}
use Rattle.checker.specs.declared.flow.Flow.TheVariants.{Unread, On, Enable, Jump, To, Sub, Back}
use Rattle.checker.specs.Marks.{levels, fault_in}
use Rattle.checker.specs.Verdicts.{rank}
use Rattle.checker.proofs.Successors.{handed-on, fault-here, next-still, next-moved, targets-here}
use Rattle.checker.proofs.next.next_codes.Goals as goal

-- a fault that is a number from 1 on
forbids : (f : ℕ) {g : ℕ} → g ≡ suc f → (g ≡ suc f) × (g ≡ 0 → ⊥)
forbids f e = (e, λ z. omega arith)

sub-main : (t : ProgramAddress) (moved l : ℕ) → l ≡ 0 → (t.0 * 3 + 1) ∷ (moved * 3) ∷ [] ≡ handed-on (Sub t) moved l
sub-main t moved l e = rw (eq-eqb l 0 e) (ap (λ (n : ℕ). (t.0 * 3 + 1) ∷ n ∷ []) (plus-zero (moved * 3)))
  where
    plus-zero : (n : ℕ) → n ≡ n + 0
    plus-zero n = omega arith

sub-other : (t : ProgramAddress) (moved l : ℕ) → (l ≡ 0 → ⊥) → [] ≡ handed-on (Sub t) moved l
sub-other t moved l n = rw (ne_eqb l 0 n) refl

back : (l : ℕ) → [] ≡ handed-on Back 0 l
back l = go (eqb (fault_in Back l) 0)
  where
    go : (b : Bool) → [] ≡ map rank (pick b [] [])
    go true = refl
    go false = refl

-- the faults by level
in-main : {A : Type 0} (x y : A) (l : ℕ) → l ≡ 0 → pick (eqb l 0) x y ≡ x
in-main x y l e = rw (eq-eqb l 0 e) refl

above : {A : Type 0} (x y : A) (l : ℕ) → (l ≡ 0 → ⊥) → pick (eqb l 0) x y ≡ y
above x y l n = rw (ne_eqb l 0 n) refl

pub overflow_mul-result-in-Jump : goal.overflow_mul-result-in-Jump
overflow_mul-result-in-Jump c =
    let h = targets-here c.args.mask.now c.args.code c.code_at-bytes.ensures c.flow_by-flow.ensures (Jump c.in-Jump.t) c.in-Jump.is (λ k. omega (arith, c.type_inv.mask k)) in omega arith

pub overflow_add-result-in-Jump : goal.overflow_add-result-in-Jump
overflow_add-result-in-Jump c =
    let h = targets-here c.args.mask.now c.args.code c.code_at-bytes.ensures c.flow_by-flow.ensures (Jump c.in-Jump.t) c.in-Jump.is (λ k. omega (arith, c.type_inv.mask k)) in omega arith

pub overflow_mul-result-then-level-eq0 : goal.overflow_mul-result-then-level-eq0
overflow_mul-result-then-level-eq0 c =
    let h = targets-here c.args.mask.now c.args.code c.code_at-bytes.ensures c.flow_by-flow.ensures (Sub c.in-Sub.t) c.in-Sub.is (λ k. omega (arith, c.type_inv.mask k)) in omega arith

pub overflow_add-result-then-level-eq0 : goal.overflow_add-result-then-level-eq0
overflow_add-result-then-level-eq0 c =
    let h = targets-here c.args.mask.now c.args.code c.code_at-bytes.ensures c.flow_by-flow.ensures (Sub c.in-Sub.t) c.in-Sub.is (λ k. omega (arith, c.type_inv.mask k)) in omega arith

-- no instruction
pub returns-in-Unread : goal.returns-in-Unread
returns-in-Unread c =
    record {
      result_value = next-still c.args.mask.now c.args.code c.code_at-bytes.ensures c.flow_by-flow.ensures Unread c.in-Unread.is;
      faults = forbids 0 (fault-here c.args.mask.now c.args.code c.code_at-bytes.ensures c.flow_by-flow.ensures Unread c.in-Unread.is);
    }

-- goes on
pub returns-in-On : goal.returns-in-On
returns-in-On c =
    record {
      result_value = next-moved c.args.mask.now c.args.code c.code_at-bytes.ensures c.flow_by-flow.ensures On c.in-On.is c.length-size.ensures c.moved_by.ensures;
      faults = fault-here c.args.mask.now c.args.code c.code_at-bytes.ensures c.flow_by-flow.ensures On c.in-On.is;
    }

-- EI
pub returns-in-Enable : goal.returns-in-Enable
returns-in-Enable c =
    record {
      result_value = next-moved c.args.mask.now c.args.code c.code_at-bytes.ensures c.flow_by-flow.ensures Enable c.in-Enable.is c.length-size.ensures c.moved_by-in-Enable.ensures;
      faults = fault-here c.args.mask.now c.args.code c.code_at-bytes.ensures c.flow_by-flow.ensures Enable c.in-Enable.is;
    }

-- JMP
pub returns-in-Jump : goal.returns-in-Jump
returns-in-Jump c =
    record {
      result_value = next-still c.args.mask.now c.args.code c.code_at-bytes.ensures c.flow_by-flow.ensures (Jump c.in-Jump.t) c.in-Jump.is;
      faults = fault-here c.args.mask.now c.args.code c.code_at-bytes.ensures c.flow_by-flow.ensures (Jump c.in-Jump.t) c.in-Jump.is;
    }

-- a branch
pub returns-in-To : goal.returns-in-To
returns-in-To c =
    record {
      result_value = next-moved c.args.mask.now c.args.code c.code_at-bytes.ensures c.flow_by-flow.ensures (To c.in-To.t) c.in-To.is c.length-size.ensures c.moved_by-moved.ensures;
      faults = fault-here c.args.mask.now c.args.code c.code_at-bytes.ensures c.flow_by-flow.ensures (To c.in-To.t) c.in-To.is;
    }

-- CALL in level 0
pub returns-then-level-eq0 : goal.returns-then-level-eq0
returns-then-level-eq0 c =
    record {
      result_value = sub-main c.in-Sub.t _ _ c.if-level-eq0.true ∙ next-moved c.args.mask.now c.args.code c.code_at-bytes.ensures c.flow_by-flow.ensures (Sub c.in-Sub.t) c.in-Sub.is c.length-size.ensures c.moved_by-then-level-eq0.ensures;
      faults = fault-here c.args.mask.now c.args.code c.code_at-bytes.ensures c.flow_by-flow.ensures (Sub c.in-Sub.t) c.in-Sub.is ∙ in-main 0 2 _ c.if-level-eq0.true;
    }

-- CALL above it
pub returns-else-level-eq0 : goal.returns-else-level-eq0
returns-else-level-eq0 c =
    record {
      result_value = sub-other c.in-Sub.t _ _ c.if-level-eq0.false ∙ next-still c.args.mask.now c.args.code c.code_at-bytes.ensures c.flow_by-flow.ensures (Sub c.in-Sub.t) c.in-Sub.is;
      faults = forbids 1 (fault-here c.args.mask.now c.args.code c.code_at-bytes.ensures c.flow_by-flow.ensures (Sub c.in-Sub.t) c.in-Sub.is ∙ above 0 2 _ c.if-level-eq0.false);
    }

-- RET and RETI in level 0
pub returns-then-level-eq0-2 : goal.returns-then-level-eq0-2
returns-then-level-eq0-2 c =
    record {
      result_value = back (c.args.code % levels) ∙ next-still c.args.mask.now c.args.code c.code_at-bytes.ensures c.flow_by-flow.ensures Back c.in-Back.is;
      faults = forbids 2 (fault-here c.args.mask.now c.args.code c.code_at-bytes.ensures c.flow_by-flow.ensures Back c.in-Back.is ∙ in-main 3 0 _ c.if-level-eq0-2.true);
    }

-- RET and RETI above it
pub returns-else-level-eq0-2 : goal.returns-else-level-eq0-2
returns-else-level-eq0-2 c =
    record {
      result_value = back (c.args.code % levels) ∙ next-still c.args.mask.now c.args.code c.code_at-bytes.ensures c.flow_by-flow.ensures Back c.in-Back.is;
      faults = fault-here c.args.mask.now c.args.code c.code_at-bytes.ensures c.flow_by-flow.ensures Back c.in-Back.is ∙ above 3 0 _ c.if-level-eq0-2.false;
    }

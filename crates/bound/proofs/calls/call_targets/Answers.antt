-- `bound::calls::call_targets` meets its contract: the flags of the CALLs before an address are set. Assumes nothing.
use Prim.Native.Nat.{ℕ, ◌+◌}
use mathlib.Core.Path.{◌≡◌, refl, sym, subst, ◌∙◌}
use mathlib.Core.List.{List}
use native.Mathlib.Omega.{arith}
use Rattle.std.specs.Prelude.{Option, Some, None}
use Rattle.checker.proofs.Reach.{flow-targets}
use Rattle.bound.proofs.Filling.{Calling, called-inside, calling-start, calling-new, calling-old, calling-end}
use Rattle.bound.proofs.calls.call_targets.Goals as goal
use Rattle.bound.proofs.calls.call_targets.Goals.{in-Some, in_default}

no_target : (r : Option ℕ) → ((t : ℕ) → r ≡ Some t → ⊥) → r ≡ None
no_target None h = refl
no_target (Some t) h = absurd (h t refl)

pub loop-address-init : goal.loop-address-init
loop-address-init c = calling-start c.args.mask.now c.args.marks.now

pub bounds-targets-target : goal.bounds-targets-target
bounds-targets-target c =
    called-inside _ _ _ (flow-targets c.args.mask.now (λ k. omega (arith, c.type_inv.mask k)) c.loop-address.address) c.in-Some.ensures

pub loop-address-preserved : goal.loop-address-preserved
loop-address-preserved c =
    let flags : List ℕ = c.loop-address.targets in
    let a : ℕ = c.loop-address.address in
    elim c.match-called_at.branch [
      | in-Some w ↦ subst (λ (f : List ℕ). Calling c.args.mask.now c.args.marks.now f (a + 1)) (sym w.targets-is)
          (calling-new c.args.mask.now c.args.marks.now flags a c.loop-address.invariant w.in-Some.target
          (called-inside _ _ _ (flow-targets c.args.mask.now (λ k. omega (arith, c.type_inv.mask k)) a) w.in-Some.ensures) w.in-Some.ensures)
      | in_default w ↦ subst (λ (f : List ℕ). Calling c.args.mask.now c.args.marks.now f (a + 1)) (sym w.targets-is)
          (calling-old c.args.mask.now c.args.marks.now flags a c.loop-address.invariant (sym (no_target c.called_at.result w.in_default.not-Some) ∙ c.called_at.ensures))
    ]

pub returns : goal.returns
returns c = calling-end c.args.mask.now c.args.marks.now c.loop-address.targets c.loop-address.address c.loop-address.invariant c.loop-address-test.false

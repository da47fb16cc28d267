-- `checker::walk::Walk::count_to` meets its contract. The loop's invariant: however many places there are to `place`, there are `count - 1` more to
-- the end. Assumes nothing.
use Prim.Native.Nat.{ℕ, suc, ◌+◌, ◌-◌}
use mathlib.Core.Path.{◌≡◌, subst}
use native.Mathlib.Omega.{arith}
use Rattle.reach.specs.Trail.{Counted, origin, onward}
use Rattle.checker.proofs.walk.Walk.count_to.Goals as goal

pub loop-place-preserved : goal.loop-place-preserved
loop-place-preserved c = (
  omega arith,
  omega arith,
  λ n d. let e : suc n + (c.loop-place.count - 1) ≡ n + (c.loop-place.count + 1 - 1) = omega arith in
      subst (Counted c.args.self.now.starts c.args.end) e (c.loop-place.invariant.2 (suc n) (onward c.place_before-place.ensures d)),
)

pub returns : goal.returns
returns c =
    let z : 0 ≡ c.loop-place.place = omega (arith, c.loop-place-test.false) in
    let e : 1 + (c.loop-place.count - 1) ≡ c.loop-place.count = omega arith in
    (omega arith, subst (Counted c.args.self.now.starts c.args.end) e (c.loop-place.invariant.2 1 (subst (λ (j : ℕ). Counted c.args.self.now.starts j 1) z origin)))

-- The largest entry of the list of bounds does for every pair above main that a mask may run: the pair's own entry is its bound, and no larger. Assumes
-- nothing.
use Prim.Native.Nat.{ℕ, ◌<◌, ◌≤◌}
use native.Mathlib.Omega.{arith}
use mathlib.Core.Path.{◌≡◌, refl, subst}
use mathlib.Core.Bool.{Bool, true, false}
use mathlib.Core.List.{List}
use lib.Dec.{eqb}
use lib.ListN.{get_or}
use borrow.Author.Tests.{eqb-true}
use Rattle.std.specs.Prelude.{Ok}
use Rattle.isa.specs.Choice.{pick}
use Rattle.checker.specs.Marks.{Pair, pair}
use Rattle.checker.proofs.Reach.{reached-address, reached-level}
use Rattle.bound.specs.Bounds.{BoundAnswers, ReachedAbove}
use Rattle.bound.specs.Lists.{endless, place_of, bound_at}
use Rattle.bound.proofs.Filling.{entry_at}
use Rattle.bound.specs.declared.bound.Bound.TheVariants.{NotReached, NoBound, Cycles}
use Rattle.bound_laws.specs.Delay.{LongestWait}
use Rattle.bound_laws.proofs.Delay.{delay-bounded}

-- an entry that is no more than a bound is the pair's bound
bounded : (mask : List ℕ) (p : Pair) (v w : ℕ) → ReachedAbove mask p → v ≤ w → w < 65536 → (w ≡ endless → ⊥)
    → BoundAnswers mask p (Ok (pick (eqb v 0) NotReached (pick (eqb v endless) NoBound (Cycles v)))) → BoundAnswers mask p (Ok (Cycles v))
bounded mask p v w r h l n = go (eqb v 0) (eqb v endless) (eqb-true v endless)
  where
    go : (a b : Bool) → (b ≡ true → v ≡ endless) → BoundAnswers mask p (Ok (pick a NotReached (pick b NoBound (Cycles v)))) → BoundAnswers mask p (Ok (Cycles v))
    go true b f e = absurd (e.1 r)
    go false true f e = let q = f refl in absurd (n (omega arith))
    go false false f e = e

pub longest-wait : LongestWait
longest-wait mask old list bytes listed small place largest known m r awake no-fault calls steady under enough =
    let p = pair m.cpu.control.pc.0 m.cpu.interrupts.level in
    let a = reached-address mask bytes p r.1 in
    let l = reached-level mask p r.1 in
    let k = place_of p.address p.level in
    let h = largest.most k (omega (arith, listed.1)) in
    let e = entry_at list p.address p.level listed.1 a r.0 l in
    let b = bounded mask p (get_or list k 0) (get_or list place 0) r h (small place) known (subst (λ (n : ℕ). BoundAnswers mask p (Ok (bound_at n))) e (listed.2 p.address p.level a r.0 l)) in
    let c = delay-bounded mask bytes (get_or list k 0) m b awake no-fault calls under steady (omega arith) in
    record {
      until = c.until;
      far = c.far;
      soon = omega (arith, c.soon);
      main = c.main;
      awake = c.awake;
      no-fault = c.no-fault;
      held = c.held;
      taken = c.taken;
    }

use Prim.Native.Nat.{ℕ, ◌+◌, ◌-◌, ◌≤◌, ◌<◌}
use Rattle.reach.specs.Trail.{Counted}
use Rattle.checker.proofs.walk.Walk.count_to.Given as goal

abbrev pub invariant-loop-place : goal.invariant-loop-place
invariant-loop-place l =
    (0 < l.count) × (l.count + l.place ≤ l.end + 1) × ((n : ℕ) → Counted l.self.starts l.place n → Counted l.self.starts l.end (n + (l.count - 1)))

abbrev pub decreases-loop-place : goal.decreases-loop-place
decreases-loop-place l = l.place

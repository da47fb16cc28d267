use Prim.Native.Nat.{ℕ, ◌+◌, ◌*◌, ◌≤◌}
use mathlib.Core.Path.{◌≡◌}
use mathlib.Core.List.{List, ◌++◌}
use lib.ListN.{length, drop}
use Rattle.reach.specs.Trail.{Counted, Up}
use Rattle.checker.specs.Ways.{listed}
use Rattle.checker.specs.Trail.{pairs_at}
use Rattle.checker.proofs.walk.Walk.put_all.Given as goal

pub record Putting (old queue starts : List ℕ) (last count : ℕ) (list : List ℕ) (place left : ℕ) : Type 0 where
  pub inside : place ≤ last
  pub size : length list ≡ length old
  pub rest : ℕ
  pub counted : Counted starts place rest
  pub offset : left + 3 ≡ 3 * rest
  pub places : List ℕ
  pub up : Up starts place places last
  pub sum : length places + rest ≡ count + 1
  pub bytes : drop left list ≡ listed (pairs_at queue places) ++ drop (3 * count) old

abbrev pub invariant-loop-place : goal.invariant-loop-place
invariant-loop-place l = Putting l.initial.list l.self.queue l.self.starts l.end l.count l.list l.place l.left

abbrev pub decreases-loop-place : goal.decreases-loop-place
decreases-loop-place l = l.place

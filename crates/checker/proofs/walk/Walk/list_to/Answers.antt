-- `checker::walk::Walk::list_to` meets its contract: the place of the code, its count, and the pairs up to it. Assumes nothing.
use Prim.Native.Nat.{ℕ, ◌*◌, ◌<◌}
use mathlib.Core.Path.{refl}
use mathlib.Core.List.{List}
use native.Mathlib.Omega.{arith}
use lib.ListN.{length}
use Rattle.reach.specs.Trail.{Ended}
use Rattle.checker.specs.Trail.{ShortOf}
use Rattle.checker.proofs.walk.Walk.list_to.Goals as goal

short-of : {queue starts list : List ℕ} {code : ℕ} (count : ℕ) → Ended queue starts code count → length list < 3 * count → ShortOf queue starts code list
short-of count e s = record { count = count; ended = e; short = s }

-- a list that is too short
-- stays as it was
pub returns-then-list-count : goal.returns-then-list-count
returns-then-list-count c = (
  short-of c.count_to-count.result (record { end = c.place_of-end.result; first = c.place_of-end.ensures.1; counted = c.count_to-count.ensures.1 })
      (omega (arith, c.if-list-count.true)),
  refl,
)

pub returns : goal.returns
returns c =
    record {
      ended = record { end = c.place_of-end.result; first = c.place_of-end.ensures.1; counted = c.count_to-count.ensures.1 };
      fits = omega (arith, c.if-list-count.false);
      listings = c.put_all.ensures;
    }

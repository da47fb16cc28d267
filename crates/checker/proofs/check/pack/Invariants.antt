use Prim.Native.Nat.{ℕ, ◌<◌}
use mathlib.Core.Path.{◌≡◌}
use lib.ListN.{length, get_or}
use Rattle.checker.specs.Verdicts.{marks_size}
use Rattle.checker.specs.Walk.{mark_of}
use Rattle.checker.proofs.check.pack.Given as goal

abbrev pub invariant-loop-address : goal.invariant-loop-address
invariant-loop-address l = (length l.marks ≡ marks_size) × ((a : ℕ) → a < l.address → get_or l.marks a 0 ≡ mark_of l.seen a)

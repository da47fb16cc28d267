use Rattle.std.proofs.Common.{◌≡◌, ◌-◌}
use Rattle.glass.specs.Drawing.{first_enough, fewest}
use Rattle.glass.proofs.figure.fewest.Given as goal

-- none before `n` was enough
abbrev pub invariant-loop-n : goal.invariant-loop-n
invariant-loop-n l = fewest l.size l.places ≡ first_enough l.size l.places (5 - l.n) l.n

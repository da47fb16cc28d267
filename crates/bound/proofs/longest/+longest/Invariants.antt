-- The measure is the count of pairs left: an address whose chains are walked is marked first, so that one fewer is not found yet.
use Rattle.bound.proofs.longest.+longest.Given as goal

abbrev pub decreases-longest : goal.decreases-longest
decreases-longest l = l.left

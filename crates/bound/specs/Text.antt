-- A bound as `checkmask` prints it. Assumes nothing.
use Rattle.std.specs.Prelude.{ℕ, List, codes, decimal}
use Rattle.bound.specs.declared.bound.Bound.{Bound}
use Rattle.bound.specs.declared.bound.Bound.TheVariants.{NotReached, NoBound, Cycles}

abbrev pub bound_text : Bound → List ℕ
bound_text NotReached = codes "not reached"
bound_text NoBound = codes "no bound"
bound_text (Cycles n) = decimal n

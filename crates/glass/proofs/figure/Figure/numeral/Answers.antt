-- `glass::figure::Figure::numeral` meets its contract.
use Rattle.std.proofs.Common.{lit<}
use native.Mathlib.Nat.{one-le-pow}
use Rattle.glass.proofs.figure.Figure.numeral.Goals as goal

pub nonzero_div-result : goal.nonzero_div-result
nonzero_div-result c = rw c.power.ensures (one-le-pow c.args.after 10 (lit< tt))

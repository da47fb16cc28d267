-- `machine::ranges::joined` meets its contract: the bits of both. Assumes nothing.
use Rattle.machine.proofs.Joined.{or-below}
use Rattle.machine.proofs.ranges.joined.Goals as goal

pub returns : goal.returns
returns c = (or-below 4 c.args.a c.args.b, or-below 1 c.args.a c.args.b)

-- `machine::ranges::addresses_ok` meets its contract: the bits of both. Assumes nothing.
use Rattle.machine.proofs.Joined.{or-below}
use Rattle.machine.proofs.ranges.addresses_ok.Goals as goal

pub returns : goal.returns
returns c = or-below 12 c.args.pc c.args.address

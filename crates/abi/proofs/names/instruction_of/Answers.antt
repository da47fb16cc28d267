-- The one arm of `abi::names::instruction_of` that is no line of the list. Assumes nothing.
use Rattle.abi.proofs.Arms.{past, no_form}
use Rattle.abi.proofs.names.instruction_of.Goals as goal

pub returns-in_default : goal.returns-in_default
returns-in_default c = no_form _ _ _ (past 60 _ c.in_default.in_default-own.rest)

-- `checker::flow::flow_at` meets its contract: the flow of the bytes at the address is the definition's. Assumes nothing.
use mathlib.Core.Path.{◌∙◌}
use Rattle.checker.proofs.Successors.{flow-there}
use Rattle.checker.proofs.flow.flow_at.Goals as goal

pub returns : goal.returns
returns c = c.flow_by.ensures ∙ flow-there _ _ c.code_at-bytes.result c.code_at-bytes.ensures

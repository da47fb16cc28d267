-- `machine::Machine::report` meets its contract: the report is the same whatever the trace is. Assumes nothing.
use Rattle.std.proofs.Common.{rules}
use mathlib.Core.Path.{ap, ◌∙◌}
use Rattle.machine.specs.Machine.{no_trace}
use Rattle.machine.specs.Report.{report, reporting}
use Rattle.machine.proofs.Machine.report.Goals as goal

pub returns : goal.returns
unfolding report
returns c = ap (reporting 0) (c.write_report.ensures no_trace) ∙ search rules

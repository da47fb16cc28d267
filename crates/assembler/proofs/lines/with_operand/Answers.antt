-- `assembler::lines::with_operand` meets its contract. Assumes nothing.
use Rattle.operand.specs.Read.{names_of}
use Rattle.assembler.proofs.Lining.{no_operand, operand-whole}
use Rattle.assembler.proofs.lines.with_operand.Goals as goal

pub returns-in_err-value : goal.returns-in_err-value
returns-in_err-value c = rw c.from_residual.ensures (no_operand c.args.labels.text.now (names_of c.args.labels.text.now c.args.labels.starts.now)
    c.args.labels.addresses.now c.args.at c.args.form c.args.label c.requires c.in_err-value.ensures)

pub returns : goal.returns
returns c = operand-whole c.args.labels.text.now (names_of c.args.labels.text.now c.args.labels.starts.now) c.args.labels.addresses.now c.args.at
    c.args.form c.args.label c.requires c.in_ok-value.ensures

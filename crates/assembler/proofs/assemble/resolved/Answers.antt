-- `assembler::assemble::resolved` meets its contract. Assumes nothing.
use Rattle.std.proofs.Common.{◌≡◌, rules, sym}
use Rattle.std.specs.Prelude.{Err}
use Rattle.assembler.specs.Program.{program}
use Rattle.assembler.specs.Passing.{labels}
use Rattle.assembler.proofs.Judging.{resolves}
use Rattle.assembler.proofs.assemble.resolved.Goals as goal

pub returns-in_err-check_labels-clause-found : goal.returns-in_err-check_labels-clause-found
returns-in_err-check_labels-clause-found c =
    let e : c.from_residual.result ≡ Err c.in_err-check_labels.field-0.0 = search rules in
    let g = c.in_err-check_labels.ensures in
    rw e (labels g.refusal.0 g.refusal.1 g.line)

pub returns-clause-found : goal.returns-clause-found
returns-clause-found c = resolves (program c.args.text.now) c.place_lines.result (sym c.in_ok-check_labels.ensures.line) c.place_lines.ensures.line
    c.place_lines.ensures.refusal

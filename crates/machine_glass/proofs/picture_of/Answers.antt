-- `machine_glass::picture_of` meets its contract.
use Rattle.std.proofs.Common.{◌≡◌, Err, rules, ap, ◌∙◌}
use Rattle.machine.specs.Report.{reporting}
use Rattle.machine_glass.specs.Glass.{Pictured, answered}
use Rattle.machine_glass.proofs.Pictures.{taken, blank}
use Rattle.refusals.specs.Numbers.{number_of}
use Rattle.machine_glass.proofs.picture_of.Goals as goal

pub returns-in_err-report : goal.returns-in_err-report
returns-in_err-report c =
    let e : c.from_residual.result ≡ Err c.in_err-report.field-0.0 = search rules in
    ap answered e
    ∙ blank c.args.machine c.in_err-report.field-0.0 (ap (λ (x : Pictured). x.refusal) (taken c.args.machine (reporting (number_of c.in_err-report.field-0.0) c.report.new.out) c.in_err-report.ensures))

pub returns : goal.returns
returns c = taken c.args.machine (reporting 0 c.report.new.out) c.in_ok-report.ensures

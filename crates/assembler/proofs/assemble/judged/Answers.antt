-- `assembler::assemble::judged` meets its contract: each pass's finding, in their order. Assumes nothing.
use Rattle.std.proofs.Common.{◌≡◌, rules, sym}
use Rattle.std.specs.Prelude.{Err}
use Rattle.assembler.specs.Program.{program}
use Rattle.assembler.proofs.Judging.{unresolved}
use Rattle.assembler.proofs.assemble.judged.Goals as goal

pub returns-in_err-resolved : goal.returns-in_err-resolved
returns-in_err-resolved c =
    let e : c.from_residual-in_err-resolved.result ≡ Err c.in_err-resolved.field-0.0 = search rules in
    rw e (unresolved (program c.args.text.now) c.args.out.now c.in_err-resolved.field-0.0 (sym c.in_ok-count.ensures.collected.line)
    c.in_err-resolved.ensures.found)

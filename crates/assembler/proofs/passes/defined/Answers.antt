-- `assembler::passes::defined` meets its contract. Assumes nothing.
use Rattle.std.proofs.Common.{ap, ◌∙◌}
use Rattle.std.specs.Prelude.{is_some}
use Rattle.operand.specs.Words.{among}
use Rattle.operand.specs.Read.{names_of, word_at}
use Rattle.operand.proofs.Scans.{found, is-found}
use Rattle.assembler.proofs.passes.defined.Goals as goal

pub returns-in-Some : goal.returns-in-Some
returns-in-Some c =
    let names = names_of c.args.text.now c.args.above.now in
    let w = c.word.result.now in
    rw c.in-Some.is (c.is_some.ensures ∙ ap is_some (c.find.ensures ∙ found (word_at c.args.text.now) w c.args.above.now)
    ∙ is-found names w ∙ ap (among names) c.word.ensures)

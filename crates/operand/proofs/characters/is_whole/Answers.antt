-- `operand::characters::is_whole` meets its contract. Assumes nothing.
use Rattle.std.proofs.Common.{ap, not, refl, sym, ◌∙◌}
use Rattle.operand.proofs.Scans.{is-first}
use Rattle.operand.proofs.characters.is_whole.Goals as goal

pub returns-then-not-goes_on : goal.returns-then-not-goes_on
returns-then-not-goes_on c = let found = c.in-Some.ensures.cases in
    c.is_word.ensures ∙ sym (is-first c.args.text.now c.args.name.now
    ∙ rw (found.0, sym found.1, sym c.goes_on.ensures, c.if-not-goes_on.true) refl)

pub returns-else-not-goes_on : goal.returns-else-not-goes_on
returns-else-not-goes_on c = let found = c.in-Some.ensures.cases in
    ap not c.if-not-goes_on.false ∙ sym (is-first c.args.text.now c.args.name.now
    ∙ rw (found.0, sym found.1, sym c.goes_on.ensures, c.if-not-goes_on.false) refl)

pub returns-in-None : goal.returns-in-None
returns-in-None c = sym (is-first c.args.text.now c.args.name.now ∙ rw c.in-None.ensures.cases refl)

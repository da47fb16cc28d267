-- `assembler::lines::read_line` meets its contract: a line that is not blank is what follows its label, by the number of its form. Assumes nothing.
use Rattle.std.proofs.Common.{◌≡◌, ℕ, ap, refl, rules, subst, sym, ◌∙◌}
use Rattle.operand.specs.Read.{names_of, tokens_at}
use Rattle.operand.specs.declared.tokens.Kind.TheVariants.{End}
use Rattle.operand.proofs.Lexing.{lexed}
use Rattle.assembler.specs.Statement.{Statement}
use Rattle.assembler.specs.Read.{Shows, bodied, empty, label_at, parts}
use Rattle.assembler.proofs.Lining.{blank-line, line-body, not-nothing, number-is}
use Rattle.assembler.proofs.lines.read_line.Goals as goal

pub returns-in-End : goal.returns-in-End
returns-in-End c = empty (blank-line c.args.labels.text.now c.args.at (lexed c.args.labels.text.now _ c.requires.0 c.token.ensures) c.in-End.is)
    refl refl refl refl

pub returns : goal.returns
returns c =
    let other : c.token.result.kind ≡ End → ⊥ = search rules in
    let e = line-body c.args.labels.text.now (tokens_at c.args.labels.text.now c.args.at) c.labelling-name.result c.heading-head.result
    (not-nothing (lexed c.args.labels.text.now _ c.requires.0 c.token.ensures).next other) c.labelling-name.ensures c.heading-head.ensures
    ∙ ap (λ (n : ℕ). bodied n (label_at c.args.labels.text.now c.labelling-name.result.start)
    (tokens_at c.args.labels.text.now c.heading-head.result.next)) (sym (number-is c.and_then-form.result c.heading-head.result.key c.and_then-form.ensures)) in
    subst (λ (st : Statement). Shows c.args.labels.text.now (names_of c.args.labels.text.now c.args.above.now)
    (names_of c.args.labels.text.now c.args.labels.starts.now) c.args.labels.addresses.now st (parts c.body.result)) (sym e) c.body.ensures

-- `assembler::lines::labelling` meets its contract. Assumes nothing.
use Rattle.std.proofs.Common.{◌≡◌, ap, rules, sym, ◌∙◌}
use Rattle.operand.specs.Read.{word_at}
use Rattle.operand.specs.declared.tokens.Kind.TheVariants.{Label, Sign}
use Rattle.operand.proofs.Lexing.{lexed}
use Rattle.operand.proofs.TokenKinds.{as-label, sign-is}
use Rattle.assembler.specs.Statement.{labelled}
use Rattle.assembler.proofs.Lining.{no-colon, no_label, unlabelled, with-label}
use Rattle.assembler.proofs.lines.labelling.Goals as goal

pub returns-in_default : goal.returns-in_default
returns-in_default c = let other : c.token-word.result.kind ≡ Label → ⊥ = search rules in
    unlabelled c.args.text.now c.args.at c.requires (no_label (lexed c.args.text.now _ c.requires c.token-word.ensures).next other)

-- a label without a colon
pub returns-in_default-kind : goal.returns-in_default-kind
returns-in_default-kind c =
    let x = lexed c.args.text.now _ c.requires c.token-word.ensures in
    unlabelled c.args.text.now c.args.at c.requires
    (ap labelled (as-label x.next c.in-Label.is).0
    ∙ no-colon (lexed c.args.text.now _ x.within c.token-colon.ensures).next
    (λ q. c.in_default-kind.field-0-test.1 (c.in_default-kind.field-0-is ∙ sign-is (sym c.in_default-kind.is ∙ q)))
    (word_at c.args.text.now c.token-word.result.start))

pub returns-in_default-kind-2 : goal.returns-in_default-kind-2
returns-in_default-kind-2 c =
    let x = lexed c.args.text.now _ c.requires c.token-word.ensures in
    let other : c.token-colon.result.kind ≡ Sign 58 → ⊥ = search rules in
    unlabelled c.args.text.now c.args.at c.requires
    (ap labelled (as-label x.next c.in-Label.is).0
    ∙ no-colon (lexed c.args.text.now _ x.within c.token-colon.ensures).next other (word_at c.args.text.now c.token-word.result.start))

pub returns : goal.returns
returns c = let x = lexed c.args.text.now _ c.requires c.token-word.ensures in
    with-label c.args.text.now c.args.at c.requires x c.in-Label.is
    (lexed c.args.text.now _ x.within c.token-colon.ensures)
    (c.in-Sign-eq58.is ∙ ap Sign (sym c.in-Sign-eq58.field-0-is ∙ c.in-Sign-eq58.field-0-test))

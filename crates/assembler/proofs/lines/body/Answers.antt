-- `assembler::lines::body` meets its contract. Assumes nothing.
use Rattle.std.proofs.Common.{◌≡◌, ◌<◌, ap, arith, refl, rules, ◌∙◌}
use Rattle.operand.specs.Read.{names_of, tokens_at}
use Rattle.operand.specs.declared.tokens.Kind.TheVariants.{End}
use Rattle.operand.proofs.Lexing.{lexed}
use Rattle.operand.proofs.TokenKinds.{as-end}
use Rattle.assembler.specs.Shapes.{digits_in}
use Rattle.assembler.proofs.Lining.{code-shown, not-nothing, org-shown, plain-broken, plain-shown}
use Rattle.assembler.proofs.lines.body.Goals as goal

-- ORG
pub returns-then-form-eq-ORG : goal.returns-then-form-eq-ORG
returns-then-form-eq-ORG c = rw c.in_ok-form.was (org-shown c.args.labels.text.now
    (names_of c.args.labels.text.now c.args.above.now) (names_of c.args.labels.text.now c.args.labels.starts.now)
    c.args.labels.addresses.now c.args.label (tokens_at c.args.labels.text.now c.args.at) c.requires.texts.2 c.in_ok-form.form
    c.if-form-eq-ORG.true _ c.with_operand.ensures)

-- an operand
pub returns-then-digits_of-gt0 : goal.returns-then-digits_of-gt0
returns-then-digits_of-gt0 c = let d = c.digits_of.ensures ∙ ap digits_in c.shape_of.ensures in
    let few : c.in_ok-form.form < 97 = rw c.in_ok-form.was at c.requires.forms in
    rw c.in_ok-form.was (code-shown c.args.labels.text.now (names_of c.args.labels.text.now c.args.above.now)
    (names_of c.args.labels.text.now c.args.labels.starts.now) c.args.labels.addresses.now c.args.label
    (tokens_at c.args.labels.text.now c.args.at) c.requires.texts.2 c.in_ok-form.form (omega arith) few _ (omega arith)
    c.with_operand-then-digits_of-gt0.ensures)

-- none, and something stands there
pub returns-in_default : goal.returns-in_default
returns-in_default c = let d = c.digits_of.ensures ∙ ap digits_in c.shape_of.ensures in
    let few : c.in_ok-form.form < 97 = rw c.in_ok-form.was at c.requires.forms in
    let other : c.token.result.kind ≡ End → ⊥ = search rules in
    rw c.in_ok-form.was (plain-broken c.args.labels.text.now (names_of c.args.labels.text.now c.args.above.now)
    (names_of c.args.labels.text.now c.args.labels.starts.now) c.args.labels.addresses.now c.args.label
    (tokens_at c.args.labels.text.now c.args.at) c.requires.texts.2 c.in_ok-form.form (omega arith) few (omega arith)
    (not-nothing (lexed c.args.labels.text.now _ c.requires.texts.0 c.token.ensures).next other) _ refl)

pub returns : goal.returns
returns c = let d = c.digits_of.ensures ∙ ap digits_in c.shape_of.ensures in
    let few : c.in_ok-form.form < 97 = rw c.in_ok-form.was at c.requires.forms in
    rw c.in_ok-form.was (plain-shown c.args.labels.text.now (names_of c.args.labels.text.now c.args.above.now)
    (names_of c.args.labels.text.now c.args.labels.starts.now) c.args.labels.addresses.now c.args.label
    (tokens_at c.args.labels.text.now c.args.at) c.requires.texts.2 c.in_ok-form.form (omega arith) few (omega arith)
    (as-end (lexed c.args.labels.text.now _ c.requires.texts.0 c.token.ensures).next c.in-End.is).0)

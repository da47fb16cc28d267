-- The reader of sums and the reader of parentheses meet their contracts. What a turn does stands in Turns. Assumes nothing.
use Rattle.std.proofs.Common.{◌≡◌, arith, ap, rules, sym, ◌∙◌}
use Rattle.operand.specs.Read.{names_of}
use Rattle.operand.specs.declared.tokens.Kind.TheVariants.{Sign}
use Rattle.operand.proofs.Lexing.{lexed}
use Rattle.operand.proofs.TokenKinds.{apart, sign-is}
use Rattle.operand.proofs.Turns.{closes, goes_on, goes-past, inner-broken, not-closed, part-broken, part-read, stops, too-deep}
use Rattle.operand.proofs.operands.+joined_parenthesis.Goals as goal

-- a part that cannot be read
pub joined-returns-in_err-part : goal.joined-returns-in_err-part
joined-returns-in_err-part t c = rw c.from_residual.ensures (part-broken c.args.labels.text.now
    (names_of c.args.labels.text.now c.args.labels.starts.now) c.args.labels.addresses.now c.args.at c.args.depth c.args.minus c.loop-part.taken
    c.loop-part.invariant c.in_err-part.ensures)

-- no sum goes on
pub joined-returns-in_default : goal.joined-returns-in_default
joined-returns-in_default t c =
    let p = part-read c.args.labels.text.now (names_of c.args.labels.text.now c.args.labels.starts.now) c.args.labels.addresses.now c.args.at
    c.args.depth c.args.minus c.loop-part.invariant c.in_ok-part.ensures in
    stops c.args.labels.text.now (names_of c.args.labels.text.now c.args.labels.starts.now) c.args.labels.addresses.now c.args.at c.args.depth
    c.args.minus p (lexed c.args.labels.text.now _ p.within c.token-sign.ensures) (sym c.goes_on.ensures ∙ c.in_default.is)

pub joined-loop-part-smaller : goal.joined-loop-part-smaller
joined-loop-part-smaller t c =
    let q = c.in_ok-part.ensures in
    let x = lexed c.args.labels.text.now _ q.within c.token-sign.ensures in
    let y = x.moves (goes-past _ _ _ (sym c.goes_on.ensures ∙ c.in-Some.is)) in
    omega (arith, x.from, x.within, q.from)

-- it does
pub joined-loop-part-preserved : goal.joined-loop-part-preserved
joined-loop-part-preserved t c =
    let p = part-read c.args.labels.text.now (names_of c.args.labels.text.now c.args.labels.starts.now) c.args.labels.addresses.now c.args.at
    c.args.depth c.args.minus c.loop-part.invariant c.in_ok-part.ensures in
    goes_on c.args.labels.text.now (names_of c.args.labels.text.now c.args.labels.starts.now) c.args.labels.addresses.now c.args.at c.args.depth
    c.args.minus p (lexed c.args.labels.text.now _ p.within c.token-sign.ensures) (sym c.goes_on.ensures ∙ c.in-Some.is)

pub parenthesis-term-requires-clause-lexed : goal.parenthesis-term-requires-clause-lexed
parenthesis-term-requires-clause-lexed t c = lexed c.args.labels.text.now _ c.requires.0 c.token-open.ensures

-- too deep
pub parenthesis-returns-then-depth-eq0 : goal.parenthesis-returns-then-depth-eq0
parenthesis-returns-then-depth-eq0 t c =
    let opened : c.token-open.result.kind ≡ Sign 40 = c.in-Sign-eq40.is ∙ ap Sign (sym c.in-Sign-eq40.field-0-is ∙ c.in-Sign-eq40.field-0-test) in
    too-deep c.args.labels.text.now (names_of c.args.labels.text.now c.args.labels.starts.now) c.args.labels.addresses.now c.args.at c.args.depth
    c.args.minus c.token-open.result (lexed c.args.labels.text.now _ c.requires.0 c.token-open.ensures) opened c.if-depth-eq0.true

pub parenthesis-joined-requires : goal.parenthesis-joined-requires
parenthesis-joined-requires t c =
    let x = lexed c.args.labels.text.now _ c.requires.0 c.token-open.ensures in
    let y = x.moves (λ q. apart (λ z. omega arith) (sym q ∙ c.in-Sign-eq40.is)) in
    (omega (arith, c.decreases, x.from, x.within), (x.within, c.requires.1, omega arith))

-- what is inside cannot be read
pub parenthesis-returns-in_err-inner : goal.parenthesis-returns-in_err-inner
parenthesis-returns-in_err-inner t c =
    let opened : c.token-open.result.kind ≡ Sign 40 = c.in-Sign-eq40.is ∙ ap Sign (sym c.in-Sign-eq40.field-0-is ∙ c.in-Sign-eq40.field-0-test) in
    rw c.from_residual.ensures (inner-broken c.args.labels.text.now (names_of c.args.labels.text.now c.args.labels.starts.now)
    c.args.labels.addresses.now c.args.at c.args.depth c.args.minus c.token-open.result
    (lexed c.args.labels.text.now _ c.requires.0 c.token-open.ensures) opened (omega arith) c.in_err-inner.ensures)

-- it is not closed
pub parenthesis-returns-in_default-kind : goal.parenthesis-returns-in_default-kind
parenthesis-returns-in_default-kind t c =
    let opened : c.token-open.result.kind ≡ Sign 40 = c.in-Sign-eq40.is ∙ ap Sign (sym c.in-Sign-eq40.field-0-is ∙ c.in-Sign-eq40.field-0-test) in
    not-closed c.args.labels.text.now (names_of c.args.labels.text.now c.args.labels.starts.now) c.args.labels.addresses.now c.args.at c.args.depth
    c.args.minus c.token-open.result (lexed c.args.labels.text.now _ c.requires.0 c.token-open.ensures) opened (omega arith) c.in_ok-inner.ensures
    c.token-close.result (lexed c.args.labels.text.now _ c.in_ok-inner.ensures.within c.token-close.ensures)
    (λ q. c.in_default-kind.field-0-test.1 (c.in_default-kind.field-0-is ∙ sign-is (sym c.in_default-kind.is ∙ q)))

pub parenthesis-returns-in_default-kind-2 : goal.parenthesis-returns-in_default-kind-2
parenthesis-returns-in_default-kind-2 t c =
    let opened : c.token-open.result.kind ≡ Sign 40 = c.in-Sign-eq40.is ∙ ap Sign (sym c.in-Sign-eq40.field-0-is ∙ c.in-Sign-eq40.field-0-test) in
    let unclosed : c.token-close.result.kind ≡ Sign 41 → ⊥ = search rules in
    not-closed c.args.labels.text.now (names_of c.args.labels.text.now c.args.labels.starts.now) c.args.labels.addresses.now c.args.at c.args.depth
    c.args.minus c.token-open.result (lexed c.args.labels.text.now _ c.requires.0 c.token-open.ensures) opened (omega arith) c.in_ok-inner.ensures
    c.token-close.result (lexed c.args.labels.text.now _ c.in_ok-inner.ensures.within c.token-close.ensures) unclosed

-- it is
pub parenthesis-returns : goal.parenthesis-returns
parenthesis-returns t c =
    let opened : c.token-open.result.kind ≡ Sign 40 = c.in-Sign-eq40.is ∙ ap Sign (sym c.in-Sign-eq40.field-0-is ∙ c.in-Sign-eq40.field-0-test) in
    closes c.args.labels.text.now (names_of c.args.labels.text.now c.args.labels.starts.now) c.args.labels.addresses.now c.args.at c.args.depth
    c.args.minus c.token-open.result (lexed c.args.labels.text.now _ c.requires.0 c.token-open.ensures) opened (omega arith) c.in_ok-inner.ensures
    c.token-close.result (lexed c.args.labels.text.now _ c.in_ok-inner.ensures.within c.token-close.ensures)
    (c.in-Sign-eq41.is ∙ ap Sign (sym c.in-Sign-eq41.field-0-is ∙ c.in-Sign-eq41.field-0-test))

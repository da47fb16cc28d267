-- `operand::tokens::word_kind` meets its contract. Assumes nothing.
use Rattle.std.proofs.Common.{◌≡◌, arith, refl, sym, rules, ltb-true, ◌∙◌, length}
use Rattle.operand.specs.Text.{is_digit}
use Rattle.operand.specs.Words.{first, fixed_words, is_fixed, place}
use Rattle.operand.specs.Read.{word_kind}
use Rattle.operand.proofs.Places.{fixed-count}
use Rattle.operand.proofs.Scans.{found-none, found-some}
use Rattle.operand.proofs.tokens.word_kind.Goals as goal

pub returns-then-is_some_and : goal.returns-then-is_some_and
unfolding word_kind
returns-then-is_some_and c = let e : c.is_some_and.result ≡ is_digit (first c.args.word.now) = search rules in
    rw (sym e ∙ c.if-is_some_and.true) refl

pub overflow_cast-result : goal.overflow_cast-result
overflow_cast-result c = let f = found-some fixed_words c.args.word.now (sym c.fixed.ensures ∙ c.in-Some.is) in
    omega (arith, fixed-count, f.1, ltb-true (place fixed_words c.args.word.now) (length fixed_words) f.0)

pub returns-in-Some : goal.returns-in-Some
unfolding word_kind is_fixed
returns-in-Some c = let e : c.is_some_and.result ≡ is_digit (first c.args.word.now) = search rules in
    let f = found-some fixed_words c.args.word.now (sym c.fixed.ensures ∙ c.in-Some.is) in
    rw (sym e ∙ c.if-is_some_and.false, f.0, f.1) refl

pub returns-in-None : goal.returns-in-None
unfolding word_kind is_fixed
returns-in-None c = let e : c.is_some_and.result ≡ is_digit (first c.args.word.now) = search rules in
    let f = found-none fixed_words c.args.word.now (sym c.fixed.ensures ∙ c.in-None.is) in
    rw (sym e ∙ c.if-is_some_and.false, f) refl

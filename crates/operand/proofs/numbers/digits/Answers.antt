-- `operand::numbers::digits` meets its contract. The invariant: the value so far, gone on from with the digits left, is the value of all. Assumes
-- nothing.
use Rattle.std.proofs.Common.{◌≡◌, ℕ, List, arith, ap, drop_of_length-le, le-leb, refl, sym, ◌+◌, ◌*◌, ◌<◌, ◌∙◌}
use Rattle.std.proofs.Math.Option.{some}
use Rattle.operand.specs.Words.{at_most, in_base}
use Rattle.operand.specs.Read.{given}
use Rattle.operand.proofs.Digits.{over-there, over-with}
use Rattle.operand.proofs.numbers.digits.Goals as goal

pub returns-in_err-checked_mul : goal.returns-in_err-checked_mul
returns-in_err-checked_mul c =
    let over : 65535 < c.loop-c.value * c.args.base = omega (arith, c.in_err-checked_mul.ensures) in
    c.from_residual.ensures ∙ sym (ap given (sym c.loop-c.invariant.1
    ∙ over-there c.args.word.now c.loop-c.c-index c.args.base c.loop-c.value (omega arith) over))

pub returns-in_err-value : goal.returns-in_err-value
returns-in_err-value c =
    let mul = c.in_ok-checked_mul.ensures in
    let over : 65535 < c.loop-c.value * c.args.base + c.in_ok-digit_value.field-0 = omega (arith, c.in_err-value.ensures, c.in_ok-checked_mul.ensures) in
    c.from_residual-in_err-value.ensures ∙ sym (ap given (sym c.loop-c.invariant.1
    ∙ over-with c.args.word.now c.loop-c.c-index c.args.base c.loop-c.value (omega arith) c.in_ok-digit_value.field-0 (sym c.in_ok-digit_value.ensures) over))

pub returns : goal.returns
returns c =
    let all : at_most 65535 (in_base c.args.base 0 c.args.word.now) ≡ some c.loop-c.value = sym c.loop-c.invariant.1
    ∙ ap (λ (s : List ℕ). at_most 65535 (in_base c.args.base c.loop-c.value s)) (drop_of_length-le c.args.word.now {i = c.loop-c.c-index} (omega arith))
    ∙ rw (le-leb c.loop-c.value 65535 (omega arith)) refl in
    sym (ap given all)

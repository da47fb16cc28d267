-- `operand::numbers::digit_value` meets its contract. Assumes nothing.
use Rattle.std.proofs.Common.{arith, sym, ◌∙◌}
use Rattle.operand.proofs.Digits.{a_digit, above_digits, below_digits, between_digits, decimal-digit, letter-digit, no-digit}
use Rattle.operand.proofs.numbers.digit_value.Goals.{in-48-to-57, in-65-to-70}
use Rattle.operand.proofs.numbers.digit_value.Goals as goal

pub returns-in_default : goal.returns-in_default
returns-in_default c = below_digits c.args.c c.args.base c.requires (omega arith)

pub returns-in_default-2 : goal.returns-in_default-2
returns-in_default-2 c = between_digits c.args.c c.args.base c.requires (omega arith) (omega arith)

pub returns-in_default-3 : goal.returns-in_default-3
returns-in_default-3 c = above_digits c.args.c c.args.base c.requires (omega arith)

pub returns-then-value-base : goal.returns-then-value-base
returns-then-value-base c = elim c.if-c-lt58.branch [
  | in-48-to-57 w ↦ a_digit c.args.c c.args.base _ (decimal-digit c.args.c (omega arith) (omega arith) ∙ sym w.value-is) (omega arith)
  | in-65-to-70 w ↦ a_digit c.args.c c.args.base _ (letter-digit c.args.c (omega arith) (omega arith) ∙ sym w.value-is) (omega arith)
]

pub returns-else-value-base : goal.returns-else-value-base
returns-else-value-base c = elim c.if-c-lt58.branch [
  | in-48-to-57 w ↦ no-digit c.args.c c.args.base _ (decimal-digit c.args.c (omega arith) (omega arith) ∙ sym w.value-is) (omega arith)
  | in-65-to-70 w ↦ no-digit c.args.c c.args.base _ (letter-digit c.args.c (omega arith) (omega arith) ∙ sym w.value-is) (omega arith)
]

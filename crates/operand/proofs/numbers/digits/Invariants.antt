use Rattle.std.proofs.Common.{◌≡◌, ◌<◌, drop}
use Rattle.operand.specs.Words.{at_most, in_base}
use Rattle.operand.proofs.numbers.digits.Given as goal

abbrev pub invariant-loop-c : goal.invariant-loop-c
invariant-loop-c l =
    (l.value < 65536) × (at_most 65535 (in_base l.base l.value (drop l.c-index l.word)) ≡ at_most 65535 (in_base l.base 0 l.word))

-- The measure of each reader is the remaining depth and the remaining text: a parenthesis takes one of the depth and its sign of the text. What a
-- turn does stands in Turns. Assumes nothing.
use Rattle.std.proofs.Common.{length, ◌+◌, ◌-◌, ◌*◌}
use Rattle.operand.specs.Read.{names_of}
use Rattle.operand.proofs.Turns.{Wanting}
use Rattle.operand.proofs.operands.+joined_parenthesis.Given as goal

abbrev pub decreases-joined : goal.decreases-joined
decreases-joined l = 2 * (l.depth + (length l.labels.text.now - l.at)) + 1

abbrev pub decreases-parenthesis : goal.decreases-parenthesis
decreases-parenthesis l = 2 * (l.depth + (length l.labels.text.now - l.at))

abbrev pub invariant-joined-loop-part : goal.invariant-joined-loop-part
invariant-joined-loop-part l =
    Wanting l.labels.text.now (names_of l.labels.text.now l.labels.starts.now) l.labels.addresses.now l.at l.depth l.minus l.plus l.less l.missing l.taken l.i

abbrev pub decreases-joined-loop-part : goal.decreases-joined-loop-part
decreases-joined-loop-part l = length l.labels.text.now - l.i

-- `operand::operands::operand` meets its contract. Assumes nothing.
use Rattle.std.proofs.Common.{arith}
use Rattle.operand.specs.Read.{names_of}
use Rattle.operand.proofs.Lexing.{lexed}
use Rattle.operand.proofs.Whole.{ends_there, goes_further}
use Rattle.operand.proofs.operands.operand.Goals as goal

pub returns-in-End : goal.returns-in-End
returns-in-End c = ends_there c.args.labels.text.now (names_of c.args.labels.text.now c.args.labels.starts.now) c.args.labels.addresses.now c.args.at
    (omega arith) c.in_ok-sum.ensures (lexed c.args.labels.text.now _ c.in_ok-sum.ensures.within c.token.ensures) c.in-End.is

pub returns-in_default : goal.returns-in_default
returns-in_default c = goes_further c.args.labels.text.now (names_of c.args.labels.text.now c.args.labels.starts.now) c.args.labels.addresses.now c.args.at
    (omega arith) c.in_ok-sum.ensures (lexed c.args.labels.text.now _ c.in_ok-sum.ensures.within c.token.ensures) c.in_default.not-End

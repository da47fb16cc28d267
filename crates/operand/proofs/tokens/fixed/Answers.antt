-- `operand::tokens::fixed` meets its contract: the words of its table are the fixed words. Assumes nothing.
use Rattle.std.proofs.Common.{◌∙◌}
use Rattle.operand.specs.Text.{in_word}
use Rattle.operand.specs.Words.{fixed_words}
use Rattle.operand.specs.Read.{run}
use Rattle.operand.specs.declared.tokens.TheConstants.{FIXED_WORDS}
use Rattle.operand.proofs.Scans.{found}
use Rattle.operand.proofs.tokens.fixed.Goals as goal

pub returns : goal.returns
unfolding fixed_words in_word
returns c = c.place.ensures ∙ found run c.args.word.now FIXED_WORDS

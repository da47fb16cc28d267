-- `assembler::places::line_end` meets its contract. Assumes nothing.
use Rattle.std.proofs.Common.{ℕ, ap, ◌+◌, ◌∙◌}
use Rattle.assembler.proofs.Splitting.{line-stop}
use Rattle.assembler.proofs.places.line_end.Goals as goal

pub returns : goal.returns
returns c = let h = c.line_length.ensures in ap (λ (n : ℕ). c.args.at + n) (c.line_length.ensures ∙ line-stop c.args.at c.args.text.now)

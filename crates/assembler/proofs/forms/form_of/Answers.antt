-- `assembler::forms::form_of` meets its contract: its list is the forms' keys, which antt computes. Assumes nothing.
use Rattle.std.proofs.Common.{◌≡◌, ℕ, eqb}
use Rattle.std.specs.List.{position_from}
use Rattle.mnemonic.specs.Line.{line_of}
use Rattle.operand.specs.Words.{fixed_words, is_fixed}
use Rattle.operand.specs.Read.{sign_kind, word_kind}
use Rattle.assembler.specs.Forms.{forms}
use Rattle.assembler.specs.Shapes.{form_keys}
use Rattle.assembler.proofs.Keys.{place-below, place-is}
use Rattle.assembler.proofs.forms.form_of.Goals as goal

pub returns : goal.returns
unfolding form_keys forms line_of word_kind sign_kind is_fixed fixed_words
returns c = let e : c.place.result ≡ position_from (λ (y : ℕ). eqb y c.args.key) 0 form_keys = c.place.ensures in record {
  number = rw e (place-is c.args.key form_keys);
  below = rw e (place-below c.args.key form_keys);
}

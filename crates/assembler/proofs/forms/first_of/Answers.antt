-- `assembler::forms::first_of` meets its contract: its table's first bytes are the definition's. Assumes nothing.
use Rattle.std.proofs.Common.{ap, ◌∙◌}
use Rattle.assembler.specs.Shapes.{form_number}
use Rattle.assembler.specs.declared.forms.Form.{Form}
use Rattle.assembler.specs.declared.forms.TheConstants.{FORMS}
use Rattle.assembler.proofs.Shaping.{first_at}
use Rattle.assembler.proofs.forms.first_of.Goals as goal

pub returns : goal.returns
returns c = ap (λ (f : Form). f.first) c.row.ensures ∙ first_at FORMS (form_number c.args.form)

-- `assembler::forms::shape_of` meets its contract: its table's shapes are the definition's. Assumes nothing.
use Rattle.std.proofs.Common.{ap, ◌∙◌}
use Rattle.assembler.specs.Shapes.{form_number, shape_number}
use Rattle.assembler.specs.declared.forms.Form.{Form}
use Rattle.assembler.specs.declared.forms.TheConstants.{FORMS}
use Rattle.assembler.proofs.Shaping.{number_at}
use Rattle.assembler.proofs.forms.shape_of.Goals as goal

pub returns : goal.returns
returns c = ap (λ (f : Form). shape_number f.shape) c.row.ensures ∙ number_at FORMS (form_number c.args.form)

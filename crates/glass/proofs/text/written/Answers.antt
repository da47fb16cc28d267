-- `glass::text::written` meets its contract.
use Rattle.std.proofs.Common.{arith}
use Rattle.glass.proofs.Texts.{short}
use Rattle.glass.proofs.text.written.Goals as goal

pub overflow_mul-result : goal.overflow_mul-result
overflow_mul-result c = let h = short _ _ _ c.requires c.if-figure.true c.digits-text.ensures.bound in record { fits = omega (arith, h) }

pub overflow_add-result : goal.overflow_add-result
overflow_add-result c = let h = short _ _ _ c.requires c.if-figure.true c.digits-text.ensures.bound in record { fits = omega (arith, h) }

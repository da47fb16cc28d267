-- `bound::bound::bound_of` meets its contract: nothing is found before the walk, and its number is the answer. Assumes nothing.
use mathlib.Core.Path.{sym, subst, ◌∙◌}
use native.Mathlib.Omega.{arith}
use Rattle.std.specs.Prelude.{Ok}
use Rattle.checker.specs.Marks.{pair}
use Rattle.checker.proofs.Lengths.{mask-sized}
use Rattle.bound.specs.Bounds.{BoundAnswers}
use Rattle.bound.specs.declared.bound.Bound.{Bound}
use Rattle.bound.proofs.Answers.{marked}
use Rattle.bound.proofs.Turn.{fresh, fresh-left}
use Rattle.bound.proofs.bound.bound_of.Goals as goal

pub longest-requires : goal.longest-requires
longest-requires c =
    record { in_range = (c.if-address-ge-ADDRESSES.false, fresh-left); on_the_way = fresh c.args.mask.now _ }

pub returns : goal.returns
returns c =
    let p = c.in_ok-mark_passed.ensures in
    subst (λ (b : Bound). BoundAnswers c.args.mask.now (pair c.args.address c.args.level) (Ok b)) (sym c.told.ensures)
    (marked c.args.mask.now c.mark_passed.new.marks c.args.address c.args.level (mask-sized c.args.mask.now c.in_ok-check_mask.ensures) c.if-address-ge-ADDRESSES.false
    (omega (arith, c.if-level-gt2.false)) p.0 p.1 c.if-level-eq0.false (sym c.is_marked.ensures ∙ c.if-not-is_marked.false) c.longest.result c.longest.ensures.told)

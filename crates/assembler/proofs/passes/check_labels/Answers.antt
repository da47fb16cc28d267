-- `assembler::passes::check_labels` meets its contract. What a turn does stands in Checking. Assumes nothing.
use lib.Seq.{length-take-le}
use Rattle.std.proofs.Common.{arith, refl, sym, ◌∙◌}
use Rattle.operand.proofs.Texts.{differ}
use Rattle.assembler.proofs.Checking.{check-on, checked, checks, is-wrong}
use Rattle.assembler.proofs.Turning.{counted, on, one-most, turn}
use Rattle.assembler.proofs.Walking.{shown-all, walk-few, walk-held, walk-readable}
use Rattle.assembler.proofs.passes.check_labels.Goals as goal

pub loop-place-init : goal.loop-place-init
loop-place-init c =
    let n = c.new-place-items.ensures in
    rw (c.into_iter-place-iterator.ensures.into_iter_gives, n.1) (n.0, turn _ (checks c.args.labels.text.now c.args.labels.starts.now c.args.labels.addresses.now _ c.requires))

pub slice_bounds-above-end : goal.slice_bounds-above-end
slice_bounds-above-end c = let g = c.loop-place.invariant.1.here c.in-Some.ensures.steps.0 in
    sym (length-take-le c.loop-place.count c.args.labels.starts.now (walk-held g.walk c.requires))

-- the first pass has read every line
pub unreachable-requires : goal.unreachable-requires
unreachable-requires c = let g = c.loop-place.invariant.1.here c.in-Some.ensures.steps.0 in
    differ (walk-readable g.walk (shown-all c.args.labels.starts.now c.in_default.ensures))

pub returns-then-mislabels-clause-line : goal.returns-then-mislabels-clause-line
returns-then-mislabels-clause-line c = let g = c.loop-place.invariant.1.here c.in-Some.ensures.steps.0 in
    is-wrong c.requires g (shown-all c.args.labels.starts.now c.in-Some-read_line.ensures) (sym c.mislabels.ensures ∙ c.if-mislabels.true)

pub returns-then-mislabels-clause-refusal : goal.returns-then-mislabels-clause-refusal
returns-then-mislabels-clause-refusal c = let g = c.loop-place.invariant.1.here c.in-Some.ensures.steps.0 in (refl, g.walk.some_number)

pub loop-place-preserved : goal.loop-place-preserved
loop-place-preserved c =
    let t = c.in-Some.ensures.steps in
    let g = c.loop-place.invariant.1.here t.0 in
    let x = shown-all c.args.labels.starts.now c.in-Some-read_line.ensures in
    let right = sym c.mislabels.ensures ∙ c.if-mislabels.false in
    (t.1 ∙ c.loop-place.invariant.0, on c.loop-place.invariant.0 t.0 t.2 g.walk.within (checked c.requires g x right) (check-on c.requires g x right _ (counted c.loop-place.count c.from-count.ensures c.is_some.ensures)))

pub overflow_add-count : goal.overflow_add-count
overflow_add-count c = let g = c.loop-place.invariant.1.here c.in-Some.ensures.steps.0 in
    omega (arith, walk-few g.walk c.requires, c.requires.room, c.requires.most, one-most c.is_some.result c.from-count.ensures)

-- `assembler::passes::check_values` meets its contract. What a turn does stands in Settling. Assumes nothing.
use lib.Seq.{length-take-le}
use Rattle.std.proofs.Common.{ap, arith, refl, sym, ◌∙◌}
use Rattle.operand.proofs.Texts.{differ}
use Rattle.assembler.specs.Program.{end, misfit, program, start}
use Rattle.assembler.specs.Shapes.{shape_number, size_in}
use Rattle.assembler.proofs.Settling.{goes, going-most, going_on, misfit-is}
use Rattle.assembler.proofs.Turning.{counted, on, one-most, turn}
use Rattle.assembler.proofs.Walking.{shown-all, walk-clear, walk-few, walk-found, walk-held, walk-past, walk-readable}
use Rattle.assembler.proofs.passes.check_values.Goals as goal

pub loop-place-init : goal.loop-place-init
loop-place-init c =
    let n = c.new-place-items.ensures in
    rw (c.into_iter-place-iterator.ensures.into_iter_gives, n.1) (n.0, turn _ (record { s = start; going = goes c.requires; found = refl }))

pub slice_bounds-above-end : goal.slice_bounds-above-end
slice_bounds-above-end c = let g = c.loop-place.invariant.1.here c.in-Some.ensures.steps.0 in
    sym (length-take-le c.loop-place.count c.args.labels.starts.now (walk-held g.going.walk c.requires.settled))

-- the first pass has read every line
pub unreachable-requires : goal.unreachable-requires
unreachable-requires c = let g = c.loop-place.invariant.1.here c.in-Some.ensures.steps.0 in
    differ (walk-readable g.going.walk (shown-all c.args.labels.starts.now c.in_default.ensures))

pub misfits-requires : goal.misfits-requires
misfits-requires c = let g = c.loop-place.invariant.1.here c.in-Some.ensures.steps.0 in
    let m = going-most c.requires g.going (shown-all c.args.labels.starts.now c.in-Some-read_line.ensures) c.address_of-here.result c.size_of-size.result
    c.address_of-here.ensures (c.size_of-size.ensures ∙ ap size_in c.shape_of-shape.ensures) in (m.0, m.1)

pub returns-then-misfits-clause-line : goal.returns-then-misfits-clause-line
returns-then-misfits-clause-line c = let g = c.loop-place.invariant.1.here c.in-Some.ensures.steps.0 in
    walk-found g.going.walk (misfit (end start (program c.args.labels.text.now))) g.found
    (misfit-is c.requires g.going (shown-all c.args.labels.starts.now c.in-Some-read_line.ensures) c.address_of-here.result c.size_of-size.result
    c.address_of-here.ensures (c.size_of-size.ensures ∙ ap size_in c.shape_of-shape.ensures) (shape_number c.shape_of-shape.result)
    c.shape_of-shape.ensures ∙ sym c.misfits.ensures ∙ c.if-misfits.true)

pub returns-then-misfits-clause-refusal : goal.returns-then-misfits-clause-refusal
returns-then-misfits-clause-refusal c = let g = c.loop-place.invariant.1.here c.in-Some.ensures.steps.0 in (refl, g.going.walk.some_number)

pub overflow_add-count : goal.overflow_add-count
overflow_add-count c = let g = c.loop-place.invariant.1.here c.in-Some.ensures.steps.0 in omega
    (arith, walk-few g.going.walk c.requires.settled, c.requires.settled.room, c.requires.settled.most, one-most c.is_some.result c.from-count.ensures)

pub overflow_add-address : goal.overflow_add-address
overflow_add-address c = let g = c.loop-place.invariant.1.here c.in-Some.ensures.steps.0 in
    omega (
      arith,
      (going-most c.requires g.going (shown-all c.args.labels.starts.now c.in-Some-read_line.ensures) c.address_of-here.result
          c.size_of-size.result c.address_of-here.ensures (c.size_of-size.ensures ∙ ap size_in c.shape_of-shape.ensures)).2,
    )

pub loop-place-preserved : goal.loop-place-preserved
loop-place-preserved c =
    let t = c.in-Some.ensures.steps in
    let g = c.loop-place.invariant.1.here t.0 in
    let x = shown-all c.args.labels.starts.now c.in-Some-read_line.ensures in
    let size = c.size_of-size.ensures ∙ ap size_in c.shape_of-shape.ensures in
    let fits = misfit-is c.requires g.going x c.address_of-here.result c.size_of-size.result c.address_of-here.ensures size
    (shape_number c.shape_of-shape.result) c.shape_of-shape.ensures ∙ sym c.misfits.ensures ∙ c.if-misfits.false in
    let bad = misfit (end start (program c.args.labels.text.now)) in (
      t.1 ∙ c.loop-place.invariant.0,
      on c.loop-place.invariant.0 t.0 t.2 g.going.walk.within (walk-clear g.going.walk bad g.found fits)
          (λ h. record {
            s = _;
            going = going_on c.requires g.going x _ _ c.address_of-here.ensures size _ (counted c.loop-place.count c.from-count.ensures c.is_some.ensures) h;
            found = walk-past g.going.walk bad g.found fits h;
          }),
    )

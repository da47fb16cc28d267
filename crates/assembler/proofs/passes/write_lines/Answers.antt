-- `assembler::passes::write_lines` meets its contract. What a turn does stands in Settling. Assumes nothing.
use lib.Seq.{length-take-le}
use mathlib.Core.Path.{refl, sym, ap, ◌∙◌}
use native.Mathlib.Omega.{arith}
use Rattle.assembler.specs.Program.{end, misfit, program, start}
use Rattle.assembler.specs.Shapes.{shape_number, size_in}
use Rattle.assembler.proofs.Settling.{goes, going-most, going_on, put_last, put_on}
use Rattle.assembler.proofs.Turning.{counted, on, one-most, turn}
use Rattle.operand.proofs.Texts.{differ}
use Rattle.assembler.proofs.Walking.{shown-all, walk-few, walk-held, walk_none, walk-past, walk-readable}
use Rattle.assembler.proofs.passes.write_lines.Goals as goal

pub loop-place-init : goal.loop-place-init
loop-place-init c =
    let n = c.new-place-items.ensures in
    rw (c.into_iter-place-iterator.ensures.into_iter_gives, n.1)
    (n.0, turn _ (record { s = start; going = goes c.requires.placed; found = refl; whole = refl }), refl)

pub slice_bounds-above-end : goal.slice_bounds-above-end
slice_bounds-above-end c = let g = c.loop-place.invariant.1.here c.in-Some.ensures.steps.0 in
    sym (length-take-le c.loop-place.count c.args.labels.starts.now (walk-held g.going.walk c.requires.placed.settled))

-- the first pass has read every line
pub unreachable-requires : goal.unreachable-requires
unreachable-requires c = let g = c.loop-place.invariant.1.here c.in-Some.ensures.steps.0 in
    differ (walk-readable g.going.walk (shown-all c.args.labels.starts.now c.in_default.ensures))

pub store-requires : goal.store-requires
store-requires c = let g = c.loop-place.invariant.1.here c.in-Some.ensures.steps.0 in
    omega (
      arith,
      c.requires.sized,
      c.loop-place.invariant.2,
      c.bytes_of.ensures.1,
      c.size_of-size.ensures,
      (going-most c.requires.placed g.going (shown-all c.args.labels.starts.now c.in-Some-read_line.ensures) c.address_of-here.result
          c.size_of-size.result c.address_of-here.ensures (c.size_of-size.ensures ∙ ap size_in c.shape_of-shape.ensures)).2,
    )

pub overflow_add-count : goal.overflow_add-count
overflow_add-count c = let g = c.loop-place.invariant.1.here c.in-Some.ensures.steps.0 in
    let z = c.requires.placed.settled in
    omega (arith, walk-few g.going.walk z, z.room, z.most, one-most c.is_some.result c.from-count.ensures)

pub overflow_add-address : goal.overflow_add-address
overflow_add-address c = let g = c.loop-place.invariant.1.here c.in-Some.ensures.steps.0 in
    omega (
      arith,
      (going-most c.requires.placed g.going (shown-all c.args.labels.starts.now c.in-Some-read_line.ensures) c.address_of-here.result
          c.size_of-size.result c.address_of-here.ensures (c.size_of-size.ensures ∙ ap size_in c.shape_of-shape.ensures)).2,
    )

pub loop-place-preserved : goal.loop-place-preserved
loop-place-preserved c =
    let t = c.in-Some.ensures.steps in
    let g = c.loop-place.invariant.1.here t.0 in
    let x = shown-all c.args.labels.starts.now c.in-Some-read_line.ensures in
    let size = c.size_of-size.ensures ∙ ap size_in c.shape_of-shape.ensures in
    let bad = misfit (end start (program c.args.labels.text.now)) in
    let fits = walk_none g.going.walk bad g.found c.requires.fits in (
      t.1 ∙ c.loop-place.invariant.0,
      on c.loop-place.invariant.0 t.0 t.2 g.going.walk.within
          (λ e. sym (g.whole ∙ put_last c.requires.placed g.going x _ _ c.address_of-here.ensures size fits c.bytes_of.result
          (shape_number c.shape_of-shape.result) c.first_of.result c.value_of.result c.shape_of-shape.ensures c.first_of.ensures c.value_of.ensures c.bytes_of.ensures.0 _ _ c.store.ensures e))
          (λ h. record {
            s = _;
            going = going_on c.requires.placed g.going x _ _ c.address_of-here.ensures size _ (counted c.loop-place.count c.from-count.ensures c.is_some.ensures) h;
            found = walk-past g.going.walk bad g.found fits h;
            whole = g.whole ∙ put_on c.requires.placed g.going x _ _ c.address_of-here.ensures size fits c.bytes_of.result
                (shape_number c.shape_of-shape.result) c.first_of.result c.value_of.result c.shape_of-shape.ensures c.first_of.ensures c.value_of.ensures c.bytes_of.ensures.0 _ _ c.store.ensures h;
          }),
      c.store.auto.out ∙ c.loop-place.invariant.2,
    )

-- `assembler::passes::place_lines` meets its contract. What a turn does stands in Placing. Assumes nothing.
use mathlib.Core.Bool.{Bool}
use lib.Seq.{length-take-le}
use Rattle.isa.specs.Choice.{pick}
use Prim.Native.Nat.{◌+◌}
use mathlib.Core.Path.{refl, sym, ap, ◌∙◌}
use native.Mathlib.Omega.{arith}
use Rattle.assembler.specs.Shapes.{size_in}
use Rattle.assembler.proofs.Placing.{crowded, end-most, here-most, label-room, place-on, placed, places, same-room, stray}
use Rattle.assembler.proofs.Turning.{noting, on, same_some, turn, where_and}
use Rattle.operand.proofs.Texts.{differ}
use Rattle.assembler.proofs.Walking.{walk-held, walk-readable}
use Rattle.assembler.proofs.passes.place_lines.Goals as goal

pub loop-place-init : goal.loop-place-init
loop-place-init c =
    let n = c.new-place-items.ensures in
    rw (c.into_iter-place-iterator.ensures.into_iter_gives, n.1)
    (n.0, turn _ (places c.args.text.now c.args.starts.now c.args.addresses.now c.args.used.now _ c.requires.settled c.requires.unused), refl)

pub slice_bounds-above-end : goal.slice_bounds-above-end
slice_bounds-above-end c = let g = c.loop-place.invariant.1.here c.in-Some.ensures.steps.0 in
    sym (length-take-le c.loop-place.count c.args.starts.now (walk-held g.walk g.settled))

-- the first pass has read every line
pub unreachable-requires : goal.unreachable-requires
unreachable-requires c = let g = c.loop-place.invariant.1.here c.in-Some.ensures.steps.0 in differ (walk-readable g.walk c.in_default.ensures)

pub returns-then-strays-clause-line : goal.returns-then-strays-clause-line
returns-then-strays-clause-line c = let g = c.loop-place.invariant.1.here c.in-Some.ensures.steps.0 in
    stray g c.in-Some-read_line.ensures (sym c.strays.ensures ∙ c.if-strays.true)

pub returns-then-strays-clause-placed : goal.returns-then-strays-clause-placed
returns-then-strays-clause-placed c z = let g = c.loop-place.invariant.1.here c.in-Some.ensures.steps.0 in
    let p = g.walk.some_number in absurd (omega (arith, z))

pub returns-then-strays-clause-refusal : goal.returns-then-strays-clause-refusal
returns-then-strays-clause-refusal c = let g = c.loop-place.invariant.1.here c.in-Some.ensures.steps.0 in (refl, g.walk.some_number)

pub free-requires : goal.free-requires
free-requires c = let g = c.loop-place.invariant.1.here c.in-Some.ensures.steps.0 in
    let m = here-most g c.in-Some-read_line.ensures (sym c.strays.ensures ∙ c.if-strays.false) c.address_of-here.result c.size_of-size.result
    c.address_of-here.ensures (c.size_of-size.ensures ∙ ap size_in c.shape_of.ensures) in (g.flag-count, m.0, m.1)

pub returns-then-not-free-clause-line : goal.returns-then-not-free-clause-line
returns-then-not-free-clause-line c = let g = c.loop-place.invariant.1.here c.in-Some.ensures.steps.0 in
    crowded g c.in-Some-read_line.ensures (sym c.strays.ensures ∙ c.if-strays.false) c.address_of-here.result c.size_of-size.result
    c.address_of-here.ensures (c.size_of-size.ensures ∙ ap size_in c.shape_of.ensures) (sym c.free.ensures ∙ c.if-not-free.true)

pub returns-then-not-free-clause-placed : goal.returns-then-not-free-clause-placed
returns-then-not-free-clause-placed c z = let g = c.loop-place.invariant.1.here c.in-Some.ensures.steps.0 in
    let p = g.walk.some_number in absurd (omega (arith, z))

pub returns-then-not-free-clause-refusal : goal.returns-then-not-free-clause-refusal
returns-then-not-free-clause-refusal c = let g = c.loop-place.invariant.1.here c.in-Some.ensures.steps.0 in (refl, g.walk.some_number)

pub note-count-requires : goal.note-count-requires
note-count-requires c = let g = c.loop-place.invariant.1.here c.in-Some.ensures.steps.0 in
    where_and _ _ c.in-Some-read_line.l.label c.and.ensures
    (label-room g c.in-Some-read_line.ensures (sym c.strays.ensures ∙ c.if-strays.false) c.address_of-here.result c.size_of-size.result
    c.address_of-here.ensures (c.size_of-size.ensures ∙ ap size_in c.shape_of.ensures) (sym c.free.ensures ∙ c.if-not-free.false))

pub mark-requires : goal.mark-requires
mark-requires c = let g = c.loop-place.invariant.1.here c.in-Some.ensures.steps.0 in
    omega (
      arith,
      g.flag-count,
      end-most g c.in-Some-read_line.ensures (sym c.strays.ensures ∙ c.if-strays.false) c.address_of-here.result c.size_of-size.result
          c.address_of-here.ensures (c.size_of-size.ensures ∙ ap size_in c.shape_of.ensures) (sym c.free.ensures ∙ c.if-not-free.false),
    )

pub overflow_add-address : goal.overflow_add-address
overflow_add-address c = let g = c.loop-place.invariant.1.here c.in-Some.ensures.steps.0 in
    omega (
      arith,
      end-most g c.in-Some-read_line.ensures (sym c.strays.ensures ∙ c.if-strays.false) c.address_of-here.result c.size_of-size.result
          c.address_of-here.ensures (c.size_of-size.ensures ∙ ap size_in c.shape_of.ensures) (sym c.free.ensures ∙ c.if-not-free.false),
    )

pub loop-place-preserved : goal.loop-place-preserved
loop-place-preserved c =
    let t = c.in-Some.ensures.steps in
    let g = c.loop-place.invariant.1.here t.0 in
    let x = c.in-Some-read_line.ensures in
    let label = c.in-Some-read_line.l.label in
    let inside = sym c.strays.ensures ∙ c.if-strays.false in
    let size = c.size_of-size.ensures ∙ ap size_in c.shape_of.ensures in
    let free = sym c.free.ensures ∙ c.if-not-free.false in
    let noted = noting _ _ _ label c.and.ensures c.note-count.ensures.0 in
    let counts = c.note-count.ensures.1 ∙ ap (λ (b : Bool). pick b (c.loop-place.count + 1) c.loop-place.count) (same_some _ label c.and.ensures) in (
      t.1 ∙ c.loop-place.invariant.0,
      on c.loop-place.invariant.0 t.0 t.2 g.walk.within
          (λ e. let p = placed g x inside _ _ c.address_of-here.ensures size free _ _ _ noted counts c.mark.ensures e in (p.0, p.1 refl))
          (place-on g x inside _ _ c.address_of-here.ensures size free _ _ _ noted counts c.mark.ensures),
      same-room g x inside _ _ c.address_of-here.ensures size free _ _ _ noted counts c.mark.ensures
          ∙ c.loop-place.invariant.2,
    )

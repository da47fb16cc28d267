-- `assembler::passes::read_lines` meets its contract. What a turn does stands in Collecting. Assumes nothing.
use Rattle.std.proofs.Common.{refl, ◌∙◌}
use native.Mathlib.Omega.{arith}
use Rattle.assembler.proofs.Collecting.{begin, collected, label-place, read_next, unreadable-line}
use Rattle.assembler.proofs.Turning.{on, turn, where_some}
use Rattle.assembler.proofs.passes.read_lines.Goals as goal

pub loop-place-init : goal.loop-place-init
loop-place-init c =
    let n = c.new-place-items.ensures in rw (c.into_iter-place-iterator.ensures.into_iter_gives, n.1) (n.0, turn _ (begin c.args.text.now c.args.starts.now c.requires.1))

pub returns-in_default-clause-collected : goal.returns-in_default-clause-collected
returns-in_default-clause-collected c =
    unreadable-line c.requires.0 (c.loop-place.invariant.1.here c.in-Some.ensures.steps.0) c.in_default.ensures refl _ refl

pub loop-place-preserved : goal.loop-place-preserved
loop-place-preserved c =
    let t = c.in-Some.ensures.steps in
    let g = c.loop-place.invariant.1.here t.0 in
    let x = c.in-Some-read_line.ensures in
    let n = c.note-count.ensures in (
      t.1 ∙ c.loop-place.invariant.0,
      on c.loop-place.invariant.0 t.0 t.2 g.within
          (collected c.requires.0 g x refl _ _ n.0 n.1) (read_next c.requires.0 g x refl _ _ n.0 n.1),
    )

pub returns-in_default-clause-refusal : goal.returns-in_default-clause-refusal
returns-in_default-clause-refusal c = (refl, (c.loop-place.invariant.1.here c.in-Some.ensures.steps.0).some_number)

pub note-count-requires : goal.note-count-requires
note-count-requires c = where_some _ c.in-Some-read_line.l.label
    (λ l. let p = label-place c.requires.0 (c.loop-place.invariant.1.here c.in-Some.ensures.steps.0) c.in-Some-read_line.ensures refl l in (p.0, omega (arith, p.1, c.requires.0)))

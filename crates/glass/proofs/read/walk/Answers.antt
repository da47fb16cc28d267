-- `glass::read::walk` meets its contract.
use Rattle.std.proofs.Common.{ℕ, ◌+◌, sym, ap, subst, ◌∙◌, arith, Ok}
use Rattle.std.specs.Iterator.Adapters.{enumerate_source, enumerate_count}
use Rattle.std.specs.Slice.Iter.{chunks_exact_rest, chunks_exact_size}
use Rattle.glass.specs.Reading.{SeenAnswers}
use Rattle.glass.specs.declared.Reading.{Reading}
use Rattle.glass.proofs.Turns.{at-first, given, turn_on, small, answer-off, answer-end}
use Rattle.glass.proofs.read.walk.Goals as goal

pub loop-k-init : goal.loop-k-init
loop-k-init c =
    let source = ap enumerate_source c.into_iter-k-iterator.ensures.into_iter_gives ∙ c.enumerate-k-items.ensures.source in (
      at-first _ _ _ c.requires (ap chunks_exact_rest source ∙ c.chunks_exact.ensures.rest) (ap enumerate_count c.into_iter-k-iterator.ensures.into_iter_gives ∙ c.enumerate-k-items.ensures.count),
      ap chunks_exact_size source ∙ c.chunks_exact.ensures.size,
    )

pub step-requires : goal.step-requires
step-requires c =
    let s = c.in-Some.ensures.steps in
    let i = c.loop-k.invariant in
    small _ _ _ _ _ _ (given _ _ _ _ c.in-Some.k _ _ i.0 s.0.1.0 (s.0.1.1 ∙ i.1) s.1)

pub returns-in_default : goal.returns-in_default
returns-in_default c =
    let s = c.in-Some.ensures.steps in
    let i = c.loop-k.invariant in
    answer-off _ _ _ _ _ _ _ c.requires (given _ _ _ _ c.in-Some.k _ _ i.0 s.0.1.0 (s.0.1.1 ∙ i.1) s.1) c.step.ensures c.in_default.is

pub loop-k-preserved : goal.loop-k-preserved
loop-k-preserved c =
    let s = c.in-Some.ensures.steps in
    let i = c.loop-k.invariant in (
      turn_on _ _ _ _ _ _ _ _ _ (given _ _ _ _ c.in-Some.k _ _ i.0 s.0.1.0 (s.0.1.1 ∙ i.1) s.1) c.step.ensures c.in-Some-step.is (s.2 ∙ ap (λ (n : ℕ). n + 1) (sym s.1)),
      s.0.0 ∙ i.1,
    )

pub returns : goal.returns
returns c =
    let i = c.loop-k.invariant in
    let none = c.in-None.ensures.steps.0.1.0 in
    subst (λ (r : Reading). SeenAnswers c.args.picture.now (Ok r)) (sym c.told.ensures) (answer-end _ _ _ _ c.requires i.0 (omega (arith, none, i.1)))

-- `checker::check::check` meets its contract: the two refusals are the two tests, and the answer follows from what the walk found, the
-- marks that were written and what is named. Assumes nothing.
use mathlib.Core.Path.{◌≡◌, refl, sym, subst}
use borrow.Author.Tests.{eq-eqb, ne_eqb}
use borrow.Author.Rules.{rules}
use Rattle.std.specs.Prelude.{Ok}
use Rattle.checker.specs.Verdicts.{marks_size, number_of, Answers}
use Rattle.checker.specs.declared.check.Verdict.{Verdict}
use Rattle.checker.specs.declared.check.Verdict.TheVariants.{Passed, Failed}
use Rattle.checker.proofs.Answer.{answered}
use Rattle.checker.proofs.Lengths.{mask-sized}
use Rattle.checker.proofs.check.check.Goals as goal

-- a verdict is not refused
accepted : (v : Verdict) → number_of (Ok v) ≡ 0
accepted Passed = refl
accepted (Failed f a l) = refl

pub returns-then-marks-ne-MARKS : goal.returns-then-marks-ne-MARKS
returns-then-marks-ne-MARKS c =
    let full = mask-sized c.args.mask.now c.in_ok-check_mask.ensures in
    record { answers = search (rules, full); result_value = rw (full, ne_eqb _ marks_size c.if-marks-ne-MARKS.true) refl }

pub returns : goal.returns
returns c =
    let full = mask-sized c.args.mask.now c.in_ok-check_mask.ensures in
    record {
      answers = subst (λ (v : Verdict). Answers c.args.mask.now c.args.marks.now c.pack.new.marks (Ok v)) (sym c.judge.ensures)
          (answered c.args.mask.now c.run-named.new.self.seen c.run-named.ensures.found c.run-named.result c.run-named.ensures.names c.args.marks.now c.pack.new.marks full
          c.if-marks-ne-MARKS.false c.pack.ensures);
      result_value = rw (full, eq-eqb _ marks_size c.if-marks-ne-MARKS.false) (accepted c.judge.result);
    }

-- What the number of a verdict says: 0 is passed alone, since a fault is not 0; `ht1130_check` has one answer, `ht1130_bound` one number, and
-- `ht1130_way` one, which for a list that holds a way through every pair is not 11. Assumes nothing.
use Prim.Native.Nat.{ℕ, ◌+◌, ◌*◌, ◌^◌, ◌≤◌}
use native.Mathlib.Omega.{arith}
use mathlib.Core.Path.{◌≡◌, sym, ap, subst, ◌∙◌}
use mathlib.Core.List.{List}
use Rattle.checker.specs.Verdicts.{Answers}
use Rattle.checker.specs.declared.check.Verdict.{Verdict}
use Rattle.checker.specs.declared.check.Verdict.TheVariants.{Passed, Failed}
use Rattle.checker.specs.Ways.{Lists, WayAnswers, WayRefused}
use Rattle.std.specs.Prelude.{Result, Ok, Err, cond, eqb}
use Rattle.refusals.specs.Numbers.{number_of}
use Rattle.refusals.specs.declared.Refusal.{Refusal}
use Rattle.refusals.specs.declared.Refusal.TheVariants as R
use Rattle.refusals.proofs.Numbers.{not_zero}
use Rattle.checker.proofs.Answer.{answers-determine}
use Rattle.checker.proofs.Ways.{way-determines, never-too-short}
use Rattle.bound.specs.Bounds.{BoundAnswers}
use Rattle.bound.specs.declared.bound.Bound.{Bound}
use Rattle.bound.specs.declared.bound.Bound.TheVariants.{NotReached, NoBound, Cycles}
use Rattle.bound.proofs.Answers.{bound-determines}
use Rattle.ht1130_tools.specs.Numbers.{Checks, ChecksDetermine, verdict_number, WaysDetermine, WayLengthDoes, way_number, BoundsDetermine, BoundReads, bound_number}

pub passed : (mask old marks : List ℕ) → Checks mask old marks 0 → Answers mask old marks (Ok Passed)
passed mask old marks c = go c.verdict c.answers c.number
  where
    go : (v : Result Verdict Refusal) → Answers mask old marks v → 0 ≡ verdict_number v → Answers mask old marks (Ok Passed)
    go (Ok Passed) w e = w
    go (Ok (Failed f a l)) w e = absurd (w.1.not-zero (omega (arith, e)))
    go (Err r) w e = absurd (not_zero r (sym e))

pub checks-determine : ChecksDetermine
checks-determine mask old new other r q c d =
    let same = answers-determine mask old new other c.verdict d.verdict c.answers d.answers in
    (c.number ∙ ap verdict_number same.0 ∙ sym d.number, same.1)

pub ways-determine : WaysDetermine
ways-determine mask old new other r q x y =
    x.number ∙ ap way_number (way-determines mask old new other x.listing y.listing x.answers y.answers) ∙ sym y.number

pub bounds-determine : BoundsDetermine
bounds-determine mask p r q x y =
    x.number ∙ ap bound_number (bound-determines mask p x.bound y.bound x.answers y.answers) ∙ sym y.number

-- no refusal has a number over 16
small : (r : Refusal) → number_of r ≤ 16
small R.Mask = omega arith
small _ = omega arith

pub bound-reads : BoundReads
bound-reads mask p n b = go b.bound b.answers b.number
  where
    go : (x : Result Bound Refusal) → BoundAnswers mask p x → 2 * 2 ^ 8 + n * 2 ^ 32 ≡ bound_number x → BoundAnswers mask p (Ok (Cycles n))
    go (Ok NotReached) a e = absurd (omega (arith, e))
    go (Ok NoBound) a e = absurd (omega (arith, e))
    go (Ok (Cycles k)) a e =
        let same : k ≡ n = omega (arith, e) in subst (λ (k : ℕ). BoundAnswers mask p (Ok (Cycles k))) same a
    go (Err r) a e = absurd (omega (arith, e, small r))

pub way-length-does : WayLengthDoes
way-length-does mask old new r bytes h w e = go w.listing w.answers (sym w.number ∙ e)
  where
    go : (v : Result ℕ Refusal) → WayAnswers mask old new v → way_number v ≡ 11 → ⊥
    go (Ok n) a e = omega (arith, e)
    go (Err q) a e =
        never-too-short mask old bytes h (subst (λ (n : ℕ). cond (eqb n 0) (Lists mask old new 0) (WayRefused mask old n × (new ≡ old))) e a).0

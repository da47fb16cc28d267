-- `script::check::first` meets its contract. The loop's invariant: the records to come are those from an offset on, and the first bad record
-- from it on is the first of all. Assumes nothing.
use Prim.Native.Nat.{ℕ}
use mathlib.Core.Path.{sym, ap, ap₂, ◌∙◌}
use mathlib.Core.List.{List}
use Rattle.refusals.proofs.Numbers.{not_zero}
use Rattle.script.specs.Check.{refused}
use Rattle.records.specs.Records.{end_at}
use Rattle.std.specs.Prelude.{Err}
use Rattle.records.specs.Places.{place}
use Rattle.records.proofs.Offsets.{turned, ended}
use Rattle.script.proofs.Checks.{first-end, first-bad, first_good}
use Rattle.script.proofs.check.first.Goals as goal

pub returns-in-Err : goal.returns-in-Err
returns-in-Err g c number tells =
    let i = c.loop-record.invariant in
    let t = turned c.args.script.now i.0 (place c.in-Some.record) _ (sym i.1 ∙ c.in-Some.ensures.steps) in
    let at = ap (λ (p : List ℕ × ℕ). p.1) t.1 in
    let e = tells c.in-Some.record (Err c.in-Err.refusal) c.in-Err.ensures (ap (λ (p : List ℕ × ℕ). p.0) t.1) ∙ ap number at in
    ap₂ refused e at ∙ sym (i.2 number tells ∙ first-bad number c.args.script.now i.0 t.0 (λ z. not_zero c.in-Err.refusal (e ∙ z)))

pub loop-record-preserved : goal.loop-record-preserved
loop-record-preserved g c =
    let i = c.loop-record.invariant in
    let t = turned c.args.script.now i.0 (place c.in-Some.record) _ (sym i.1 ∙ c.in-Some.ensures.steps) in (
      end_at c.args.script.now i.0,
      t.2,
      λ number tells.
          i.2 number tells
          ∙ first_good number c.args.script.now i.0 t.0
          (sym (tells c.in-Some.record _ c.in_default.ensures (ap (λ (p : List ℕ × ℕ). p.0) t.1) ∙ ap number (ap (λ (p : List ℕ × ℕ). p.1) t.1))),
    )

pub returns : goal.returns
returns g c number tells =
    let i = c.loop-record.invariant in
    sym (i.2 number tells ∙ first-end number c.args.script.now i.0 (ended c.args.script.now i.0 (sym i.1 ∙ c.in-None.ensures.steps.0)))

-- `script::apply::put_reports` meets its contract. The loop's invariant: the records to come are those from an offset on, where `Held` holds of
-- the machine that the parts make. Assumes nothing.
use Prim.Native.Nat.{ℕ}
use mathlib.Core.Path.{sym, ap, subst, ◌∙◌}
use mathlib.Core.List.{List}
use native.Mathlib.Omega.{arith}
use borrow.Author.Rules.{rules}
use Rattle.cpu.specs.State.{state}
use Rattle.machine.specs.Machine.{machine_of, trace_of}
use Rattle.machine.specs.Events.{Input, answer_to}
use Rattle.machine.specs.declared.Machine.{Machine}
use Rattle.records.specs.Records.{end_at}
use Rattle.records.specs.Places.{place}
use Rattle.records.proofs.Offsets.{turned, ended}
use Rattle.script.specs.Format.{input_at}
use Rattle.script.specs.Reports.{next}
use Rattle.script.proofs.Turn.{Held, begins, ends, fits, well, turns}
use Rattle.script.proofs.apply.put_reports.Goals as goal

pub loop-raw-init : goal.loop-raw-init
loop-raw-init c = (
  0,
  search (rules, c.new-raw-items.ensures),
  subst (λ (m : Machine). Held c.args.mask.now c.args.script.now c.args.out.now c.args.out.now 0 0 m) (sym c.blank-blank.ensures)
      (begins c.args.mask.now c.args.script.now c.args.out.now (λ k. omega (arith, c.type_inv.mask k)) c.requires),
)

pub pass-cpu-requires : goal.pass-cpu-requires
pass-cpu-requires c =
    let i = c.loop-raw.invariant in
    let m = machine_of (state c.loop-raw.cpu c.loop-raw.memory) (trace_of c.loop-raw.gap) in
    let t = turned c.args.script.now i.0 (place c.in-Some.raw) _ (sym i.1 ∙ c.in-Some.ensures.steps) in
    ap (λ (i : Input). (answer_to c.args.mask.now i m).refusal) (c.read.ensures ∙ ap (λ (p : List ℕ × ℕ). input_at p.0 p.1) t.1)
    ∙ well c.args.mask.now c.args.script.now c.args.out.now c.loop-raw.out i.0 c.loop-raw.done m i.2 t.0

pub put_report-requires : goal.put_report-requires
put_report-requires c =
    let i = c.loop-raw.invariant in
    let m = machine_of (state c.loop-raw.cpu c.loop-raw.memory) (trace_of c.loop-raw.gap) in
    let t = turned c.args.script.now i.0 (place c.in-Some.raw) _ (sym i.1 ∙ c.in-Some.ensures.steps) in
    fits c.args.mask.now c.args.script.now c.args.out.now c.loop-raw.out i.0 c.loop-raw.done m i.2 t.0

pub overflow_add-done : goal.overflow_add-done
overflow_add-done c =
    let i = c.loop-raw.invariant in
    let m = machine_of (state c.loop-raw.cpu c.loop-raw.memory) (trace_of c.loop-raw.gap) in
    let t = turned c.args.script.now i.0 (place c.in-Some.raw) _ (sym i.1 ∙ c.in-Some.ensures.steps) in
    let f = fits c.args.mask.now c.args.script.now c.args.out.now c.loop-raw.out i.0 c.loop-raw.done m i.2 t.0 in
    omega (arith, f, i.2.size, c.well_formed)

pub loop-raw-preserved : goal.loop-raw-preserved
loop-raw-preserved c =
    let i = c.loop-raw.invariant in
    let m = machine_of (state c.loop-raw.cpu c.loop-raw.memory) (trace_of c.loop-raw.gap) in
    let after = machine_of (state c.pass-cpu.result c.pass-cpu.new.memory) (trace_of c.pass-cpu.new.gap) in
    let t = turned c.args.script.now i.0 (place c.in-Some.raw) _ (sym i.1 ∙ c.in-Some.ensures.steps) in
    let e = c.read.ensures ∙ ap (λ (p : List ℕ × ℕ). input_at p.0 p.1) t.1 in (
      end_at c.args.script.now i.0,
      t.2,
      turns c.args.mask.now c.args.script.now c.args.out.now c.loop-raw.out i.0 c.loop-raw.done m i.2 t.0 after c.put_report.new.out
          (c.pass-cpu.ensures ∙ ap (λ (i : Input). next c.args.mask.now i m) e) (c.put_report.ensures (trace_of c.pass-cpu.new.gap)),
    )

pub shape_of-out : goal.shape_of-out
shape_of-out c = c.loop-raw.invariant.2.size

pub returns : goal.returns
returns c =
    let i = c.loop-raw.invariant in
    let m = machine_of (state c.loop-raw.cpu c.loop-raw.memory) (trace_of c.loop-raw.gap) in
    ends c.args.mask.now c.args.script.now c.args.out.now c.loop-raw.out i.0 c.loop-raw.done m i.2
    (ended c.args.script.now i.0 (sym i.1 ∙ c.in-None.ensures.steps.0))

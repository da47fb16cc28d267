-- `checker::walk::Walk::run` meets its contract. The loop's invariant is the walk's with the start of each turn, `Tracing`, and the lowest forbidden
-- code so far, `NamingOf`; the measure is how many places of the queue stand at the head and after it. Assumes nothing.
use Prim.Native.Nat.{ℕ, ◌+◌, ◌≤◌}
use mathlib.Core.Path.{◌≡◌, refl, sym, ap, subst, ◌∙◌}
use native.Mathlib.Omega.{arith}
use mathlib.Core.List.{List}
use lib.ListN.{get_or}
use Rattle.std.specs.Prelude.{Some}
use Rattle.reach.specs.Walk.{work, pushed_all, Small}
use Rattle.reach.proofs.Count.{after-set}
use Rattle.reach.proofs.Turn.{found}
use Rattle.reach.proofs.Trace.{Tracing, begins, trace-turn, turn-same, all-traced}
use Rattle.checker.specs.Walk.{pairs, next_codes, fault_at}
use Rattle.checker.specs.declared.walk.Named.{Named}
use Rattle.checker.proofs.Reach.{codes-small}
use Rattle.checker.proofs.Naming.{NamingOf, naming-kept, naming-lowered, naming-over}
use Rattle.checker.proofs.walk.Walk.run.Goals as goal

pub loop-head-init : goal.loop-head-init
loop-head-init c = (
  begins pairs (next_codes c.args.mask.now) (omega arith) c.args.self.now.seen c.args.self.now.queue c.args.self.now.starts c.requires.0 c.requires.1 c.requires.2,
  λ j h. absurd (omega arith),
)

pub overflow_cast-at : goal.overflow_cast-at
overflow_cast-at c = omega (arith, c.loop-head.invariant.0.walking.core.room.left)

-- only the first turn starts at place 0, where one code is found
pub invariant_of-self-in-loop-head : goal.invariant_of-self-in-loop-head
invariant_of-self-in-loop-head c =
    let t = c.loop-head.invariant.0 in
    record {
      opens = after-set (λ (v : ℕ). v ≤ 1) c.loop-head.self.starts c.loop-head.head 0 c.loop-head.tail (omega (arith, t.size, t.walking.core.room.left))
          (λ e. let one = t.alone (sym e) in omega arith) (λ n. c.loop-head.self.opens);
    }

pub push_all-tail-requires : goal.push_all-tail-requires
push_all-tail-requires c =
    let small = codes-small c.args.mask.now (λ k. omega (arith, c.type_inv.mask k)) _ in
    record { small = subst (Small pairs) (sym c.in-Ok.ensures.result_value) small; room = c.loop-head.invariant.0.walking.core.room }

pub overflow_add-head : goal.overflow_add-head
overflow_add-head c = omega (arith, c.loop-head.invariant.0.walking.core.room.left)

pub loop-head-smaller-in-Ok : goal.loop-head-smaller-in-Ok
loop-head-smaller-in-Ok c = omega (arith, c.loop-head.invariant.0.walking.core.room.left)

pub loop-head-smaller : goal.loop-head-smaller
loop-head-smaller c = omega (arith, c.loop-head.invariant.0.walking.core.room.left)

pub loop-head-preserved-in-Ok : goal.loop-head-preserved-in-Ok
loop-head-preserved-in-Ok c =
    let next = next_codes c.args.mask.now in
    let w = work c.loop-head.self.seen c.loop-head.self.queue c.loop-head.tail in
    let v = work c.push_all-tail.new.self.seen c.push_all-tail.new.self.queue c.push_all-tail.result in
    let e : v ≡ pushed_all w (next (get_or c.loop-head.self.queue c.loop-head.head 0)) = c.push_all-tail.ensures.found ∙ ap (pushed_all w) c.in-Ok.ensures.result_value in
    let small = codes-small c.args.mask.now (λ k. omega (arith, c.type_inv.mask k)) in (
      subst (λ (b : List ℕ). Tracing pairs next v b (c.loop-head.head + 1)) (sym c.push_all-tail.ensures.starts_kept)
          (trace-turn pairs next (omega arith) small w v c.loop-head.self.starts c.loop-head.head e c.loop-head.invariant.0 c.loop-head-test.true),
      naming-kept next (fault_at c.args.mask.now) c.loop-head.self.queue c.push_all-tail.new.self.queue c.loop-head.head
          (turn-same pairs next (omega arith) small w v c.loop-head.self.starts c.loop-head.head e c.loop-head.invariant.0 c.loop-head-test.true)
          c.loop-head.named c.loop-head.invariant.1 c.in-Ok.ensures.faults,
    )

-- a forbidden pair hands nothing on
pub loop-head-preserved : goal.loop-head-preserved
unfolding pushed_all
loop-head-preserved c =
    let next = next_codes c.args.mask.now in
    let bad = fault_at c.args.mask.now in
    let here = get_or c.loop-head.self.queue c.loop-head.head 0 in
    let w = work c.loop-head.self.seen c.loop-head.self.queue c.loop-head.tail in
    let e : w ≡ pushed_all w (next here) = ap (pushed_all w) c.in-Err.ensures.result_value in
    let small = codes-small c.args.mask.now (λ k. omega (arith, c.type_inv.mask k)) in
    let f = c.in-Err.ensures.faults in (
      trace-turn pairs next (omega arith) small w w c.loop-head.self.starts c.loop-head.head e c.loop-head.invariant.0 c.loop-head-test.true,
      subst (λ (m : Named). NamingOf next bad c.loop-head.self.queue (c.loop-head.head + 1) (Some m)) (sym c.lower.ensures)
          (naming-lowered next bad c.loop-head.self.queue c.loop-head.self.queue c.loop-head.head (λ j h. refl) c.loop-head.named c.loop-head.invariant.1
          (c.loop-head.invariant.0.walking.core.held c.loop-head.head c.loop-head-test.true) c.in-Err.fault f.0 f.1),
    )

pub returns : goal.returns
returns c =
    let next = next_codes c.args.mask.now in
    let bad = fault_at c.args.mask.now in
    let small = codes-small c.args.mask.now (λ k. omega (arith, c.type_inv.mask k)) in
    let all = found pairs next (omega arith) small (work c.loop-head.self.seen c.loop-head.self.queue c.loop-head.tail) c.loop-head.head c.loop-head.invariant.0.walking c.loop-head-test.false in record {
      found = all;
      traced = all-traced pairs next c.loop-head.self.seen c.loop-head.self.queue c.loop-head.self.starts c.loop-head.head c.loop-head.tail c.loop-head.invariant.0 c.loop-head-test.false;
      names = naming-over c.args.mask.now c.loop-head.self.seen c.loop-head.self.queue c.loop-head.head c.loop-head.tail all
          c.loop-head.invariant.0.walking.core.stands c.loop-head-test.false c.loop-head.named c.loop-head.invariant.1;
    }

-- The count over whole lists. One by one and stopping at 65,535, it is the lesser of 65,535 and the number; and the trace decides nothing else.
-- Assumes nothing.
use Prim.Native.Nat.{ℕ, zero, suc, ◌+◌, ◌≤◌}
use mathlib.Core.Path.{◌≡◌, refl, sym, ap, ◌∙◌}
use mathlib.Core.Bool.{Bool, true, false}
use mathlib.Core.List.{List, [], ◌∷◌}
use native.Mathlib.Nat.{add-zero, zero-add}
use native.Mathlib.Omega.{arith}
use lib.Dec.{ltb, eqb}
use borrow.Author.Tests.{ltb-true, ltb-false}
use Rattle.std.specs.Prelude.{Some, None, Result, Ok, Err}
use Rattle.refusals.specs.declared.Refusal.{Refusal}
use Rattle.refusals.specs.declared.Refusal.TheVariants.{Range}
use Rattle.isa.specs.Choice.{pick}
use Rattle.datapath.specs.Memory.{tallied}
use Rattle.datapath.proofs.Tally.{tallied-add}
use Rattle.cpu.specs.Gap.{strays_in}
use Rattle.cpu.specs.Run.{yielded}
use Rattle.cpu.specs.Range.{valid}
use Rattle.machine.specs.Machine.{state_of}
use Rattle.machine.specs.Power.{answered, power_refusal, powered, power_on}
use Rattle.machine.specs.Events.{happened, refusal_of, applied, Input, power, named, answer_to, Call, steps_of, after}
use Rattle.machine.specs.Report.{report}
use Rattle.machine.specs.Gap.{since, gap_accesses_after, gap_accesses, lesser, GapCounted, CountGoesOn, with_trace, TraceAside}
use Rattle.machine.specs.declared.Machine.{Machine}
use Rattle.machine.specs.declared.Trace.{Trace}
use Rattle.machine.specs.declared.events.Event.{Event}
use Rattle.machine.specs.declared.events.Event.TheVariants.{Run, Pins, Int, Tmclk, Res}
use Rattle.machine.proofs.Lists.{session-after, powered-on, property2}

-- ---- the lesser of 65,535 and a number
below : (n : ℕ) → n ≤ 65535 → lesser 65535 n ≡ n
below n h = go (ltb 65535 n) refl
  where
    go : (t : Bool) → ltb 65535 n ≡ t → pick t 65535 n ≡ n
    go true e = absurd (omega (arith, ltb-true 65535 n e))
    go false e = refl

above : (n : ℕ) → 65535 ≤ n → lesser 65535 n ≡ 65535
above n h = go (ltb 65535 n) refl
  where
    go : (t : Bool) → ltb 65535 n ≡ t → pick t 65535 n ≡ 65535
    go true e = refl
    go false e = omega (arith, ltb-false 65535 n e)

-- a count that has not passed it: one more of n and one, and then all n
one_more : (n count : ℕ) → count ≤ 65535 → (t : Bool) → ltb count 65535 ≡ t
    → (pick t (count + 1) count ≤ 65535) × (lesser 65535 (pick t (count + 1) count + n) ≡ lesser 65535 (count + suc n))
one_more n count h true e = (omega (arith, ltb-true count 65535 e), ap (lesser 65535) (next count n))
  where
    next : (a b : ℕ) → a + 1 + b ≡ a + suc b
    next a b = omega arith
one_more n count h false e =
    let full = ltb-false count 65535 e in
    (h, above (count + n) (omega (arith, full)) ∙ sym (above (count + suc n) (omega (arith, full))))

tallied-lesser : (n count : ℕ) → count ≤ 65535 → tallied count n ≡ lesser 65535 (count + n)
unfolding tallied
tallied-lesser zero count h = sym (below count h) ∙ ap (lesser 65535) (sym (add-zero count))
tallied-lesser (suc n) count h =
    let p = one_more n count h (ltb count 65535) refl in
    tallied-lesser n (pick (ltb count 65535) (count + 1) count) p.0 ∙ p.1

-- n, counted from 0
from-0 : (n : ℕ) → tallied 0 n ≡ lesser 65535 n
from-0 n = tallied-lesser n 0 (omega arith) ∙ ap (lesser 65535) (zero-add n)

-- ---- each input, on a machine that has counted n
module _ (n : ℕ) where
  -- an answer is the new machine where nothing is refused, and the old one otherwise
  answered-counts : (r a : ℕ) (new old : Machine) → new.trace.gap ≡ tallied 0 a → old.trace.gap ≡ tallied 0 n → (answered r new old).machine.trace.gap ≡ tallied 0 (pick (eqb r 0) a n)
  answered-counts r a new old p q = go (eqb r 0)
    where
      go : (t : Bool) → (pick t new old).trace.gap ≡ tallied 0 (pick t a n)
      go true = p
      go false = q

  module _ (mask : List ℕ) (m : Machine) (e : m.trace.gap ≡ tallied 0 n) where
    none : m.trace.gap ≡ tallied 0 (n + 0)
    none = e ∙ ap (tallied 0) (sym (add-zero n))

    happened-counts : (k : Event) → (happened mask k m).trace.gap ≡ tallied 0 (n + strays_in mask (steps_of (named (Some k))) (state_of m))
    unfolding happened steps_of yielded
    happened-counts (Run r) = ap (λ (x : ℕ). tallied x (strays_in mask r (state_of m))) e ∙ tallied-add 0 n (strays_in mask r (state_of m))
    happened-counts (Pins pm ps pp) = none
    happened-counts (Int level) = none
    happened-counts (Tmclk r) = none
    happened-counts Res = none

    input-counts : (i : Input) → (answer_to mask i m).machine.trace.gap ≡ tallied 0 (pick (eqb (answer_to mask i m).refusal 0) (since i n + strays_in mask (steps_of i) (state_of m)) n)
    unfolding power_on applied steps_of yielded powered tallied
    input-counts (power o image) = answered-counts (power_refusal o image) 0 (powered o image) m refl e
    input-counts (named (Some k)) = answered-counts (refusal_of mask k m) _ (happened mask k m) m (happened-counts k) e
    input-counts (named None) = answered-counts (pick (valid (state_of m)) 7 5) (n + 0) m m none e

-- ---- every list
list_counts : (ks : List Call) (n : ℕ) (m : Machine) → m.trace.gap ≡ tallied 0 n → (after ks m).trace.gap ≡ tallied 0 (gap_accesses_after n ks m)
unfolding after gap_accesses_after
list_counts [] n m e = e
list_counts (k ∷ ks) n m e = list_counts ks _ (answer_to k.mask k.input m).machine (input-counts n k.mask m e k.input)

pub count-goes-on : CountGoesOn
count-goes-on calls m h = list_counts calls m.trace.gap m (sym (from-0 m.trace.gap ∙ below m.trace.gap h)) ∙ from-0 (gap_accesses_after m.trace.gap calls m)

pub gap-counted : GapCounted
unfolding powered
gap-counted options image before start e z calls last bytes s =
    let p = powered-on options image before start e z in
    let first = powered options image in
    let q : last ≡ after calls first = session-after start.machine last calls s ∙ ap (after calls) p.1 in
    let v : valid (state_of last) ≡ true = (property2 options image before start e z calls last bytes s).in-range in
    let counts : last.trace.gap ≡ lesser 65535 (gap_accesses calls first) = ap (λ (m : Machine). m.trace.gap) q ∙ count-goes-on calls first (omega arith) in
    record {
      counts = counts;
      answers = ap (λ (t : Bool). pick {A = Result ℕ Refusal} t (Ok last.trace.gap) (Err Range)) v ∙ ap (λ (x : ℕ). Ok x) counts;
    }

-- ---- what the trace does not decide
same : (t : Bool) (new new' old old' : Machine) → state_of new' ≡ state_of new → state_of old' ≡ state_of old → state_of (pick t new' old') ≡ state_of (pick t new old)
same true new new' old old' p q = p
same false new new' old old' p q = q

module _ (t : Trace) (mask : List ℕ) (m : Machine) where
  happened-same : (e : Event) → state_of (happened mask e (with_trace t m)) ≡ state_of (happened mask e m)
  unfolding happened
  happened-same (Run r) = refl
  happened-same (Pins pm ps pp) = refl
  happened-same (Int level) = refl
  happened-same (Tmclk r) = refl
  happened-same Res = refl

  refusal-same : (i : Input) → (answer_to mask i (with_trace t m)).refusal ≡ (answer_to mask i m).refusal
  unfolding power_on applied refusal_of
  refusal-same (power o image) = refl
  refusal-same (named (Some e)) = refl
  refusal-same (named None) = refl

  state-same : (i : Input) → state_of (answer_to mask i (with_trace t m)).machine ≡ state_of (answer_to mask i m).machine
  unfolding power_on applied refusal_of
  state-same (power o image) = same (eqb (power_refusal o image) 0) (powered o image) (powered o image) m (with_trace t m) refl refl
  state-same (named (Some e)) = same (eqb (refusal_of mask e m) 0) (happened mask e m) (happened mask e (with_trace t m)) m (with_trace t m) (happened-same e) refl
  state-same (named None) = same (eqb (pick (valid (state_of m)) 7 5) 0) m (with_trace t m) m (with_trace t m) refl refl

pub trace-aside : TraceAside
unfolding report
trace-aside = record {
  reports = λ t m out. refl;
  refusals = λ t mask i m. refusal-same t mask m i;
  states = λ t mask i m. state-same t mask m i;
}

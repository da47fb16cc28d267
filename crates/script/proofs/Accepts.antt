-- In an accepted script every record is accepted by the machine: the first is a power-on that is not refused, and from a machine in
-- range every record leads to one in range. Assumes nothing.
use Prim.Native.Nat.{ℕ, ◌+◌, ◌<◌}
use native.Mathlib.Omega.{arith}
use mathlib.Core.Path.{◌≡◌, refl, sym, ap, subst, ◌∙◌}
use mathlib.Core.Bool.{Bool, true, false}
use mathlib.Core.List.{List, [], ◌∷◌, map}
use lib.Dec.{eqb}
use lib.ListN.{length}
use borrow.Author.Tests.{eq-eqb, eqb-true, eqb-false}
use Rattle.std.specs.Prelude.{Option, Some, None}
use Rattle.isa.specs.Choice.{pick}
use Rattle.cpu.specs.Range.{nibbles, options_ok, valid}
use Rattle.rom.specs.Fetching.{Bytes, sized}
use Rattle.machine.specs.Machine.{state_of}
use Rattle.machine.specs.Power.{blank, powered, power_refusal, power_on}
use Rattle.machine.specs.Events.{Input, power, named, event_of, mask_ok, values_ok, refusal_of, applied, answer_to}
use Rattle.machine.specs.declared.events.Event.{Event}
use Rattle.machine.specs.declared.events.Event.TheVariants.{Run, Pins, Int, Tmclk, Res}
use Rattle.machine.proofs.Lists.{powered-valid, input-valid}
use Rattle.cpu.specs.declared.Options.{Options}
use Rattle.machine.specs.declared.Machine.{Machine}
use Rattle.records.specs.Records.{size_at, kind_at, payload_at, offsets_from}
use Rattle.script.specs.Format.{options_at, filled, size_of, input_at, inputs}
use Rattle.script.specs.Check.{format_at, first, value_of, choice_of, checked, value_at, choice_at}
use Rattle.script.specs.Reports.{next}
use Rattle.records.proofs.Offsets.{from_next, each}
use Rattle.records.proofs.Formats.{unknown-size, whole}
use Rattle.script.proofs.Checks.{accepted, first-bad, first_good}

-- where the first bad record is none, the record at the front is good, and so are those after it
module _ (rule : ℕ → ℕ) (s : List ℕ) (at : ℕ) (h : at < length s) (e : (first rule (offsets_from s at)).number ≡ 0) where
  pub good-here : rule at ≡ 0
  good-here = go (eqb (rule at) 0) refl
    where
      go : (t : Bool) → eqb (rule at) 0 ≡ t → rule at ≡ 0
      go true p = eqb-true (rule at) 0 p
      go false p = sym (ap (λ k. k.number) (first-bad rule s at h (eqb-false (rule at) 0 p))) ∙ e

  pub good-after : (first rule (offsets_from s (at + 4 + size_at s at))).number ≡ 0
  good-after = sym (ap (λ k. k.number) (first_good rule s at h good-here)) ∙ e

-- a script whose first record has kind 1 has a byte
pub not-empty : (s : List ℕ) → kind_at s 0 ≡ 1 → 0 < length s
not-empty [] e = absurd (omega arith)
not-empty (x ∷ s) e = omega arith

-- values and options that pass the check are those that a power-on accepts
pub power-accepted : (o : Options) (image : List ℕ) → length image ≡ 166 → value_of (power o image) ≡ 0
    → choice_of (power o image) ≡ 0 → power_refusal o image ≡ 0
unfolding value_of choice_of power_refusal
power-accepted o image l v k = rw (eq-eqb (length image) 166 l) (go (nibbles image) (options_ok o) v k)
  where
    go : (a b : Bool) → ◌≡◌ {A = ℕ} (pick a 0 3) 0 → ◌≡◌ {A = ℕ} (pick b 0 4) 0 → ◌≡◌ {A = ℕ} (pick a (pick b 0 4) 3) 0
    go true true p q = refl
    go true false p q = q
    go false b p q = p

power-machine : (o : Options) (image : List ℕ) (m : Machine) → power_refusal o image ≡ 0 → (power_on o image m).machine ≡ powered o image
unfolding power_on
power-machine o image m e = rw (eq-eqb (power_refusal o image) 0 e) refl

first-power : (s : List ℕ) → kind_at s 0 ≡ 1 → input_at s 0 ≡ power (options_at s 0) (filled (payload_at s 0 5))
unfolding input_at
first-power s e = rw e refl

-- the first record of an accepted script is a power-on that is not refused, and the machine after it is in range
module _ (mask s : List ℕ) (room : ℕ) (e : (checked mask s room).number ≡ 0) where
  first-accepted : power_refusal (options_at s 0) (filled (payload_at s 0 5)) ≡ 0
  first-accepted =
      let a = accepted mask s room e in
      let n = not-empty s a.start in
      let i = first-power s a.start in
      power-accepted (options_at s 0) (filled (payload_at s 0 5)) refl
      (sym (ap value_of i) ∙ good-here (value_at s) s 0 n a.values)
      (sym (ap choice_of i) ∙ good-here (choice_at s) s 0 n a.choices)

  pub first-valid : valid (state_of (next mask (input_at s 0) blank)) ≡ true
  first-valid =
      ap (λ (j : Input). valid (state_of (next mask j blank))) (first-power s (accepted mask s room e).start)
      ∙ ap (λ (m : Machine). valid (state_of m)) (power-machine (options_at s 0) (filled (payload_at s 0 5)) blank first-accepted)
      ∙ powered-valid (options_at s 0) (filled (payload_at s 0 5)) first-accepted

  first_taken : (answer_to mask (input_at s 0) blank).refusal ≡ 0
  unfolding power_on
  first_taken = ap (λ (j : Input). (answer_to mask j blank).refusal) (first-power s (accepted mask s room e).start) ∙ first-accepted

-- ---- every record
-- each input in turn is accepted
pub data Taken (mask : List ℕ) : List Input → Machine → Type 0 where
  none : {m : Machine} → Taken mask [] m
  more : {m : Machine} (i : Input) {is : List Input} → (answer_to mask i m).refusal ≡ 0 → Taken mask is (next mask i m) → Taken mask (i ∷ is) m

-- with a mask of its length every event has the mask that it wants
masked : (mask : List ℕ) → sized mask ≡ true → (e : Event) → mask_ok mask e ≡ true
unfolding mask_ok
masked mask l (Run n) = l
masked mask l (Pins pm ps pp) = refl
masked mask l (Int level) = refl
masked mask l (Tmclk n) = refl
masked mask l Res = refl

fine : (t : Bool) → ◌≡◌ {A = ℕ} (pick t 0 3) 0 → t ≡ true
fine true e = refl
fine false e = absurd (omega arith)

-- an event whose values pass the check is refused by nothing
event-accepted : (mask : List ℕ) → sized mask ≡ true → (e : Event) (m : Machine) → value_of (named (Some e)) ≡ 0 → valid (state_of m) ≡ true → (applied mask e m).refusal ≡ 0
unfolding value_of applied refusal_of
event-accepted mask l e m v w = rw (masked mask l e, fine (values_ok e) v, w) refl

-- what a record's check has shown of its input: the image of a power-on has its 166 nibbles, and another kind is known
abbrev Formed : Input → Type 0
Formed (power o image) = length image ≡ 166
Formed (named (Some e)) = Unit {0}
Formed (named None) = ⊥

formed-at : (s : List ℕ) (at : ℕ) → format_at s at ≡ 0 → Formed (input_at s at)
unfolding format_at input_at
formed-at s at f = go (eqb (kind_at s at) 1) (event_of _ _ _ _ _) (whole (size_of (input_at s at)) s at f).right-size
  where
    go : (t : Bool) (n : Option Event) {m : ℕ} → size_of (pick t (power (options_at s at) (filled (payload_at s at 5))) (named n)) ≡ Some m
        → Formed (pick t (power (options_at s at) (filled (payload_at s at 5))) (named n))
    go true n e = refl
    go false (Some e) q = tt
    go false None q = absurd (unknown-size q)

input-accepted : (mask : List ℕ) → sized mask ≡ true → (i : Input) (m : Machine) → Formed i → value_of i ≡ 0 → choice_of i ≡ 0
    → valid (state_of m) ≡ true → (answer_to mask i m).refusal ≡ 0
unfolding power_on
input-accepted mask l (power o image) m z v k w = power-accepted o image z v k
input-accepted mask l (named (Some e)) m z v k w = event-accepted mask l e m v w
input-accepted mask l (named None) m z v k w = absurd z

module _ (mask s : List ℕ) (b : Bytes mask) where
  -- from an offset on, where neither values nor options are refused
  abbrev Rest : ℕ → List ℕ → Type 0
  Rest at l =
      (m : Machine) → valid (state_of m) ≡ true → (first (format_at s) (offsets_from s at)).number ≡ 0
      → (first (value_at s) (offsets_from s at)).number ≡ 0 → (first (choice_at s) (offsets_from s at)).number ≡ 0
      → Taken mask (map (input_at s) l) m

  rest-taken : sized mask ≡ true → (at : ℕ) → Rest at (offsets_from s at)
  rest-taken l =
      each s Rest
      (λ at h m v f p q. none)
      (λ at h back m v f p q.
      more (input_at s at)
      (input-accepted mask l (input_at s at) m (formed-at s at (good-here (format_at s) s at h f)) (good-here (value_at s) s at h p) (good-here (choice_at s) s at h q) v)
      (back (next mask (input_at s at) m) (input-valid mask b (input_at s at) m v) (good-after (format_at s) s at h f) (good-after (value_at s) s at h p) (good-after (choice_at s) s at h q)))

  -- no record of an accepted script is refused
  pub all-taken : (room : ℕ) → (checked mask s room).number ≡ 0 → Taken mask (inputs s) blank
  unfolding inputs
  all-taken room e =
      let a = accepted mask s room e in
      let h = not-empty s a.start in
      subst (λ (k : List ℕ). Taken mask (map (input_at s) k) blank) (sym (from_next s 0 h))
      (more (input_at s 0) (first_taken mask s room e)
      (rest-taken a.mask_size (0 + 4 + size_at s 0) (next mask (input_at s 0) blank) (first-valid mask s room e)
      (good-after (format_at s) s 0 h a.format) (good-after (value_at s) s 0 h a.values) (good-after (choice_at s) s 0 h a.choices)))

-- Property 3: an accepted power-on gives what every input keeps (Kept.antt), so every list does; of the reached pairs it says that the fault is 0
-- and that the pair is reached, and the checker's marks are the reached pairs. That the machine is the one that the rules give is demand 2
-- (`session-after`). Assumes nothing.
use Prim.Native.Nat.{ℕ}
use mathlib.Core.Path.{◌≡◌, refl, sym, ap, subst, ◌∙◌}
use mathlib.Core.Bool.{Bool, true, false, ◌&&◌}
use mathlib.Core.List.{List, [], ◌∷◌}
use lib.Dec.{eqb}
use Rattle.std.specs.Prelude.{Some, None}
use Rattle.isa.specs.Choice.{pick}
use Rattle.cpu.specs.Range.{valid}
use Rattle.cpu.specs.declared.Options.{Options}
use Rattle.datapath.specs.Timer.{counted}
use Rattle.machine.specs.Machine.{state_of}
use Rattle.machine.specs.Power.{reset, powered, power_refusal, answered, power_on}
use Rattle.machine.specs.Events.{woken, wakes, pinned, interrupted, clocked, counting, happened, refusal_of, applied, Input, power, named, answer_to, Call, after, Every, UnderMask}
use Rattle.machine.specs.declared.Machine.{Machine}
use Rattle.machine.specs.declared.events.Event.{Event}
use Rattle.machine.specs.declared.events.Event.TheVariants.{Run, Pins, Int, Tmclk, Res}
use Rattle.machine.proofs.Lists.{session-after, powered-on}
use Rattle.reach.proofs.Chains.{reached-start}
use Rattle.cpu.proofs.Leaves.{Standing, standing, same-pick, counting-same}
use Rattle.guarantee.specs.Property3.{Property3}
use Rattle.guarantee.proofs.Kept.{Confines, Kept, Keeps, start-kept, ran-kept, ReachedAt, safe-confines, kept-marked}

module _ (R : ℕ → ℕ → Type 0) (begins : R 0 0) where
  -- power-on and RES: address 0, main
  powered-kept : (options : Options) (image : List ℕ) → Keeps R (powered options image).cpu
  unfolding powered
  powered-kept options image = start-kept R begins

  reset-kept : (m : Machine) → Keeps R (reset m).cpu
  reset-kept m = start-kept R begins

  -- pins, INT and TMCLK change nothing of where it stands
  same_kept : {s t : Standing} → t ≡ s → Kept R s → Kept R t
  same_kept e = subst (Kept R) (sym e)

  happened-kept : (given : List ℕ) (e : Event) → ((n : ℕ) → e ≡ Run n → Confines given R) → (m : Machine) → Keeps R m.cpu → Keeps R (happened given e m).cpu
  unfolding happened pinned interrupted counting
  happened-kept given (Run n) u m = ran-kept given R (u n refl) n (state_of m)
  happened-kept given (Pins pm ps pp) u m = same_kept (same-pick (wakes pm ps pp m.cpu) m.cpu (woken m.cpu) m.cpu refl refl)
  happened-kept given (Int level) u m = same_kept (same-pick (eqb m.cpu.pins.int 1 && eqb level 0) m.cpu (woken m.cpu) m.cpu refl refl)
  happened-kept given (Tmclk n) u m = same_kept (counting-same (clocked m.cpu) (counted m.cpu.timer.count n) m.cpu)
  happened-kept given Res u m = λ k. reset-kept m

  -- a refused input leaves the machine
  answered-kept : (n : ℕ) (new old : Machine) → Keeps R new.cpu → Keeps R old.cpu → Keeps R (answered n new old).machine.cpu
  answered-kept n new old p q = go (eqb n 0)
    where
      go : (t : Bool) → Keeps R (pick t new old).cpu
      go true = p
      go false = q

  pub input-kept : (given : List ℕ) (i : Input) → ((n : ℕ) → i ≡ named (Some (Run n)) → Confines given R) → (m : Machine) → Keeps R m.cpu
      → Keeps R (answer_to given i m).machine.cpu
  unfolding power_on applied
  input-kept given (power options image) u m k = answered-kept (power_refusal options image) (powered options image) m (powered-kept options image) k
  input-kept given (named (Some e)) u m k =
      answered-kept (refusal_of given e m) (happened given e m) m (happened-kept given e (λ n p. u n (ap (λ (x : Event). named (Some x)) p)) m k) k
  input-kept given (named None) u m k = answered-kept (pick (valid (state_of m)) 7 5) m m k k

  after_kept : (mask : List ℕ) → Confines mask R → (ks : List Call) → Every (UnderMask mask) ks → (m : Machine) → Keeps R m.cpu → Keeps R (after ks m).cpu
  unfolding after
  after_kept mask confines [] u m k = k
  after_kept mask confines (c ∷ ks) u m k =
      after_kept mask confines ks u.1 (answer_to c.mask c.input m).machine
      (input-kept c.mask c.input (λ n e. subst (λ (given : List ℕ). Confines given R) (sym (u.0 n e)) confines) m k)

pub property3 : Property3
property3 mask old marks options image first start given calls last under session =
    let R = ReachedAt mask in
    let confines = safe-confines mask given.passed.1 in
    let begun = (powered-on options image first start given.powering given.accepted).1 in
    let ended : last ≡ after calls (powered options image) = session-after start.machine last calls session ∙ ap (after calls) begun in
    let kept : Keeps R last.cpu =
    subst (λ (m : Machine). Keeps R m.cpu) (sym ended)
    (after_kept R reached-start mask confines calls under (powered options image) (powered-kept R reached-start options image)) in
    record { state = ended; no-fault = kept.no-fault; marked = kept-marked mask marks given.bytes given.passed.0.marked (standing last.cpu) kept }

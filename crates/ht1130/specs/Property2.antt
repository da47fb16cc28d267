-- Property 2, by document 01's rules as document 02 changes them, for a host that lends one machine record: "Each gets the machine that the one
-- before returned or left in the lent record". `ht1130_power_on` promises `left r exit ≡ power_on ..` and `ht1130_apply` promises
-- `left r exit ≡ hosted ..`, and a `Lending` is a list of such calls, each on the record that the one before left. Assumes nothing.
use Rattle.std.specs.Prelude.{ℕ, ◌≡◌, List, [], ◌∷◌}
use Rattle.rom.specs.Fetching.{Bytes}
use Rattle.machine.specs.Power.{power_on}
use Rattle.machine.specs.Events.{Input, power, named, event_of, Call, Every}
use Rattle.machine.specs.Property2.{Ruled}
use Rattle.machine.specs.declared.Machine.{Machine}
use Rattle.ht1130.specs.Lent.{left, options_of, hosted}

-- an input with the mask that came with it; a power-on comes with none
abbrev pub call : List ℕ → Input → Call
call mask input = record { mask = mask; input = input }

-- calls on one lent record, from what it is before them to what it is after
pub data Lending : Machine → List Call → Machine → Type 0 where
  ended : {m : Machine} → Lending m [] m
  powering : {m n last : Machine} {ks : List Call} (rate commons pm ps pp : ℕ) (image : List ℕ) (r : ℕ) → left r n ≡ power_on (options_of rate commons pm ps pp) image m
      → Lending n ks last → Lending m (call [] (power (options_of rate commons pm ps pp) image) ∷ ks) last
  applying : {m n last : Machine} {ks : List Call} (kind count a b c : ℕ) (mask : List ℕ) (r : ℕ) → left r n ≡ hosted mask kind count a b c m
      → Lending n ks last → Lending m (call mask (named (event_of kind count a b c)) ∷ ks) last

-- from a record that an accepted power-on left, whatever was in it before; each Run may have a mask of its own. `ht1130_report` promises
-- `reporting r exit ≡ report ..` of the record, so what it writes is the definition's too
abbrev pub LentProperty2 : Type 0
LentProperty2 =
    (rate commons pm ps pp : ℕ) (image : List ℕ) (before first : Machine) → left 0 first ≡ power_on (options_of rate commons pm ps pp) image before
    → (calls : List Call) (last : Machine) → Every (λ (k : Call). Bytes k.mask) calls → Lending first calls last
    → Ruled (options_of rate commons pm ps pp) image calls last

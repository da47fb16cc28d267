-- Property 3, by document 01's rules as document 02 changes them, for a host that links both libraries and lends one machine record: "Each gets the
-- machine that the one before returned or left in the lent record". `ht1130_check` of ht1130_tools promises `Checks .. r`, and 0 is the answer of a
-- mask that passed; the calls on the record are those of ht1130, a `Lending`. Assumes nothing.
use Rattle.std.specs.Prelude.{ℕ, ◌≡◌, List}
use Rattle.rom.specs.Fetching.{Bytes}
use Rattle.machine.specs.Power.{power_on}
use Rattle.machine.specs.Events.{Call, Every, UnderMask}
use Rattle.machine.specs.declared.Machine.{Machine}
use Rattle.guarantee.specs.Property3.{Holds}
use Rattle.ht1130.specs.Lent.{left, options_of}
use Rattle.ht1130.specs.Property2.{Lending}
use Rattle.ht1130_tools.specs.Numbers.{Checks}

-- under a mask that `ht1130_check` answered with 0, from a record that an accepted power-on left, whatever was in it before
abbrev pub LentProperty3 : Type 0
LentProperty3 =
    (mask old marks : List ℕ) → Bytes mask → Checks mask old marks 0
    → (rate commons pm ps pp : ℕ) (image : List ℕ) (before first : Machine) → left 0 first ≡ power_on (options_of rate commons pm ps pp) image before
    → (calls : List Call) (last : Machine) → Every (UnderMask mask) calls → Lending first calls last
    → Holds mask marks (options_of rate commons pm ps pp) image calls last

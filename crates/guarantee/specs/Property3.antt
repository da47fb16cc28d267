-- Property 3 of document 01, one claim about the whole list. It speaks of what the exported functions promise: `checker::check` promises
-- `Answers`, `Machine::power_on` promises `power_on` and `Machine::apply_named` `named_answer`, and a `Session` is a list of such calls, each on
-- the machine that the one before answered. Assumes nothing.
use Rattle.std.specs.Prelude.{ℕ, ◌≡◌, true, List, Ok}
use Rattle.rom.specs.Fetching.{Bytes}
use Rattle.cpu.specs.declared.Options.{Options}
use Rattle.machine.specs.Power.{powered, power_on}
use Rattle.machine.specs.Events.{Call, after, Every, UnderMask, Session}
use Rattle.machine.specs.declared.Machine.{Machine}
use Rattle.machine.specs.declared.Answer.{Answer}
use Rattle.checker.specs.Verdicts.{Answers, is_marked}
use Rattle.checker.specs.declared.check.Verdict.TheVariants.{Passed}

-- what is assumed: the mask is bytes, the checker passed it and wrote these marks, and a power-on was accepted, whatever machine was there
-- before
pub record Given (mask old marks : List ℕ) (options : Options) (image : List ℕ) (before : Machine) (start : Answer) : Type 0 where
  pub bytes : Bytes mask
  pub passed : Answers mask old marks (Ok Passed)
  pub powering : start ≡ power_on options image before
  pub accepted : start.refusal ≡ 0

-- what holds of the machine after the list: it is "in every field, the machine that this document's rules", as document 02 changes them, "give from
-- that power-on, the mask and these events alone; its fault is 0, and the pair of its PC and level is one that the checker marked"
pub record Holds (mask marks : List ℕ) (options : Options) (image : List ℕ) (calls : List Call) (last : Machine) : Type 0 where
  pub state : last ≡ after calls (powered options image)
  pub no-fault : last.cpu.status.fault ≡ 0
  pub marked : is_marked marks last.cpu.control.pc.0 last.cpu.interrupts.level ≡ true

-- "The list starts from the machine that an accepted power-on returned. Its events are kinds 1 to 6, in any order and number .. a refused one
-- leaves it as it was, and a further power-on has options and an image of its own. Every Run in the list has the one passed mask"
abbrev pub Property3 : Type 0
Property3 =
    (mask old marks : List ℕ) (options : Options) (image : List ℕ) (before : Machine) (start : Answer) → Given mask old marks options image before start
    → (calls : List Call) (last : Machine) → Every (UnderMask mask) calls → Session start.machine calls last
    → Holds mask marks options image calls last

-- One record after the other, as `RecordByRecord` (script/specs/Whole) goes through a script: each step from where the one before says, on the
-- machine that it left. For contracts inside this crate. Assumes nothing.
use Rattle.std.specs.Prelude.{◌<◌, ◌≤◌, ◌≡◌, ◌⊎◌, length, Option, Some, None}
use Rattle.machine.specs.declared.Machine.{Machine}
use Rattle.script.specs.Reports.{stepped}
use Rattle.script.specs.declared.Progress.{Progress}
use Rattle.player.specs.declared.steps.Steps.{Steps}

abbrev pub next_step : Steps → Progress
next_step s = stepped s.mask.now s.script.now s.at s.machine

-- the machine after the next record; the record after that is looked for where this step says. None comes at the end, nor where the step is refused
abbrev pub Stepping : Steps → Option Machine → Steps → Type 0
Stepping s None t = (length s.script.now ≤ s.at) ⊎ ((next_step s).refusal ≡ 0 → ⊥)
Stepping s (Some m) t =
    (s.at < length s.script.now) × ((next_step s).refusal ≡ 0) × (m ≡ (next_step s).machine)
    × (t.mask.now ≡ s.mask.now) × (t.script.now ≡ s.script.now) × (t.at ≡ (next_step s).at) × (t.machine ≡ m)

-- Claims about a whole script. `check_script` promises `checked`, `step_record` promises `stepped`, and `Machine::report` promises `reporting r bytes ≡
-- report ..` of what a lent buffer then holds. Assumes nothing.
use Rattle.std.specs.Prelude.{ℕ, ◌<◌, ◌≤◌, ◌≡◌, List, [], ◌++◌, length}
use Rattle.rom.specs.Fetching.{Bytes}
use Rattle.machine.specs.Power.{blank}
use Rattle.machine.specs.Report.{reporting, report}
use Rattle.machine.specs.declared.Machine.{Machine}
use Rattle.script.specs.Format.{inputs, written_all}
use Rattle.script.specs.Check.{checked}
use Rattle.script.specs.Reports.{reports_of, stepped}
use Rattle.script.specs.declared.Progress.{Progress}

-- an accepted script is its inputs, written
abbrev pub ParsesBack : Type 0
ParsesBack = (s : List ℕ) → Bytes s → (mask : List ℕ) (room : ℕ) → (checked mask s room).number ≡ 0 → written_all (inputs s) ≡ s

-- "After the whole check the program applies record by record through one 48-byte buffer": from an offset and a machine, what is printed
pub data Printing (mask s : List ℕ) : ℕ → Machine → List ℕ → Type 0 where
  ended : {at : ℕ} {m : Machine} → length s ≤ at → Printing mask s at m []
  going : {at : ℕ} {m : Machine} {more : List ℕ} (p : Progress) (n : ℕ) (buffer bytes : List ℕ)
      → at < length s → p ≡ stepped mask s at m
      → length buffer ≡ 48 → reporting n bytes ≡ report p.machine buffer
      → Printing mask s p.at p.machine more → Printing mask s at m (bytes ++ more)

-- going so through an accepted script, whatever room the check was given, prints the reports of the whole script
abbrev pub RecordByRecord : Type 0
RecordByRecord =
    (mask s : List ℕ) → Bytes mask → (room : ℕ) (bytes : List ℕ) → (checked mask s room).number ≡ 0 → Printing mask s 0 blank bytes → bytes ≡ reports_of mask s

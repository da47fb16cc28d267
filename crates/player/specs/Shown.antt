-- What a program prints of a machine: its report's digits, or what an operator sees. Assumes nothing.
use Rattle.std.specs.Prelude.{ℕ, ◌≡◌, List, [], ◌∷◌, ◌++◌, replicate, Ok, Err, codes, decimal}
use Rattle.machine.specs.Report.{report}
use Rattle.machine.specs.declared.Machine.{Machine}
use Rattle.glass.specs.Text.{text_of}
use Rattle.glass.specs.declared.Unseen.TheVariants.{BadLength, BadNibble, Unreadable}
use Rattle.machine_glass.specs.Glass.{Sight, Sees}
use Rattle.script.specs.Hex.{hex_line}

-- the line of a report; of a machine out of range, all zeros
abbrev pub report_line : Machine → List ℕ
report_line m = hex_line (report m (replicate 48 0)).bytes

-- the line of what is seen; of a machine out of range, an empty one
abbrev pub sight_line : Sight → List ℕ
sight_line (Ok (Ok reading)) = text_of reading ++ (10 ∷ [])
sight_line (Ok (Err (Unreadable digit))) = codes "unreadable at digit " ++ (decimal digit ++ (10 ∷ []))
sight_line (Ok (Err BadLength)) = 10 ∷ []
sight_line (Ok (Err BadNibble)) = 10 ∷ []
sight_line (Err r) = 10 ∷ []

abbrev pub SightLine : Machine → List ℕ → Type 0
SightLine m line = (s : Sight) × Sees m s × (line ≡ sight_line s)

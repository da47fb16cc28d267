-- Property 3 as the reports of a script show it: "length 44, kind 16, PC (2), cycle count (4), level, halted, fault, ..". It speaks of what
-- the exported functions promise: `checker::check` promises `Answers` and `script::apply_script` promises `applied`. Assumes nothing.
use Rattle.std.specs.Prelude.{ℕ, ◌+◌, ◌*◌, ◌<◌, ◌≡◌, true, List, length, get_or, take, drop, Ok}
use Rattle.rom.specs.Fetching.{Bytes}
use Rattle.checker.specs.Verdicts.{Answers, is_marked}
use Rattle.checker.specs.declared.check.Verdict.TheVariants.{Passed}
use Rattle.script.specs.Reports.{applied, leaving, reports_of}
use Rattle.script.specs.Check.{Checked}

-- a report shows fault 0 and a pair that is marked
pub record Shows (marks report : List ℕ) : Type 0 where
  pub no-fault : get_or report 12 0 ≡ 0
  pub marked : is_marked marks (get_or report 4 0 + 256 * get_or report 5 0) (get_or report 10 0) ≡ true

-- under a mask that the checker passed, each report that a script leaves in the lent buffer, where the script is not refused
abbrev pub ReportsShow : Type 0
ReportsShow =
    (mask old marks script before after : List ℕ) (answer : Checked) → Bytes mask → Answers mask old marks (Ok Passed)
    → leaving answer after ≡ applied mask script before → answer.number ≡ 0
    → (j : ℕ) → 48 * j < length (reports_of mask script) → Shows marks (take 48 (drop (48 * j) after))

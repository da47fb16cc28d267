-- The answers as numbers of eight bytes, which are this interface's own: the refusal in byte 0, and what else there is above it. Assumes
-- nothing.
use Rattle.std.specs.Prelude.{ℕ, ◌+◌, ◌*◌, ◌^◌, ◌≤◌, ◌≡◌, List, length, Result, Ok, Err}
use Rattle.rom.specs.Fetching.{Bytes}
use Rattle.refusals.specs.Numbers.{number_of}
use Rattle.refusals.specs.declared.Refusal.{Refusal}
use Rattle.refusals.specs.declared.Refusal.TheVariants as R
use Rattle.checker.specs.Verdicts.{Answers}
use Rattle.checker.specs.declared.check.Verdict.{Verdict}
use Rattle.checker.specs.declared.check.Verdict.TheVariants.{Passed, Failed}
use Rattle.bound.specs.Bounds.{BoundAnswers}
use Rattle.bound.specs.declared.bound.Bound.{Bound}
use Rattle.bound.specs.declared.bound.Bound.TheVariants.{NotReached, NoBound, Cycles}
use Rattle.checker.specs.Marks.{Pair}
use Rattle.checker.specs.Ways.{WayAnswers}
use Rattle.assembler.specs.Program.{Answer, left, line, refusal}
use Rattle.script.specs.Reports.{Applied}
use Rattle.script.specs.Check.{Checked}

-- "It answers passed, or fault, address and level": 0, or fault in byte 1, level in byte 2 and address in bytes 4 and 5. A refusal is its
-- number, "1: mask not 4,096 bytes", "2: .. marks .. not .. 4,096"
abbrev pub verdict_number : Result Verdict Refusal → ℕ
verdict_number (Ok Passed) = 0
verdict_number (Ok (Failed f a l)) = f * 2 ^ 8 + l * 2 ^ 16 + a * 2 ^ 32
verdict_number (Err r) = number_of r

-- what `ht1130_check` leaves: a verdict that answers for the mask and the marks at entry and at exit, and its number
pub record Checks (mask old new : List ℕ) (r : ℕ) : Type 0 where
  pub verdict : Result Verdict Refusal
  pub answers : Answers mask old new verdict
  pub number : r ≡ verdict_number verdict

-- the number and the marks depend on the mask and the marks at entry alone
abbrev pub ChecksDetermine : Type 0
ChecksDetermine = (mask old new other : List ℕ) (r q : ℕ) → Checks mask old new r → Checks mask old other q → (r ≡ q) × (new ≡ other)

-- document 02, wish 2: "the answer is its count of pairs", in bytes 4 and 5. A refusal is its number, "10 if the mask passes, after 1; 11 if the
-- list is too short, after 10"
abbrev pub way_number : Result ℕ Refusal → ℕ
way_number (Ok n) = n * 2 ^ 32
way_number (Err r) = number_of r

-- what `ht1130_way` leaves: an answer for the mask and the list at entry and at exit, and its number. "Which of several is free": the bytes listed
-- are some shortest chain's
pub record Ways (mask old new : List ℕ) (r : ℕ) : Type 0 where
  pub listing : Result ℕ Refusal
  pub answers : WayAnswers mask old new listing
  pub number : r ≡ way_number listing

-- the number depends on the mask and the list at entry alone
abbrev pub WaysDetermine : Type 0
WaysDetermine = (mask old new other : List ℕ) (r q : ℕ) → Ways mask old new r → Ways mask old other q → r ≡ q

-- HT1130_WAY, three bytes for each of 12,288 pairs: a list of so many bytes is never too short
abbrev pub way_length : ℕ
way_length = 36864

abbrev pub WayLengthDoes : Type 0
WayLengthDoes = (mask old new : List ℕ) (r : ℕ) → Bytes mask → way_length ≤ length old → Ways mask old new r → r ≡ number_of R.List → ⊥

-- document 02, wish 5: 'not reached' is 0, 'no bound' 1 and a bound 2, in byte 1; "the largest cycle total" in bytes 4 to 7. A refusal is its number,
-- "15 if the mask fails, after 1 and 5 (a pair out of range)"
abbrev pub bound_number : Result Bound Refusal → ℕ
bound_number (Ok NotReached) = 0
bound_number (Ok NoBound) = 1 * 2 ^ 8
bound_number (Ok (Cycles n)) = 2 * 2 ^ 8 + n * 2 ^ 32
bound_number (Err r) = number_of r

-- what `ht1130_bound` answers: a bound of the pair, and its number
pub record BoundTold (mask : List ℕ) (p : Pair) (r : ℕ) : Type 0 where
  pub bound : Result Bound Refusal
  pub answers : BoundAnswers mask p bound
  pub number : r ≡ bound_number bound

-- the number depends on the mask and the pair alone
abbrev pub BoundsDetermine : Type 0
BoundsDetermine = (mask : List ℕ) (p : Pair) (r q : ℕ) → BoundTold mask p r → BoundTold mask p q → r ≡ q

-- a number that says that there is a bound is its cycles'
abbrev pub BoundReads : Type 0
BoundReads = (mask : List ℕ) (p : Pair) (n : ℕ) → BoundTold mask p (2 * 2 ^ 8 + n * 2 ^ 32) → BoundAnswers mask p (Ok (Cycles n))

-- "one line `refused N at P`": N in byte 0, P in bytes 4 and 5
abbrev pub script_number : Checked → ℕ
script_number k = k.number + k.offset * 2 ^ 32

-- what `ht1130_run_script` leaves: the number of the script's answer, and the lent bytes
pub record Ran (a : Applied) (new : List ℕ) (r : ℕ) : Type 0 where
  pub number : r ≡ script_number a.answer
  pub bytes : new ≡ a.bytes

-- document 02, wish 4: "Answers .. each with the first such line": the number in byte 0, the line in bytes 4 to 7
abbrev pub text_number : Answer → ℕ
text_number a = refusal a + line a * 2 ^ 32

-- what `ht1130_assemble` leaves: the number of the text's answer, and the lent bytes
pub record Assembled (a : Answer) (old new : List ℕ) (r : ℕ) : Type 0 where
  pub number : r ≡ text_number a
  pub bytes : new ≡ left a old

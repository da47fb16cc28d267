-- The codes of pairs, which the walk of reach/specs/Walk goes over: a pair's code is its rank. What the code of one pair says, what is named of
-- them, and the marks. No promise of an exported function cites it. Assumes nothing.
use Rattle.std.specs.Prelude.{ℕ, ◌+◌, ◌*◌, ◌/◌, ◌%◌, ◌<◌, ◌≡◌, List, [], ◌∷◌, map, leb, length, get_or, Option, Some, None, Result, Ok, Err}
use Rattle.isa.specs.Choice.{pick}
use Rattle.isa.specs.Code.{addresses}
use Rattle.reach.specs.Walk.{Free, Names}
use Rattle.checker.specs.Marks.{levels, Pair, pair, fault, successors}
use Rattle.checker.specs.Verdicts.{marks_size, rank}
use Rattle.checker.specs.declared.check.Verdict.{Verdict}
use Rattle.checker.specs.declared.check.Verdict.TheVariants.{Passed, Failed}
use Rattle.checker.specs.declared.next.Codes.{Codes}
use Rattle.checker.specs.declared.next.Codes.TheVariants.{Nothing, One, Two, Three}
use Rattle.checker.specs.declared.walk.Named.{Named}

-- how many codes there are
abbrev pub pairs : ℕ
pairs = addresses * levels

abbrev pub pair_of : ℕ → Pair
pair_of c = pair (c / levels) (c % levels)

-- the codes of the successors of a code's pair
abbrev pub next_codes : List ℕ → ℕ → List ℕ
next_codes mask c = map rank (successors mask (pair_of c))

abbrev pub codes_of : Codes → List ℕ
codes_of Nothing = []
codes_of (One a) = a ∷ []
codes_of (Two a b) = a ∷ b ∷ []
codes_of (Three a b c) = a ∷ b ∷ c ∷ []

-- the codes in an answer, or its fault
abbrev pub codes_in : Result Codes ℕ → List ℕ
codes_in (Ok d) = codes_of d
codes_in (Err f) = []

-- the fault of a code's pair
abbrev pub fault_at : List ℕ → ℕ → ℕ
fault_at mask c = fault mask (pair_of c)

-- what an answer says of a pair's fault
abbrev pub Faults : Result Codes ℕ → ℕ → Type 0
Faults (Ok d) g = g ≡ 0
Faults (Err f) g = (g ≡ f) × (g ≡ 0 → ⊥)

-- the lower of what is named so far and a forbidden code
abbrev pub lowered : Option Named → ℕ → ℕ → Named
lowered None c f = record { code = c; fault = f }
lowered (Some n) c f = pick (leb n.code c) n (record { code = c; fault = f })

-- what is named once the walk is over: the lowest found code that is forbidden, or that there is none
abbrev pub NamesOf : List ℕ → List ℕ → Option Named → Type 0
NamesOf mask seen None = Free (fault_at mask) seen
NamesOf mask seen (Some n) = Names (fault_at mask) seen n.code n.fault

-- the mark byte of each address, from the flags of its three levels
abbrev pub mark_of : List ℕ → ℕ → ℕ
mark_of seen a = get_or seen (a * 3) 0 + get_or seen (a * 3 + 1) 0 * 2 + get_or seen (a * 3 + 2) 0 * 4

pub record Packed (seen marks : List ℕ) : Type 0 where
  pub size : length marks ≡ marks_size
  pub byte : (a : ℕ) → a < addresses → get_or marks a 0 ≡ mark_of seen a

abbrev pub verdict_of : Option Named → Verdict
verdict_of None = Passed
verdict_of (Some n) = Failed n.fault (n.code / levels) (n.code % levels)

-- Document 02, wish 5, "How long an edge is held": successors within a level, chains to a return and their cycles, 'no bound', and what each answer
-- says. Assumes nothing.
use Rattle.std.specs.Prelude.{ℕ, ◌<◌, ◌≡◌, true, cond, List, eqb, Result, Ok, Err, Some}
use Rattle.isa.specs.Code.{addresses}
use Rattle.isa.specs.declared.Instruction.TheVariants as I
use Rattle.rom.specs.Fetching.{sized, read_at, cycles_at, moved_from}
use Rattle.checker.specs.Marks.{levels, Pair, flow_at, onward, unless_forbidden, Reached}
use Rattle.checker.specs.Verdicts.{Safe}
use Rattle.checker.specs.declared.flow.Flow.TheVariants.{Back}
use Rattle.bound.specs.Paths.{Endless, Longest}
use Rattle.bound.specs.declared.bound.Bound.{Bound}
use Rattle.bound.specs.declared.bound.Bound.TheVariants.{NotReached, NoBound, Cycles}
use Rattle.refusals.specs.Numbers.{number_of}
use Rattle.refusals.specs.declared.Refusal.{Refusal}

-- "The vector successors of EI are not followed": document 01's successors without them. Above level 0 CALL is forbidden, so that each one left is in
-- the pair's own level: hence "reached in that level"
unfoldable pub within : List ℕ → Pair → List Pair
within mask p = unless_forbidden mask p (onward (flow_at mask p.address) (moved_from mask p.address) p.level)

-- "a return": RET or RETI
abbrev pub Returns : List ℕ → Pair → Type 0
Returns mask p = flow_at mask p.address ≡ Back

-- "a HALT"
abbrev pub Halts : List ℕ → Pair → Type 0
Halts mask p = read_at mask p.address ≡ Some I.Halt

-- a pair's cycles, by document 01's list
abbrev pub cycles_of : List ℕ → Pair → ℕ
cycles_of mask p = cycles_at mask p.address

-- "'no bound' exactly when a loop or a HALT can be reached in that level"
abbrev pub Unbounded : List ℕ → Pair → Type 0
Unbounded mask p = Endless (within mask) (Halts mask) p

-- "the largest cycle total over all chains from it to a return, the return included"
pub record Bounded (mask : List ℕ) (p : Pair) (n : ℕ) : Type 0 where
  pub ends : Unbounded mask p → ⊥
  pub longest : Longest (within mask) (Returns mask) (cycles_of mask) p n

-- "a pair out of range": "A program address counts to 4,095", levels 0 to 2
abbrev pub InRange : Pair → Type 0
InRange p = (p.address < addresses) × (p.level < levels)

-- "Asked for a pair of a passed mask": nothing is refused
pub record Asked (mask : List ℕ) (p : Pair) : Type 0 where
  pub mask_size : sized mask ≡ true
  pub in-range : InRange p
  pub passed : Safe mask

-- "'not reached' if it is unmarked or in level 0": marked are the pairs that the checker's chains reach
abbrev pub ReachedAbove : List ℕ → Pair → Type 0
ReachedAbove mask p = (0 < p.level) × Reached mask p

-- the paper's number of each answer, 0 for an answer that is not refused
abbrev pub bound_refusal : Result Bound Refusal → ℕ
bound_refusal (Ok NotReached) = 0
bound_refusal (Ok NoBound) = 0
bound_refusal (Ok (Cycles n)) = 0
bound_refusal (Err r) = number_of r

-- what each number says: 0, that nothing is refused; document 01's "1: mask not 4,096 bytes"; "15 if the mask fails, after 1 and 5 (a pair out of
-- range)"
abbrev pub BoundSays : List ℕ → Pair → ℕ → Type 0
BoundSays mask p n =
    cond (eqb n 0) (Asked mask p)
    (cond (eqb n 1) (sized mask ≡ true → ⊥)
    (cond (eqb n 5) ((sized mask ≡ true) × (InRange p → ⊥))
    (cond (eqb n 15) ((sized mask ≡ true) × InRange p × (Safe mask → ⊥))
    ⊥)))

-- an answer says what its number says, and what it tells of the pair
abbrev pub BoundAnswers : List ℕ → Pair → Result Bound Refusal → Type 0
BoundAnswers mask p (Ok NotReached) = BoundSays mask p (bound_refusal (Ok NotReached)) × (ReachedAbove mask p → ⊥)
BoundAnswers mask p (Ok NoBound) = BoundSays mask p (bound_refusal (Ok NoBound)) × ReachedAbove mask p × Unbounded mask p
BoundAnswers mask p (Ok (Cycles n)) = BoundSays mask p (bound_refusal (Ok (Cycles n))) × ReachedAbove mask p × Bounded mask p n
BoundAnswers mask p (Err r) = BoundSays mask p (bound_refusal (Err r))

-- the answer depends on the mask and the pair alone
abbrev pub BoundDetermines : Type 0
BoundDetermines = (mask : List ℕ) (p : Pair) (b c : Result Bound Refusal) → BoundAnswers mask p b → BoundAnswers mask p c → b ≡ c

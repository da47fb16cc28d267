-- The bounds of all pairs above level 0 in one list, for a bench that asks for many: an entry for each address and its levels 1 and 2. Its largest entry
-- is the longest that a program can stay above main. Then the targets of the CALLs that a mask may run. Assumes nothing.
use Rattle.std.specs.Prelude.{ℕ, ◌+◌, ◌*◌, ◌-◌, ◌<◌, ◌≤◌, ◌≡◌, true, cond, ◌&&◌, List, eqb, ltb, length, get_or, Result, Ok, Err}
use Rattle.isa.specs.Choice.{pick}
use Rattle.isa.specs.Code.{addresses}
use Rattle.isa.specs.declared.ProgramAddress.{ProgramAddress}
use Rattle.rom.specs.Fetching.{sized}
use Rattle.checker.specs.Marks.{levels, pair, flow_at}
use Rattle.checker.specs.Verdicts.{Safe, is_marked}
use Rattle.checker.specs.declared.flow.Flow.TheVariants.{Sub}
use Rattle.bound.specs.Bounds.{BoundAnswers}
use Rattle.bound.specs.declared.bound.Bound.{Bound}
use Rattle.bound.specs.declared.bound.Bound.TheVariants.{NotReached, NoBound, Cycles}
use Rattle.refusals.specs.Numbers.{number_of}
use Rattle.refusals.specs.declared.Refusal.{Refusal}

-- 'no bound' as a number, out of reach of every bound
abbrev pub endless : ℕ
endless = 65535

abbrev pub bound_of : ℕ → Bound
bound_of n = pick (eqb n endless) NoBound (Cycles n)

-- an entry: 0 for 'not reached', since a return takes a cycle
abbrev pub bound_at : ℕ → Bound
bound_at n = pick (eqb n 0) NotReached (bound_of n)

-- how many entries there are: two an address
abbrev pub bounds_size : ℕ
bounds_size = addresses * 2

-- a pair's place, by address and then level
abbrev pub place_of : ℕ → ℕ → ℕ
place_of a l = a * 2 + (l - 1)

-- the entry of a pair above level 0; 0, 'not reached', for any other pair, and for a list of another length
abbrev pub entry_of : List ℕ → ℕ → ℕ → ℕ
entry_of list a l = pick (eqb (length list) bounds_size && ltb a addresses && ltb 0 l && ltb l levels) (get_or list (place_of a l) 0) 0

-- each entry is the answer for its pair
abbrev pub Entries : List ℕ → List ℕ → Type 0
Entries mask list = (a l : ℕ) → a < addresses → 0 < l → l < levels → BoundAnswers mask (pair a l) (Ok (bound_at (entry_of list a l)))

-- the number of each answer: wish 5's, but for a pair's; 2 for a list of another length, as document 01 has it for marks
abbrev pub bounds_refusal : Result (Unit {0}) Refusal → ℕ
bounds_refusal (Ok u) = 0
bounds_refusal (Err r) = number_of r

-- what each refusal says
abbrev pub BoundsRefused : List ℕ → List ℕ → ℕ → Type 0
BoundsRefused mask old n =
    cond (eqb n 1) (sized mask ≡ true → ⊥)
    (cond (eqb n 2) ((sized mask ≡ true) × (length old ≡ bounds_size → ⊥))
    (cond (eqb n 15) ((sized mask ≡ true) × (length old ≡ bounds_size) × (Safe mask → ⊥))
    ⊥))

-- what each answer says, by its number, of the mask and of the list at entry and at exit: 0, that each entry is there; after a refusal the list is as
-- it was
abbrev pub BoundsAnswer : List ℕ → List ℕ → List ℕ → Result (Unit {0}) Refusal → Type 0
BoundsAnswer mask old new b =
    cond (eqb (bounds_refusal b) 0) ((length old ≡ bounds_size) × (length new ≡ bounds_size) × Entries mask new)
    (BoundsRefused mask old (bounds_refusal b) × (new ≡ old))

-- the first place whose entry is the largest
pub record Largest (list : List ℕ) (place : ℕ) : Type 0 where
  pub below : 0 < length list → place < length list
  pub most : (k : ℕ) → k < length list → get_or list k 0 ≤ get_or list place 0
  pub first : (k : ℕ) → k < place → get_or list k 0 < get_or list place 0

-- an address that a CALL marked in level 0 has as its target
pub record Called (mask marks : List ℕ) (t : ℕ) : Type 0 where
  pub from : ℕ
  pub target : ProgramAddress
  pub calls : flow_at mask from ≡ Sub target
  pub there : target.0 ≡ t
  pub marked : is_marked marks from 0 ≡ true

-- a flag for each address: 1 where it is called, else 0
pub record CallTargets (mask marks flags : List ℕ) : Type 0 where
  pub called : (t : ℕ) → t < addresses → Called mask marks t → get_or flags t 0 ≡ 1
  pub others : (t : ℕ) → t < addresses → (Called mask marks t → ⊥) → get_or flags t 0 ≡ 0

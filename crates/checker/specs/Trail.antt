-- The way back of reach/specs/Trail, listed as pairs, as the private functions state it. No promise of an exported function cites it. Assumes
-- nothing.
use Rattle.std.specs.Prelude.{ℕ, ◌*◌, ◌<◌, ◌≤◌, ◌≡◌, List, ◌++◌, map, length, drop, get_or, Result, Ok, Err}
use Rattle.reach.specs.Trail.{Up, Ended}
use Rattle.checker.specs.Marks.{Pair}
use Rattle.checker.specs.Walk.{pair_of}
use Rattle.checker.specs.Ways.{listed}
use Rattle.refusals.specs.declared.Refusal.{Refusal}
use Rattle.refusals.specs.declared.Refusal.TheVariants as R

-- the pairs at places of the queue
abbrev pub pairs_at : List ℕ → List ℕ → List Pair
pairs_at queue js = map pair_of (map (λ (j : ℕ). get_or queue j 0) js)

-- the pairs at the places from 0 to an end are listed
pub record Listings (queue starts : List ℕ) (end count : ℕ) (old new : List ℕ) : Type 0 where
  pub places : List ℕ
  pub up : Up starts 0 places end
  pub counted : count ≡ length places
  pub bytes : new ≡ listed (pairs_at queue places) ++ drop (3 * count) old

-- the way to a code is listed, or the list is too short for it
pub record ListsTo (queue starts : List ℕ) (code count : ℕ) (old new : List ℕ) : Type 0 where
  pub ended : Ended queue starts code count
  pub fits : 3 * count ≤ length old
  pub listings : Listings queue starts ended.end count old new

pub record ShortOf (queue starts : List ℕ) (code : ℕ) (old : List ℕ) : Type 0 where
  pub count : ℕ
  pub ended : Ended queue starts code count
  pub short : length old < 3 * count

abbrev pub ListedTo : List ℕ → List ℕ → ℕ → List ℕ → List ℕ → Result ℕ Refusal → Type 0
ListedTo queue starts code old new (Ok n) = ListsTo queue starts code n old new
ListedTo queue starts code old new (Err R.List) = ShortOf queue starts code old × (new ≡ old)
ListedTo queue starts code old new (Err _) = ⊥

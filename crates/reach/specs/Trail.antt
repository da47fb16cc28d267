-- What the walk remembers, and the way back, as a checker's private functions state it, over any successor function on codes. `starts` has for each
-- place of the queue how many codes were found when its turn came. No promise of an exported function cites it. Assumes nothing.
use Rattle.std.specs.Prelude.{ℕ, suc, ◌<◌, ◌≤◌, ◌≡◌, List, [], ◌∷◌, get_or}
use Rattle.reach.specs.Chains.{Member}

-- where a code stands, among n places
pub record Stands (n : ℕ) (queue : List ℕ) (code : ℕ) : Type 0 where
  pub at : ℕ
  pub below : at < n
  pub holds : get_or queue at 0 ≡ code

-- where it stands first
pub record StandsFirst (queue : List ℕ) (code at : ℕ) : Type 0 where
  pub holds : get_or queue at 0 ≡ code
  pub first : (j : ℕ) → get_or queue j 0 ≡ code → at ≤ j

-- a successor of what stands at place h was found in the turn of h, or before
pub record Near (queue starts : List ℕ) (head tail h code : ℕ) : Type 0 where
  pub stands : Stands tail queue code
  pub soon : (i : ℕ) → h < i → i < head → stands.at < get_or starts i 0

-- the queue is in the order of distance: what was found in a turn stands after the turn's own place and is a successor, and each successor was
-- found in the turn or before it
pub record Trail (next : ℕ → List ℕ) (queue starts : List ℕ) (head tail : ℕ) : Type 0 where
  pub start : get_or queue 0 0 ≡ 0
  pub opens : get_or starts 0 0 ≤ 1
  pub later : (h : ℕ) → h < head → h < get_or starts h 0
  pub linked : (h j : ℕ) → h < head → j < tail → get_or starts h 0 ≤ j → ((i : ℕ) → h < i → i < head → j < get_or starts i 0)
      → Member (get_or queue j 0) (next (get_or queue h 0))
  pub near : (h : ℕ) → h < head → (q : ℕ) → Member q (next (get_or queue h 0)) → Near queue starts head tail h q

-- what the walk leaves: each found code stands among the places that had their turn
pub record Traced (n : ℕ) (next : ℕ → List ℕ) (seen queue starts : List ℕ) : Type 0 where
  pub tail : ℕ
  pub some : 0 < tail
  pub places : tail ≤ n
  pub stands : (k : ℕ) → get_or seen k 0 ≡ 1 → Stands tail queue k
  pub trail : Trail next queue starts tail tail

-- the place before place j: the one in whose turn j was found, the last that started at j or before
pub record Before (starts : List ℕ) (h j : ℕ) : Type 0 where
  pub earlier : h < j
  pub begun : get_or starts h 0 ≤ j
  pub last : (i : ℕ) → h < i → i < j → j < get_or starts i 0

-- how many places there are from place 0 on to a place, by the places before
pub data Counted (starts : List ℕ) : ℕ → ℕ → Type 0 where
  origin : Counted starts 0 1
  onward : {h j c : ℕ} → Before starts h j → Counted starts h c → Counted starts j (suc c)

-- the places from one to another
pub data Up (starts : List ℕ) : ℕ → List ℕ → ℕ → Type 0 where
  stay : {k : ℕ} → Up starts k (k ∷ []) k
  climb : {i j k : ℕ} {js : List ℕ} → Before starts i j → Up starts j js k → Up starts i (i ∷ js) k

-- the first place of a code, and how many places there are to it
pub record Ended (queue starts : List ℕ) (code count : ℕ) : Type 0 where
  pub end : ℕ
  pub first : StandsFirst queue code end
  pub counted : Counted starts end count

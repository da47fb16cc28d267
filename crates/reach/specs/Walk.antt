-- The walk, as a checker's private functions state it, over any successor function on codes and any number n of them: the codes found so far with
-- their queue, what a walk that is over has found, and the lowest of it that is forbidden, if any is, by any faults of codes. No promise of an exported
-- function cites it. Assumes nothing.
use Rattle.std.specs.Prelude.{ℕ, zero, suc, ◌+◌, ◌<◌, ◌≤◌, ◌≡◌, List, [], ◌∷◌, eqb, length, get_or, set}
use Rattle.isa.specs.Choice.{pick}
use Rattle.reach.specs.Chains.{Reaches}

-- each of a list
abbrev pub All : {A : Type 0} → (A → Type 0) → List A → Type 0
All P [] = Unit {0}
All P (x ∷ xs) = P x × All P xs

-- codes below n
abbrev pub Small : ℕ → List ℕ → Type 0
Small n cs = All (λ (c : ℕ). c < n) cs

-- a flag for each code, 1 where it is found; the codes in the order in which they were found; and how many there are
pub record Work : Type 0 where
  pub seen : List ℕ
  pub queue : List ℕ
  pub tail : ℕ

abbrev pub work : List ℕ → List ℕ → ℕ → Work
work s q t = record { seen = s; queue = q; tail = t }

-- a code that is not found yet goes to the queue's end
unfoldable pub pushed : Work → ℕ → Work
pushed w c =
    pick (eqb (get_or w.seen c 0) 0) (work (set w.seen c 1) (set w.queue w.tail c) (w.tail + 1)) w

unfoldable pub pushed_all : Work → List ℕ → Work
pushed_all w [] = w
pushed_all w (c ∷ cs) = pushed_all (pushed w c) cs

-- how many codes are not found yet
unfoldable pub zeros : List ℕ → ℕ
zeros [] = 0
zeros (zero ∷ xs) = suc (zeros xs)
zeros (suc x ∷ xs) = zeros xs

-- the queue has a place for each code that is not found yet
pub record Room (n : ℕ) (seen : List ℕ) (tail : ℕ) : Type 0 where
  pub size : length seen ≡ n
  pub left : zeros seen + tail ≡ n

-- what the flags say once the walk is over: exactly the codes that chains from 0 reach are found
pub record Found (n : ℕ) (next : ℕ → List ℕ) (seen : List ℕ) : Type 0 where
  pub size : length seen ≡ n
  pub flags : (k : ℕ) → get_or seen k 0 ≤ 1
  pub sound : (k : ℕ) → get_or seen k 0 ≡ 1 → Reaches next 0 k
  pub full : (k : ℕ) → Reaches next 0 k → (k < n) × (get_or seen k 0 ≡ 1)

-- what is named once the walk is over: the lowest found code that is forbidden, with its fault
pub record Names (bad : ℕ → ℕ) (seen : List ℕ) (code fault : ℕ) : Type 0 where
  pub found : get_or seen code 0 ≡ 1
  pub forbidden : bad code ≡ fault
  pub not-zero : fault ≡ 0 → ⊥
  pub lowest : (k : ℕ) → get_or seen k 0 ≡ 1 → (bad k ≡ 0 → ⊥) → code ≤ k

-- no found code is forbidden
abbrev pub Free : (ℕ → ℕ) → List ℕ → Type 0
Free bad seen = (k : ℕ) → get_or seen k 0 ≡ 1 → bad k ≡ 0

-- Over any successor function: a loop, what goes on without end, and the largest total of a chain. Document 02, wish 5: "the largest cycle total over
-- all chains from it to a return, the return included, or 'no bound' exactly when a loop or a HALT can be reached". Assumes nothing.
use Rattle.std.specs.Prelude.{ℕ, ◌+◌, ◌≤◌, ◌≡◌, List, [], ◌∷◌, ◌⊎◌}
use Rattle.reach.specs.Chains.{Member, Chain, Reaches}

module _ {A : Type 0} where
  -- from one element, over a successor, to another
  pub record Leads (next : A → List A) (from to : A) : Type 0 where
    pub over : A
    pub first : Member over (next from)
    pub rest : Reaches next over to

  -- a loop: back to itself
  abbrev pub Loop : (A → List A) → A → Type 0
  Loop next p = Leads next p p

  -- "a loop or a HALT can be reached"
  pub record Endless (next : A → List A) (Halts : A → Type 0) (p : A) : Type 0 where
    pub at : A
    pub reached : Reaches next p at
    pub shown : Loop next at ⊎ Halts at

  -- the total of a list, each of it counted
  unfoldable pub total : (A → ℕ) → List A → ℕ
  total cost [] = 0
  total cost (p ∷ ps) = cost p + total cost ps

  -- a chain from an element to an end, with its total
  pub record Spends (next : A → List A) (Ends : A → Type 0) (cost : A → ℕ) (p : A) (n : ℕ) : Type 0 where
    pub chain : List A
    pub end : A
    pub links : Chain next p chain end
    pub ends : Ends end
    pub spent : total cost chain ≡ n

  -- "the largest .. total over all chains from it to" an end
  pub record Longest (next : A → List A) (Ends : A → Type 0) (cost : A → ℕ) (p : A) (n : ℕ) : Type 0 where
    pub met : Spends next Ends cost p n
    pub most : (m : ℕ) → Spends next Ends cost p m → m ≤ n

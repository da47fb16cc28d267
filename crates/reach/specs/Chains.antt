-- Chains over any successor function. Document 01, "Marks": "A chain is a list of one or more pairs, each after the first a successor of the
-- one before"; document 02, wish 2: "No such chain has fewer pairs". Assumes nothing.
use Rattle.std.specs.Prelude.{◌≤◌, List, [], ◌∷◌, length}

module _ {A : Type 0} where
  -- one of a list
  pub data Member (x : A) : List A → Type 0 where
    here : {xs : List A} → Member x (x ∷ xs)
    there : {y : A} {xs : List A} → Member x xs → Member x (y ∷ xs)

  -- a chain, from its first to its last
  pub data Chain (next : A → List A) : A → List A → A → Type 0 where
    one : {p : A} → Chain next p (p ∷ []) p
    more : {p q r : A} {ps : List A} → Member q (next p) → Chain next q ps r → Chain next p (p ∷ ps) r

  -- what chains from a start reach
  pub record Reaches (next : A → List A) (start p : A) : Type 0 where
    pub chain : List A
    pub links : Chain next start chain p

  -- a chain from a start to an end, where no such chain has fewer elements. Several may be as short
  pub record Shortest (next : A → List A) (start : A) (chain : List A) (end : A) : Type 0 where
    pub links : Chain next start chain end
    pub least : (other : List A) → Chain next start other end → length chain ≤ length other

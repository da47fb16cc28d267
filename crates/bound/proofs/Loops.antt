-- A chain from what does not go on without end has each element once, over any successor function: an element that stood in it twice would be a loop.
-- So a chain of codes below n has at most n of them. Assumes nothing.
use Prim.Native.Nat.{ℕ, ◌<◌, ◌≤◌}
use native.Mathlib.Omega.{arith}
use mathlib.Core.List.{List, ◌∷◌}
use mathlib.Core.Logic.{inl}
use lib.ListN.{length}
use Rattle.reach.specs.Chains.{Member, here, there, Chain, one, more, Reaches}
use Rattle.reach.specs.Walk.{Small}
use Rattle.reach.proofs.Chains.{reached-start}
use Rattle.reach.proofs.Once.{Once, some, at_most, all_small}
use Rattle.bound.specs.Paths.{Loop, Endless}

module _ {A : Type 0} {next : A → List A} where
  -- one element more before what is reached
  pub reached-over : {p q r : A} → Member q (next p) → Reaches next q r → Reaches next p r
  reached-over {p} m r = record { chain = p ∷ r.chain; links = more m r.links }

  -- each element of a chain is reached from its first
  pub reached-in : {p q r : A} {ps : List A} → Chain next p ps r → Member q ps → Reaches next p q
  reached-in one (there n) = elim n [ ]
  reached-in one here = reached-start
  reached-in (more m c) here = reached-start
  reached-in (more m c) (there n) = reached-over m (reached-in c n)

module _ {A : Type 0} {next : A → List A} {Halts : A → Type 0} where
  -- what goes on without end from a successor does so from here
  pub endless-over : {p q : A} → Member q (next p) → Endless next Halts q → Endless next Halts p
  endless-over m e = record { at = e.at; reached = reached-over m e.reached; shown = e.shown }

  -- a loop here
  pub endless-loop : {p : A} → Loop next p → Endless next Halts p
  endless-loop {p} l = record { at = p; reached = reached-start; shown = inl l }

  pub once : {p r : A} {ps : List A} → Chain next p ps r → (Endless next Halts p → ⊥) → Once ps
  once one ends = ((λ m. let h = some m in omega arith), tt)
  once (more {q = q} m c) ends =
      ((λ n. ends (endless-loop (record { over = q; first = m; rest = reached-in c n }))), once c (λ e. ends (endless-over m e)))

-- codes below n
module _ (n : ℕ) (next : ℕ → List ℕ) (small : (k : ℕ) → Small n (next k)) {Halts : ℕ → Type 0} where
  pub few : {p r : ℕ} {ps : List ℕ} → p < n → Chain next p ps r → (Endless next Halts p → ⊥) → length ps ≤ n
  few {ps = ps} h c ends = at_most n ps (once c ends) (all_small n next small h c)

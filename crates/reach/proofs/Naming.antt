-- What the walk names, over any successor function and any faults of codes: the lowest code of the places that had their turn which is forbidden.
-- Where the walk is over every found code had its turn. Assumes nothing.
use Prim.Native.Nat.{ℕ, ◌+◌, ◌<◌, ◌≤◌}
use native.Mathlib.Omega.{arith}
use native.Mathlib.Decide.{ℕ_discrete}
use mathlib.Core.Path.{◌≡◌, sym, ap, subst, ◌∙◌}
use mathlib.Core.List.{List}
use lib.ListN.{get_or}
use Rattle.reach.specs.Chains.{Reaches}
use Rattle.reach.specs.Trail.{Stands}
use Rattle.reach.specs.Walk.{Found, Names, Free}

module _ (next : ℕ → List ℕ) (bad : ℕ → ℕ) where
  pub record Naming (queue : List ℕ) (head code fault : ℕ) : Type 0 where
    pub reached : Reaches next 0 code
    pub forbidden : bad code ≡ fault
    pub not-zero : fault ≡ 0 → ⊥
    pub lowest : (j : ℕ) → j < head → (bad (get_or queue j 0) ≡ 0 → ⊥) → code ≤ get_or queue j 0

  -- none of the places that had their turn is forbidden
  abbrev pub Clean : List ℕ → ℕ → Type 0
  Clean queue head = (j : ℕ) → j < head → bad (get_or queue j 0) ≡ 0

  -- a turn: the queue is as it was up to the head
  module _ (queue new : List ℕ) (head : ℕ) (same : (j : ℕ) → j < head + 1 → get_or new j 0 ≡ get_or queue j 0) where
    abbrev here : ℕ
    here = get_or queue head 0

    -- what holds of each code before the head, and of the one at the head
    up_to : (P : ℕ → Type 0) → ((j : ℕ) → j < head → P (get_or queue j 0)) → P here → (j : ℕ) → j < head + 1 → P (get_or new j 0)
    up_to P before now j b = subst P (sym (same j b)) (go (ℕ_discrete j head))
      where
        go : Dec (j ≡ head) → P (get_or queue j 0)
        go (yes e) = subst (λ (j : ℕ). P (get_or queue j 0)) (sym e) now
        go (no e) = before j (omega arith)

    abbrev From : ℕ → ℕ → Type 0
    From k c = (bad c ≡ 0 → ⊥) → k ≤ c

    pub clean : Clean queue head → bad here ≡ 0 → Clean new (head + 1)
    clean i e = up_to (λ (c : ℕ). bad c ≡ 0) i e

    pub kept : (code fault : ℕ) → Naming queue head code fault → ((bad here ≡ 0 → ⊥) → code ≤ here) → Naming new (head + 1) code fault
    kept code fault i f =
        record { reached = i.reached; forbidden = i.forbidden; not-zero = i.not-zero; lowest = up_to (From code) i.lowest f }

    module _ (r : Reaches next 0 here) (f : ℕ) (e : bad here ≡ f) (z : bad here ≡ 0 → ⊥) where
      named : ((j : ℕ) → j < head → From here (get_or queue j 0)) → Naming new (head + 1) here f
      named before =
          record { reached = r; forbidden = e; not-zero = λ y. z (e ∙ y); lowest = up_to (From here) before (λ y. omega arith) }

      pub first : Clean queue head → Naming new (head + 1) here f
      first i = named (λ j h y. absurd (y (i j h)))

      pub taken : (code fault : ℕ) → Naming queue head code fault → here < code → Naming new (head + 1) here f
      taken code fault i l = named (λ j h y. omega (arith, i.lowest j h y))

  -- where the head meets the tail
  module _ (n : ℕ) (seen queue : List ℕ) (head tail : ℕ) (found : Found n next seen) (stands : (k : ℕ) → get_or seen k 0 ≡ 1 → Stands tail queue k) (h : tail ≤ head) where
    pub free : Clean queue head → Free bad seen
    free i k f = let p = stands k f in subst (λ (k : ℕ). bad k ≡ 0) p.holds (i p.at (omega (arith, p.below)))

    pub names : (code fault : ℕ) → Naming queue head code fault → Names bad seen code fault
    names code fault i =
        record {
          found = (found.full code i.reached).1;
          forbidden = i.forbidden;
          not-zero = i.not-zero;
          lowest = λ k f z. let p = stands k f in
              subst (λ (k : ℕ). code ≤ k) p.holds (i.lowest p.at (omega (arith, p.below)) (λ y. z (ap bad (sym p.holds) ∙ y)));
        }

-- A turn of the walk: a pair that is not forbidden leaves what is named; of one that is, the lower is named. Assumes nothing.
use Prim.Native.Nat.{ℕ, ◌+◌, ◌<◌, ◌≤◌}
use mathlib.Core.Path.{◌≡◌, refl}
use mathlib.Core.Bool.{Bool, true, false}
use mathlib.Core.List.{List}
use lib.Dec.{leb}
use lib.ListN.{get_or}
use borrow.Author.Tests.{leb-true, leb-false}
use Rattle.std.specs.Prelude.{Option, Some, None}
use Rattle.isa.specs.Choice.{pick}
use Rattle.reach.specs.Chains.{Reaches}
use Rattle.reach.specs.Trail.{Stands}
use Rattle.reach.specs.Walk.{Found}
use Rattle.reach.proofs.Naming.{Naming, Clean, clean, kept, first, taken, free, names}
use Rattle.checker.specs.Walk.{pairs, next_codes, fault_at, lowered, NamesOf}
use Rattle.checker.specs.declared.walk.Named.{Named}

-- what the places before a head name
abbrev pub NamingOf : (ℕ → List ℕ) → (ℕ → ℕ) → List ℕ → ℕ → Option Named → Type 0
NamingOf next bad queue head None = Clean next bad queue head
NamingOf next bad queue head (Some m) = Naming next bad queue head m.code m.fault

module _ (next : ℕ → List ℕ) (bad : ℕ → ℕ) (queue new : List ℕ) (head : ℕ) (same : (j : ℕ) → j < head + 1 → get_or new j 0 ≡ get_or queue j 0) where
  abbrev here : ℕ
  here = get_or queue head 0

  pub naming-kept : (n : Option Named) → NamingOf next bad queue head n → bad here ≡ 0 → NamingOf next bad new (head + 1) n
  naming-kept None i e = clean next bad queue new head same i e
  naming-kept (Some m) i e = kept next bad queue new head same m.code m.fault i (λ y. absurd (y e))

  pub naming-lowered : (n : Option Named) → NamingOf next bad queue head n → Reaches next 0 here → (f : ℕ) → bad here ≡ f → (bad here ≡ 0 → ⊥)
      → NamingOf next bad new (head + 1) (Some (lowered n here f))
  naming-lowered None i r f e z = first next bad queue new head same r f e z i
  naming-lowered (Some m) i r f e z = go (leb m.code here) refl
    where
      go : (b : Bool) → leb m.code here ≡ b → NamingOf next bad new (head + 1) (Some (pick b m (record { code = here; fault = f })))
      go true t = kept next bad queue new head same m.code m.fault i (λ y. leb-true m.code here t)
      go false t = taken next bad queue new head same r f e z m.code m.fault i (leb-false m.code here t)

-- where the head meets the tail
pub naming-over : (mask seen queue : List ℕ) (head tail : ℕ) → Found pairs (next_codes mask) seen → ((k : ℕ) → get_or seen k 0 ≡ 1 → Stands tail queue k)
    → tail ≤ head → (n : Option Named) → NamingOf (next_codes mask) (fault_at mask) queue head n → NamesOf mask seen n
naming-over mask seen queue head tail found stands h None i =
    free (next_codes mask) (fault_at mask) pairs seen queue head tail found stands h i
naming-over mask seen queue head tail found stands h (Some m) i =
    names (next_codes mask) (fault_at mask) pairs seen queue head tail found stands h m.code m.fault i

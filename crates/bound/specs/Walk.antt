-- The walk, as the private functions state it, over any successor function on addresses: what a number says of an address, and what is remembered.
-- Then what stands at an address of a mask. No promise of an exported function cites it. Assumes nothing.
use Rattle.std.specs.Prelude.{ℕ, ◌+◌, ◌*◌, ◌≡◌, List, [], ◌∷◌, map, ◌⊎◌, eqb, length, get_or, Option, Some, None, Result, Ok, Err}
use Rattle.isa.specs.declared.Instruction.{Instruction}
use Rattle.isa.specs.Choice.{pick}
use Rattle.isa.specs.Code.{addresses}
use Rattle.isa.specs.declared.Instruction.TheVariants as I
use Rattle.rom.specs.Fetching.{read_at, cycles_at}
use Rattle.checker.specs.Marks.{Pair, pair, flow_read, fault_in, onward}
use Rattle.checker.specs.declared.flow.Flow.{Flow}
use Rattle.checker.specs.Verdicts.{Marked, Safe}
use Rattle.checker.specs.declared.flow.Flow.TheVariants.{Sub}
use Rattle.refusals.specs.declared.Refusal.{Refusal}
use Rattle.refusals.specs.declared.Refusal.TheVariants as R
use Rattle.bound.specs.Paths.{Endless, Longest}
use Rattle.bound.specs.Bounds.{within}
use Rattle.bound.specs.Lists.{endless}
use Rattle.bound.specs.declared.ways.Ways.{Ways}
use Rattle.bound.specs.declared.ways.Ways.TheVariants.{Stop, Out, One, Two}

-- no total is larger: a chain without a loop has each address once, and an address takes two cycles at most
abbrev pub most_cycles : ℕ
most_cycles = addresses * 2

-- the cycles of an address before the most that can follow
abbrev pub settled : ℕ → ℕ → ℕ
settled worst cycles = pick (eqb worst endless) endless (worst + cycles)

-- nothing follows
abbrev pub Last : (ℕ → List ℕ) → ℕ → Type 0
Last next a = next a ≡ []

module _ (next : ℕ → List ℕ) (Halt : ℕ → Type 0) (cost : ℕ → ℕ) where
  pub record Finite (a n : ℕ) : Type 0 where
    pub ends : Endless next Halt a → ⊥
    pub longest : Longest next (Last next) cost a n

  -- what a number says of an address
  pub record Told (a n : ℕ) : Type 0 where
    pub unbounded : n ≡ endless → Endless next Halt a
    pub bounded : (n ≡ endless → ⊥) → Finite a n

  -- what is remembered for each address: nothing, no bound, or the largest total. An address on the way to the one that is walked has no bound too, though
  -- it may not be known yet
  pub record Remembers (OnTheWay : ℕ → Type 0) (found : List ℕ) : Type 0 where
    pub size : length found ≡ addresses
    pub unbounded : (k : ℕ) → get_or found k 0 ≡ endless → Endless next Halt k ⊎ OnTheWay k
    pub bounded : (k : ℕ) → (get_or found k 0 ≡ 0 → ⊥) → (get_or found k 0 ≡ endless → ⊥) → Finite k (get_or found k 0)

-- ---- a mask
-- the addresses of the pairs that follow one in level 1; in level 2 they are the same
abbrev pub address_of : Pair → ℕ
address_of p = p.address

abbrev pub next_addresses : List ℕ → ℕ → List ℕ
next_addresses mask a = map address_of (within mask (pair a 1))

abbrev pub HaltsAt : List ℕ → ℕ → Type 0
HaltsAt mask a = read_at mask a ≡ Some I.Halt

abbrev pub ToldOf : List ℕ → ℕ → ℕ → Type 0
ToldOf mask = Told (next_addresses mask) (HaltsAt mask) (cycles_at mask)

abbrev pub RemembersOf : List ℕ → (ℕ → Type 0) → List ℕ → Type 0
RemembersOf mask = Remembers (next_addresses mask) (HaltsAt mask) (cycles_at mask)

-- the addresses that a flow hands on to
abbrev pub handed_to : Flow → ℕ → List ℕ
handed_to f moved = map address_of (pick (eqb (fault_in f 1) 0) (onward f moved 1) [])

-- a flow's ways do not stop
abbrev pub Follows : Ways → List ℕ → Type 0
Follows Stop rest = ⊥
Follows Out rest = [] ≡ rest
Follows (One a) rest = a ∷ [] ≡ rest
Follows (Two a b) rest = a ∷ b ∷ [] ≡ rest

-- the ways of what two bytes read as: HALT's, or those of its flow
abbrev pub HandedOn : Option Instruction → ℕ → Ways → Type 0
HandedOn d moved Stop = d ≡ Some I.Halt
HandedOn d moved Out = (d ≡ Some I.Halt → ⊥) × Follows Out (handed_to (flow_read d) moved)
HandedOn d moved (One q) = (d ≡ Some I.Halt → ⊥) × Follows (One q) (handed_to (flow_read d) moved)
HandedOn d moved (Two q r) = (d ≡ Some I.Halt → ⊥) × Follows (Two q r) (handed_to (flow_read d) moved)

-- what stands at an address: HALT, or what follows
abbrev pub StandsAt : List ℕ → ℕ → Ways → Type 0
StandsAt mask a Stop = HaltsAt mask a
StandsAt mask a Out = (HaltsAt mask a → ⊥) × Follows Out (next_addresses mask a)
StandsAt mask a (One q) = (HaltsAt mask a → ⊥) × Follows (One q) (next_addresses mask a)
StandsAt mask a (Two q r) = (HaltsAt mask a → ⊥) × Follows (Two q r) (next_addresses mask a)

-- the target of a CALL
abbrev pub target_of : Flow → Option ℕ
target_of (Sub t) = Some t.0
target_of _ = None

-- what is answered with the marks of a mask of 4,096 bytes
abbrev pub Passing : List ℕ → List ℕ → Result (Unit {0}) Refusal → Type 0
Passing mask marks (Ok u) = Marked mask marks × Safe mask
Passing mask marks (Err r) = (r ≡ R.Fails) × (Safe mask → ⊥)

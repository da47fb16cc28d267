-- The pairs of a mask that chains reach. Their levels are 0, 1 and 2, so that chains of pairs are chains of their codes; and they are in range
-- where the mask is bytes, since an instruction that was read names only targets that are addresses. Assumes nothing.
use Prim.Native.Nat.{ℕ, ◌+◌, ◌*◌, ◌/◌, ◌%◌, ◌<◌}
use native.Mathlib.Omega.{arith}
use mathlib.Core.Path.{◌≡◌, refl}
use mathlib.Core.Bool.{Bool, true}
use mathlib.Core.List.{List, [], map}
use lib.Dec.{eqb}
use borrow.Author.Tests.{ltb-true}
use Rattle.std.specs.Prelude.{Option, Some, None}
use Rattle.isa.specs.Choice.{pick}
use Rattle.isa.specs.Code.{addresses, in_range}
use Rattle.isa.specs.Views.{View, on, jmp, branch, call, ret, reti, ei, view}
use Rattle.isa.specs.declared.Instruction.{Instruction}
use Rattle.rom.specs.Fetching.{Bytes, read_at, moved_from}
use Rattle.rom.proofs.Fetching.{read-fields}
use Rattle.reach.specs.Chains.{Member, Reaches, Shortest}
use Rattle.reach.specs.Walk.{All, Small}
use Rattle.reach.proofs.Chains.{all-member, all_of, all_map, reached-all, of_code, to-code, shortest-at, shortest-code}
use Rattle.checker.specs.declared.flow.Flow.{Flow}
use Rattle.checker.specs.declared.flow.Flow.TheVariants.{Unread, On, Enable, Jump, To, Sub, Back}
use Rattle.checker.specs.Marks.{levels, Pair, pair, flow_by, flow_of, flow_read, flow_at, handed, fault, successors, Reached}
use Rattle.checker.specs.Verdicts.{rank}
use Rattle.checker.specs.Walk.{pairs, pair_of, next_codes}

-- ---- what a flow hands on
-- the target of a jump or a call is an address
abbrev pub Targets : Flow → Type 0
Targets Unread = Unit {0}
Targets On = Unit {0}
Targets Enable = Unit {0}
Targets (Jump t) = t.0 < addresses
Targets (To t) = Unit {0}
Targets (Sub t) = t.0 < addresses
Targets Back = Unit {0}

targets : (i : Instruction) → in_range i ≡ true → Targets (flow_of i)
unfolding flow_of in_range
targets i = go (view i)
  where
    go : {i : Instruction} (v : View i) → in_range i ≡ true → Targets (flow_by v)
    go on e = tt
    go (jmp t) e = ltb-true t.0 addresses e
    go (branch t k) e = tt
    go (call t) e = ltb-true t.0 addresses e
    go ret e = tt
    go reti e = tt
    go ei e = tt

abbrev InAddresses : Pair → Type 0
InAddresses p = p.address < addresses

abbrev pub InLevels : Pair → Type 0
InLevels p = p.level < levels

handed-addresses : (f : Flow) (moved l : ℕ) → Targets f → moved < addresses → All InAddresses (handed f moved l)
handed-addresses Unread moved l t h = tt
handed-addresses On moved l t h = (h, tt)
handed-addresses Enable moved l t h = (h, (omega arith, (omega arith, tt)))
handed-addresses (Jump a) moved l t h = (t, tt)
handed-addresses (To a) moved l t h = (h, (omega arith, tt))
handed-addresses (Sub a) moved l t h = (t, (h, tt))
handed-addresses Back moved l t h = tt

handed-levels : (f : Flow) (moved l : ℕ) → l < levels → All InLevels (handed f moved l)
handed-levels Unread moved l k = tt
handed-levels On moved l k = (k, tt)
handed-levels Enable moved l k = (k, (omega arith, (omega arith, tt)))
handed-levels (Jump a) moved l k = (k, tt)
handed-levels (To a) moved l k = (k, (k, tt))
handed-levels (Sub a) moved l k = (omega arith, (omega arith, tt))
handed-levels Back moved l k = tt

-- ---- pairs and their codes
pub pair-rank : (p : Pair) → InLevels p → pair_of (rank p) ≡ p
pair-rank p h =
    let a : (p.address * levels + p.level) / levels ≡ p.address = omega arith in
    let l : (p.address * levels + p.level) % levels ≡ p.level = omega arith in
    λ k. record { address = a k; level = l k }

pub rank-pair : (c : ℕ) → rank (pair_of c) ≡ c
rank-pair c = omega arith

-- ---- one successor
picked : (b : Bool) (ps : List Pair) (q : Pair) → Member q (pick b ps []) → Member q ps
picked mathlib.Core.Bool.false ps q m = elim m [ ]
picked true ps q m = m

module _ (mask : List ℕ) where
  -- what holds of all that a pair's flow hands on holds of its successors
  each_next : (P : Pair → Type 0) (p q : Pair) → All P (handed (flow_at mask p.address) (moved_from mask p.address) p.level) → Member q (successors mask p) → P q
  unfolding successors
  each_next P p q h m =
      all-member P (picked (eqb (fault mask p) 0) (handed (flow_at mask p.address) (moved_from mask p.address) p.level) q m) h

  next_level : (p q : Pair) → InLevels p → Member q (successors mask p) → InLevels q
  next_level p q k = each_next InLevels p q (handed-levels (flow_at mask p.address) (moved_from mask p.address) p.level k)

  pub reached-level : (p : Pair) → Reached mask p → InLevels p
  reached-level = reached-all InLevels (omega arith) next_level

  -- ---- codes
  pub code-reached : (k : ℕ) → Reaches (next_codes mask) 0 k → Reached mask (pair_of k)
  code-reached = of_code (successors mask) (pair 0 0) rank pair_of InLevels (omega arith) next_level pair-rank

  pub reached-code : (p : Pair) → Reached mask p → InLevels p × Reaches (next_codes mask) 0 (rank p)
  reached-code = to-code (successors mask) (pair 0 0) rank pair_of InLevels (omega arith) next_level pair-rank

  pub code-shortest : (p : Pair) {ks : List ℕ} → InLevels p → Shortest (next_codes mask) 0 ks (rank p) → Shortest (successors mask) (pair 0 0) (map pair_of ks) p
  code-shortest p h = shortest-at (successors mask) (pair 0 0) rank pair_of InLevels (omega arith) next_level pair-rank h

  pub shortest-codes : (p : Pair) {ps : List Pair} → InLevels p → Shortest (successors mask) (pair 0 0) ps p → Shortest (next_codes mask) 0 (map rank ps) (rank p)
  shortest-codes p h = shortest-code (successors mask) (pair 0 0) rank pair_of InLevels (omega arith) next_level pair-rank h

  -- ---- ranges
  module _ (bytes : Bytes mask) where
    pub flow-targets : (a : ℕ) → Targets (flow_at mask a)
    unfolding flow_at
    flow-targets a = go (read_at mask a) refl
      where
        go : (d : Option Instruction) → read_at mask a ≡ d → Targets (flow_read d)
        go (Some i) e = targets i (read-fields mask a bytes i e)
        go None e = tt

    next_address : (p q : Pair) → Member q (successors mask p) → InAddresses q
    next_address p q =
        each_next InAddresses p q (handed-addresses (flow_at mask p.address) (moved_from mask p.address) p.level (flow-targets p.address) (omega arith))

    pub reached-address : (p : Pair) → Reached mask p → InAddresses p
    reached-address = reached-all InAddresses (omega arith) (λ p q h. next_address p q)

    pub codes-small : (c : ℕ) → Small pairs (next_codes mask c)
    codes-small c =
        all_map rank (λ (k : ℕ). k < pairs) (successors mask (pair_of c))
        (all_of (λ (q : Pair). rank q < pairs) (successors mask (pair_of c))
        (λ q m. omega (arith, next_address (pair_of c) q m, next_level (pair_of c) q (omega arith) m)))

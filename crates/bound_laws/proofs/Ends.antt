-- In a passed mask, from a reached pair above main from which no loop and no HALT can be reached: what comes next in its level is such a pair too,
-- and some chain comes to a return, of one cycle or more. Follow first successors: a chain has each pair once, so that it meets a return before it
-- has more pairs than there are. Assumes nothing.
use Prim.Native.Nat.{ℕ, zero, suc, ◌+◌, ◌<◌}
use native.Mathlib.Omega.{arith}
use mathlib.Core.Path.{◌≡◌, refl, ap, subst}
use mathlib.Core.List.{List, [], ◌∷◌}
use mathlib.Core.Logic.{◌⊎◌, inl, inr}
use lib.Dec.{eqb}
use lib.ListN.{length}
use borrow.Author.Tests.{eq-eqb, ne_eqb}
use Rattle.isa.specs.Choice.{pick}
use Rattle.isa.specs.Code.{addresses}
use Rattle.rom.specs.Fetching.{Bytes, moved_from}
use Rattle.reach.specs.Chains.{Member, here, Chain, one, more}
use Rattle.reach.proofs.Chains.{map-length}
use Rattle.checker.specs.Marks.{Pair, pair, flow_at, fault_in, onward, fault, Reached}
use Rattle.checker.specs.Verdicts.{Safe}
use Rattle.checker.specs.declared.flow.Flow.{Flow}
use Rattle.checker.specs.declared.flow.Flow.TheVariants.{Unread, On, Enable, Jump, To, Sub, Back}
use Rattle.checker.proofs.Reach.{reached-address}
use Rattle.bound.specs.Paths.{Endless, total, Spends}
use Rattle.bound.specs.Bounds.{within, Returns, cycles_of, Unbounded}
use Rattle.bound.specs.Walk.{address_of, next_addresses, HaltsAt}
use Rattle.bound.proofs.Addresses.{next_small, returned-cycles}
use Rattle.bound.proofs.Levels.{within-reached, keeps, chain-addresses, endless-pairs}
use Rattle.bound.proofs.Loops.{endless-over, few}

-- CALL gives a fault above main
pub no_call : (l : ℕ) → 0 < l → ◌≡◌ {A = ℕ} (pick (eqb l 0) 0 2) 0 → ⊥
no_call l h e = let two : ◌≡◌ {A = ℕ} 2 0 = rw (ne_eqb l 0 (λ z. omega arith)) at e in omega arith

module _ (mask : List ℕ) where
  -- a reached pair above main, and nothing without end from it
  pub record Waits (q : Pair) : Type 0 where
    pub reached : Reached mask q
    pub above : 0 < q.level
    pub ends : Unbounded mask q → ⊥

  -- the chains to a return: one pair, or one more before a chain
  pub spends-here : {q : Pair} → Returns mask q → Spends (within mask) (Returns mask) (cycles_of mask) q (cycles_of mask q)
  unfolding total
  spends-here {q} r = record { chain = q ∷ []; end = q; links = one; ends = r; spent = omega arith }

  pub spends-over : {p q : Pair} {n : ℕ} → Member p (within mask q) → Spends (within mask) (Returns mask) (cycles_of mask) p n
      → Spends (within mask) (Returns mask) (cycles_of mask) q (cycles_of mask q + n)
  unfolding total
  spends-over {q = q} m s =
      record { chain = q ∷ s.chain; end = s.end; links = more m s.links; ends = s.ends; spent = ap (λ (n : ℕ). cycles_of mask q + n) s.spent }

  -- a chain to a return
  pub record Finds (q : Pair) : Type 0 where
    pub cycles : ℕ
    pub some : 0 < cycles
    pub spends : Spends (within mask) (Returns mask) (cycles_of mask) q cycles

  module _ (safe : Safe mask) where
    -- a reached pair has no fault, so it hands on what its flow says
    pub within_of : (q : Pair) → Reached mask q → within mask q ≡ onward (flow_at mask q.address) (moved_from mask q.address) q.level
    unfolding within
    within_of q r = rw (eq-eqb (fault mask q) 0 (safe q r)) refl

    pub no-fault-of : (q : Pair) (f : Flow) → Reached mask q → flow_at mask q.address ≡ f → fault_in f q.level ≡ 0
    unfolding fault
    no-fault-of q f r e = subst (λ (x : Flow). fault_in x q.level ≡ 0) e (safe q r)

    pub within-waits : (q p : Pair) → Waits q → Member p (within mask q) → Waits p
    within-waits q p w m =
        record {
          reached = within-reached mask q p w.reached m;
          above = omega (arith, keeps mask q.level w.above q p refl m, w.above);
          ends = λ e. w.ends (endless-over m e);
        }

    -- a return, or something comes next
    abbrev Further : Pair → Type 0
    Further q = Returns mask q ⊎ ((p : Pair) × Member p (within mask q))

    further : (q : Pair) → Waits q → Further q
    further q w = go (flow_at mask q.address) refl
      where
        moved : ℕ
        moved = moved_from mask q.address

        next : (p : Pair) (f : Flow) → flow_at mask q.address ≡ f → Member p (onward f moved q.level) → Further q
        next p f e m = inr (p, rw (within_of q w.reached, e) m)

        go : (f : Flow) → flow_at mask q.address ≡ f → Further q
        go Unread e = absurd (omega (arith, no-fault-of q Unread w.reached e))
        go On e = next (pair moved q.level) On e here
        go Enable e = next (pair moved q.level) Enable e here
        go (Jump t) e = next (pair t.0 q.level) (Jump t) e here
        go (To t) e = next (pair moved q.level) (To t) e here
        go (Sub t) e = absurd (no_call q.level w.above (no-fault-of q (Sub t) w.reached e))
        go Back e = inl e

    module _ (bytes : Bytes mask) where
      found-over : {q p : Pair} → Member p (within mask q) → Finds p → Finds q
      found-over {q} m f = record { cycles = cycles_of mask q + f.cycles; some = omega (arith, f.some); spends = spends-over m f.spends }

      found_here : {q : Pair} → Returns mask q → Finds q
      found_here {q} r = record { cycles = cycles_of mask q; some = omega (arith, returned-cycles mask bytes q.address r); spends = spends-here r }

      -- first successors to a return, or f of them
      abbrev Walks : ℕ → Pair → Type 0
      Walks f q = Finds q ⊎ ((ps : List Pair) × (r : Pair) × Chain (within mask) q ps r × (length ps ≡ suc f))

      walks-over : (f : ℕ) {q p : Pair} → Member p (within mask q) → Walks f p → Walks (suc f) q
      walks-over f m (inl x) = inl (found-over m x)
      walks-over f {q} m (inr x) = inr (q ∷ x.0, x.1, more m x.2, ap suc x.3)

      walked : (f : ℕ) (q : Pair) → Waits q → Walks f q
      walked zero q w = inr (q ∷ [], q, one, refl)
      walked (suc f) q w = go (further q w) (walked f)
        where
          go : Further q → ((p : Pair) → Waits p → Walks f p) → Walks (suc f) q
          go (inl r) rest = inl (found_here r)
          go (inr x) rest = walks-over f x.1 (rest x.0 (within-waits q x.0 w x.1))

      -- a chain has at most as many pairs as there are addresses
      short : (q r : Pair) (ps : List Pair) → Waits q → Chain (within mask) q ps r → length ps ≡ suc addresses → ⊥
      short q r ps w c e =
          let ends : Endless (next_addresses mask) (HaltsAt mask) q.address → ⊥ = λ u. w.ends (endless-pairs mask q.level w.above q.address u) in
          omega (
            arith,
            e,
            map-length address_of ps,
            few addresses (next_addresses mask) (λ k. next_small mask k bytes) (reached-address mask bytes q w.reached)
                (chain-addresses mask q.level w.above refl c).1 ends,
          )

      pub finds : (q : Pair) → Waits q → Finds q
      finds q w = go (walked addresses q w)
        where
          go : Walks addresses q → Finds q
          go (inl f) = f
          go (inr x) = absurd (short q x.1 x.0 w x.2 x.3)

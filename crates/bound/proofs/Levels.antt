-- Above main the pairs that follow are in the pair's own level, and their addresses do not depend on it: so chains of pairs are chains of addresses. Where
-- no reached pair is forbidden, nothing follows a reached pair exactly where it is a return. Assumes nothing.
use Prim.Native.Nat.{ℕ, ◌+◌, ◌<◌, ◌≤◌}
use native.Mathlib.Omega.{arith}
use mathlib.Core.Path.{◌≡◌, refl, sym, ap, subst, ◌∙◌}
use mathlib.Core.Bool.{Bool, true, false}
use mathlib.Core.List.{List, [], ◌∷◌, ◌++◌, map}
use mathlib.Core.Logic.{◌⊎◌, inl, inr}
use lib.Dec.{eqb}
use lib.ListN.{length}
use borrow.Author.Tests.{eqb-true, ne_eqb}
use Rattle.isa.specs.Choice.{pick}
use Rattle.rom.specs.Fetching.{Bytes, cycles_at, moved_from}
use Rattle.reach.specs.Chains.{Member, here, there, Chain, one, more, Reaches}
use Rattle.reach.specs.Walk.{All}
use Rattle.reach.proofs.Chains.{all-member, to_map, of_map, reached-next}
use Rattle.checker.specs.Marks.{Pair, pair, flow_at, fault_in, onward, vectors, handed, fault, successors, Reached}
use Rattle.checker.specs.Verdicts.{Safe}
use Rattle.checker.specs.declared.flow.Flow.{Flow}
use Rattle.checker.specs.declared.flow.Flow.TheVariants.{Unread, On, Enable, Jump, To, Sub, Back}
use Rattle.bound.specs.Paths.{Loop, Endless, total, Spends}
use Rattle.bound.specs.Bounds.{within, Returns, Halts, cycles_of, Unbounded, Bounded}
use Rattle.bound.specs.Lists.{endless}
use Rattle.bound.specs.Walk.{address_of, next_addresses, HaltsAt, Last, ToldOf, handed_to}
use Rattle.bound.proofs.Addresses.{next-flow, returned-cycles}

-- one of a list is one of a longer one
before_more : {A : Type 0} {q : A} {ps : List A} (qs : List A) → Member q ps → Member q (ps ++ qs)
before_more qs here = here
before_more qs (there m) = there (before_more qs m)

some : (x : ℕ) (xs : List ℕ) → x ∷ xs ≡ [] → ⊥
some x xs e = let h = ap length e in omega arith

module _ (mask : List ℕ) where
  -- what follows within a level is among the successors
  within-next : (p q : Pair) → Member q (within mask p) → Member q (successors mask p)
  unfolding within successors
  within-next p q = go (eqb (fault mask p) 0)
    where
      f : Flow
      f = flow_at mask p.address

      go : (b : Bool) → Member q (pick b (onward f (moved_from mask p.address) p.level) []) → Member q (pick b (handed f (moved_from mask p.address) p.level) [])
      go true m = before_more (vectors f) m
      go false m = m

  pub within-reached : (p q : Pair) → Reached mask p → Member q (within mask p) → Reached mask q
  within-reached p q r m = reached-next r (within-next p q m)

  module _ (l : ℕ) (above : 0 < l) where
    -- the level decides nothing
    flow-above : (f : Flow) (moved : ℕ) → map address_of (pick (eqb (fault_in f l) 0) (onward f moved l) []) ≡ handed_to f moved
    flow-above Unread moved = refl
    flow-above On moved = refl
    flow-above Enable moved = refl
    flow-above (Jump t) moved = refl
    flow-above (To t) moved = refl
    flow-above (Sub t) moved = rw (ne_eqb l 0 (λ e. omega arith)) refl
    flow-above Back moved = rw (ne_eqb l 0 (λ e. omega arith)) refl

    next-above : (a : ℕ) → map address_of (within mask (pair a l)) ≡ next_addresses mask a
    unfolding within fault
    next-above a = flow-above (flow_at mask a) (moved_from mask a) ∙ sym (next-flow mask a)

    -- nor does it change
    abbrev In : Pair → Type 0
    In p = p.level ≡ l

    all_above : (f : Flow) (moved : ℕ) → All In (pick (eqb (fault_in f l) 0) (onward f moved l) [])
    all_above Unread moved = tt
    all_above On moved = (refl, tt)
    all_above Enable moved = (refl, tt)
    all_above (Jump t) moved = (refl, tt)
    all_above (To t) moved = (refl, (refl, tt))
    all_above (Sub t) moved = rw (ne_eqb l 0 (λ e. omega arith)) tt
    all_above Back moved = rw (ne_eqb l 0 (λ e. omega arith)) tt

    pub keeps : (p q : Pair) → In p → Member q (within mask p) → In q
    unfolding within fault
    keeps p q e m =
        all-member In (subst (λ (k : ℕ). Member q (pick (eqb (fault_in (flow_at mask p.address) k) 0) (onward (flow_at mask p.address) (moved_from mask p.address) k) [])) e m)
        (all_above (flow_at mask p.address) (moved_from mask p.address))

    abbrev at : ℕ → Pair
    at a = pair a l

    back : (p : Pair) → In p → at (address_of p) ≡ p
    back p e = λ k. record { address = p.address; level = sym e k }

    -- ---- one link, and chains
    next-pair : (a b : ℕ) → Member b (next_addresses mask a) → Member (at b) (within mask (at a))
    next-pair a b m =
        let q = of_map address_of (within mask (at a)) (subst (Member b) (sym (next-above a)) m) in
        subst (λ (p : Pair). Member p (within mask (at a))) (sym (ap at q.2 ∙ back q.0 (keeps (at a) q.0 refl q.1))) q.1

    next_address : (p q : Pair) → In p → Member q (within mask p) → Member (address_of q) (next_addresses mask (address_of p))
    next_address p q e m =
        subst (Member (address_of q)) (ap (λ (p : Pair). map address_of (within mask p)) (sym (back p e)) ∙ next-above (address_of p)) (to_map address_of m)

    chain-pairs : {a b : ℕ} {ks : List ℕ} → Chain (next_addresses mask) a ks b → Chain (within mask) (at a) (map at ks) (at b)
    chain-pairs one = one
    chain-pairs (more {p = a} {q = b} m c) = more (next-pair a b m) (chain-pairs c)

    pub chain-addresses : {p q : Pair} {ps : List Pair} → In p → Chain (within mask) p ps q → In q × Chain (next_addresses mask) (address_of p) (map address_of ps) (address_of q)
    chain-addresses e one = (e, one)
    chain-addresses {p} e (more {q = q} m c) = let r = chain-addresses (keeps p q e m) c in (r.0, more (next_address p q e m) r.1)

    reaches_pairs : {a b : ℕ} → Reaches (next_addresses mask) a b → Reaches (within mask) (at a) (at b)
    reaches_pairs r = record { chain = map at r.chain; links = chain-pairs r.links }

    reaches-addresses : {p q : Pair} → In p → Reaches (within mask) p q → In q × Reaches (next_addresses mask) (address_of p) (address_of q)
    reaches-addresses e r = let c = chain-addresses e r.links in (c.0, record { chain = map address_of r.chain; links = c.1 })

    -- ---- no bound
    pub endless-pairs : (a : ℕ) → Endless (next_addresses mask) (HaltsAt mask) a → Unbounded mask (at a)
    endless-pairs a e = record { at = at e.at; reached = reaches_pairs e.reached; shown = go e.shown }
      where
        go : Loop (next_addresses mask) e.at ⊎ HaltsAt mask e.at → Loop (within mask) (at e.at) ⊎ Halts mask (at e.at)
        go (inl k) = inl (record { over = at k.over; first = next-pair e.at k.over k.first; rest = reaches_pairs k.rest })
        go (inr h) = inr h

    pub endless-addresses : (a : ℕ) → Unbounded mask (at a) → Endless (next_addresses mask) (HaltsAt mask) a
    endless-addresses a e =
        let r = reaches-addresses refl e.reached in record { at = address_of e.at; reached = r.1; shown = go r.0 e.shown }
      where
        go : In e.at → Loop (within mask) e.at ⊎ Halts mask e.at → Loop (next_addresses mask) (address_of e.at) ⊎ HaltsAt mask (address_of e.at)
        go i (inl k) =
            inl (record { over = address_of k.over; first = next_address e.at k.over i k.first; rest = (reaches-addresses (keeps e.at k.over i k.first) k.rest).1 })
        go i (inr h) = inr h

    -- ---- totals
    total-pairs : (ks : List ℕ) → total (cycles_of mask) (map at ks) ≡ total (cycles_at mask) ks
    unfolding total
    total-pairs [] = refl
    total-pairs (k ∷ ks) = ap (λ (n : ℕ). cycles_at mask k + n) (total-pairs ks)

    total-addresses : (ps : List Pair) → total (cycles_at mask) (map address_of ps) ≡ total (cycles_of mask) ps
    unfolding total
    total-addresses [] = refl
    total-addresses (p ∷ ps) = ap (λ (n : ℕ). cycles_of mask p + n) (total-addresses ps)

    -- ---- ends
    return-last : (p : Pair) → In p → Returns mask p → Last (next_addresses mask) (address_of p)
    return-last p e r = next-flow mask (address_of p) ∙ ap (λ (f : Flow). handed_to f (moved_from mask (address_of p))) r

    last-return : (f : Flow) (moved : ℕ) → fault_in f l ≡ 0 → handed_to f moved ≡ [] → f ≡ Back
    last-return Unread moved z e = absurd (omega arith)
    last-return On moved z e = absurd (some _ _ e)
    last-return Enable moved z e = absurd (some _ _ e)
    last-return (Jump t) moved z e = absurd (some _ _ e)
    last-return (To t) moved z e = absurd (some _ _ e)
    last-return (Sub t) moved z e = absurd (call-above (eqb l 0) (eqb-true l 0) z)
      where
        call-above : (b : Bool) → (b ≡ true → l ≡ 0) → ◌≡◌ {A = ℕ} (pick b 0 2) 0 → ⊥
        call-above true f y = let k = f refl in omega arith
        call-above false f y = omega arith
    last-return Back moved z e = refl

    module _ (safe : Safe mask) where
      chain-reached : {p q : Pair} {ps : List Pair} → Reached mask p → Chain (within mask) p ps q → Reached mask q
      chain-reached r one = r
      chain-reached r (more {p = p} {q = q} m c) = chain-reached (within-reached p q r m) c

      spends-pairs : (a n : ℕ) → Reached mask (at a) → Spends (next_addresses mask) (Last (next_addresses mask)) (cycles_at mask) a n
          → Spends (within mask) (Returns mask) (cycles_of mask) (at a) n
      unfolding fault
      spends-pairs a n r s =
          let c = chain-pairs s.links in
          let z : fault_in (flow_at mask s.end) l ≡ 0 = safe (at s.end) (chain-reached r c) in
          record {
            chain = map at s.chain;
            end = at s.end;
            links = c;
            ends = last-return (flow_at mask s.end) (moved_from mask s.end) z (sym (next-flow mask s.end) ∙ s.ends);
            spent = total-pairs s.chain ∙ s.spent;
          }

      spends-addresses : (a n : ℕ) → Spends (within mask) (Returns mask) (cycles_of mask) (at a) n
          → Spends (next_addresses mask) (Last (next_addresses mask)) (cycles_at mask) a n
      spends-addresses a n s =
          let c = chain-addresses refl s.links in
          record {
            chain = map address_of s.chain;
            end = address_of s.end;
            links = c.1;
            ends = return-last s.end c.0 s.ends;
            spent = total-addresses s.chain ∙ s.spent;
          }

      -- ---- what the walk's number says of a pair
      pub told-unbounded : (a n : ℕ) → ToldOf mask a n → n ≡ endless → Unbounded mask (at a)
      told-unbounded a n t e = endless-pairs a (t.unbounded e)

      pub told-bounded : (a n : ℕ) → Reached mask (at a) → ToldOf mask a n → (n ≡ endless → ⊥) → Bounded mask (at a) n
      told-bounded a n r t e =
          let f = t.bounded e in
          record {
            ends = λ u. f.ends (endless-addresses a u);
            longest = record { met = spends-pairs a n r f.longest.met; most = λ m s. f.longest.most m (spends-addresses a m s) };
          }

-- a bound counts its return
total-end : {A : Type 0} {next : A → List A} (cost : A → ℕ) {p q : A} {ps : List A} → Chain next p ps q → cost q ≤ total cost ps
unfolding total
total-end cost one = omega arith
total-end cost (more m c) = let h = total-end cost c in omega arith

pub bounded-some : (mask : List ℕ) → Bytes mask → (p : Pair) (n : ℕ) → Bounded mask p n → 0 < n
bounded-some mask bytes p n b =
    let s = b.longest.met in
    let h = total-end (cycles_of mask) s.links in
    omega (arith, returned-cycles mask bytes s.end.address s.ends, s.spent)

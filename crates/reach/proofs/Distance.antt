-- The queue is in the order of distance, over any successor function. Going back by the places before, a place counts the places on its way;
-- since the place before rises with the place, so does the count. A successor of what stands at a place stands at one that counts at most one
-- more. So by induction along any chain from the start, what it ends in stands at a place that counts at most as many as the chain has, and the
-- way back from there is a shortest chain. Assumes nothing.
use Prim.Native.Nat.{ℕ, zero, suc, ◌+◌, ◌<◌, ◌≤◌}
use native.Mathlib.Omega.{arith}
use native.Mathlib.Decide.{dec_lt, dec_le}
use mathlib.Core.Path.{◌≡◌, sym, subst}
use mathlib.Core.List.{List, map}
use lib.ListN.{length, get_or}
use Rattle.reach.specs.Chains.{Member, Chain, one, more, Shortest}
use Rattle.reach.specs.Trail.{StandsFirst, Trail, Before, Counted, origin, onward, Up, stay, climb}
use Rattle.reach.proofs.Chains.{map-length}

module _ (next : ℕ → List ℕ) (queue starts : List ℕ) (tail : ℕ) (t : Trail next queue starts tail tail) where
  abbrev at : ℕ → ℕ
  at j = get_or queue j 0

  -- ---- the place before
  -- a turn that started by place i or before is no later than the one before place j, if j is i or later
  no-later : {g h i j : ℕ} → g < i → get_or starts g 0 ≤ i → i ≤ j → Before starts h j → g ≤ h
  no-later {g} {h} {i} {j} l s m b = go (dec_le g h)
    where
      go : Dec (g ≤ h) → g ≤ h
      go (yes k) = k
      go (no k) = absurd (omega (arith, b.last g (omega arith) (omega arith)))

  -- among the first places, the last that started at j or before
  search-back : (j n : ℕ) → 0 < j → n < j → (h : ℕ) × (h ≤ n) × (get_or starts h 0 ≤ j) × ((i : ℕ) → h < i → i ≤ n → j < get_or starts i 0)
  search-back j zero z l = (0, omega arith, omega (arith, t.opens), λ i a b. absurd (omega arith))
  search-back j (suc n) z l = go (search-back j n z (omega arith)) (dec_le (get_or starts (suc n) 0) j)
    where
      go : ((h : ℕ) × (h ≤ n) × (get_or starts h 0 ≤ j) × ((i : ℕ) → h < i → i ≤ n → j < get_or starts i 0)) → Dec (get_or starts (suc n) 0 ≤ j)
          → (h : ℕ) × (h ≤ suc n) × (get_or starts h 0 ≤ j) × ((i : ℕ) → h < i → i ≤ suc n → j < get_or starts i 0)
      go r (yes k) = (suc n, omega arith, k, λ i a b. absurd (omega arith))
      go r (no k) = let m = r.1 in (r.0, omega arith, r.2, λ i a b. above i a b (dec_le i n))
        where
          above : (i : ℕ) → r.0 < i → i ≤ suc n → Dec (i ≤ n) → j < get_or starts i 0
          above i a b (yes c) = r.3 i a c
          above i a b (no c) = let e : i ≡ suc n = omega arith in subst (λ (i : ℕ). j < get_or starts i 0) (sym e) (omega arith)

  before : (j : ℕ) → 0 < j → (h : ℕ) × Before starts h j
  before zero z = absurd (omega arith)
  before (suc j) z =
      let r = search-back (suc j) j z (omega arith) in
      let m = r.1 in
      (r.0, record { earlier = omega arith; begun = r.2; last = λ i a b. r.3 i a (omega arith) })

  -- ---- the count rises with the place
  rises : {i j a b : ℕ} → Counted starts i a → Counted starts j b → i ≤ j → j < tail → a ≤ b
  rises origin origin h k = omega arith
  rises origin (onward l d) h k = omega arith
  rises (onward l c) origin h k = let e = l.earlier in absurd (omega arith)
  rises (onward l c) (onward m d) h k =
      let e = m.earlier in
      let r = rises c d (no-later l.earlier l.begun h m) (omega arith) in
      omega arith

  each : (fuel j : ℕ) → j ≤ fuel → j < tail → (c : ℕ) × Counted starts j c
  each zero j h k = let e : 0 ≡ j = omega arith in (1, subst (λ (j : ℕ). Counted starts j 1) e origin)
  each (suc fuel) j h k = go (each fuel) (dec_lt 0 j)
    where
      go : ((i : ℕ) → i ≤ fuel → i < tail → (c : ℕ) × Counted starts i c) → Dec (0 < j) → (c : ℕ) × Counted starts j c
      go less (yes z) =
          let b = before j z in
          let e = b.1.earlier in
          let r = less b.0 (omega arith) (omega arith) in
          (suc r.0, onward b.1 r.1)
      go less (no z) = let e : 0 ≡ j = omega arith in (1, subst (λ (j : ℕ). Counted starts j 1) e origin)

  -- a place found in the turn of i or before counts at most one more than i
  after : {i j a b : ℕ} → i < tail → ((h : ℕ) → i < h → h < tail → j < get_or starts h 0) → j < tail → Counted starts i a → Counted starts j b → b ≤ suc a
  after h s k c origin = omega arith
  after {i} {j} h s k c (onward {h = g} l d) = let r = rises d c (go (dec_le g i)) h in omega arith
    where
      go : Dec (g ≤ i) → g ≤ i
      go (yes m) = m
      go (no m) = absurd (omega (arith, l.begun, l.earlier, s g (omega arith) (omega (arith, l.earlier))))

  -- ---- along a chain
  -- what a chain ends in stands at a place that counts at most as many as came before the chain and it has
  record Close (r most : ℕ) : Type 0 where
    place : ℕ
    below : place < tail
    holds : at place ≡ r
    count : ℕ
    counted : Counted starts place count
    no_more : suc count ≤ most

  along : {p r : ℕ} {ps : List ℕ} (i a : ℕ) → i < tail → at i ≡ p → Counted starts i a → Chain next p ps r → Close r (a + length ps)
  along i a h e c one = record { place = i; below = h; holds = e; count = a; counted = c; no_more = omega arith }
  along {p} {r} i a h e c (more {q = q} {ps = ps} m d) =
      let n = t.near i h q (subst (λ (p : ℕ). Member q (next p)) (sym e) m) in
      let j = n.stands.at in
      let b = each j j (omega arith) n.stands.below in
      let k : b.0 ≤ suc a = after h n.soon n.stands.below c b.1 in
      let s = along j b.0 n.stands.below n.stands.holds b.1 d in
      let l : suc s.count ≤ b.0 + length ps = s.no_more in
      record {
        place = s.place;
        below = s.below;
        holds = s.holds;
        count = s.count;
        counted = s.counted;
        no_more = omega arith;
      }

  -- ---- the way back
  up-below : {i k : ℕ} {js : List ℕ} → Up starts i js k → i ≤ k
  up-below stay = omega arith
  up-below (climb b u) = let m = up-below u in let n = b.earlier in omega arith

  step : {i j : ℕ} → Before starts i j → j < tail → Member (at j) (next (at i))
  step {i} {j} b l = let e = b.earlier in t.linked i j (omega arith) l b.begun (λ h x y. go h x y (dec_lt h j))
    where
      go : (h : ℕ) → i < h → h < tail → Dec (h < j) → j < get_or starts h 0
      go h x y (yes m) = b.last h x m
      go h x y (no m) = omega (arith, t.later h y)

  up-chain : {i k : ℕ} {js : List ℕ} → Up starts i js k → k < tail → Chain next (at i) (map at js) (at k)
  up-chain stay h = one
  up-chain (climb b u) h = let m = up-below u in more (step b (omega arith)) (up-chain u h)

  pub shortest : {js : List ℕ} {k c code : ℕ} → 0 < tail → k < tail → Up starts 0 js k → Counted starts k c → c ≡ length js → StandsFirst queue code k
      → Shortest next 0 (map at js) code
  shortest {js} {k} {c} {code} z h u n e f =
      record {
        links = subst (λ (s : ℕ). Chain next s (map at js) code) t.start (subst (Chain next (at 0) (map at js)) f.holds (up-chain u h));
        least = λ other d. least other (along 0 1 z t.start origin d);
      }
    where
      least : (other : List ℕ) → Close code (1 + length other) → length (map at js) ≤ length other
      least other s =
          let m : k ≤ s.place = f.first s.place s.holds in
          let l : c ≤ s.count = rises n s.counted m s.below in
          omega (arith, map-length at js, s.no_more)

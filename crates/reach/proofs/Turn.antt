-- The walk on plain values, over any successor function on codes below n. Every found code stands in the queue and is reached; every
-- successor of a code that stands before the head is found. A turn keeps both: it pushes the successors of the code at the head. When the
-- head meets the tail the found codes hold the start, 0, and are closed under successors, so they are exactly the reached ones. Assumes
-- nothing.
use Prim.Native.Nat.{ℕ, suc, ◌+◌, ◌<◌, ◌≤◌}
use native.Mathlib.Omega.{arith}
use native.Mathlib.Decide.{ℕ_discrete, dec_lt}
use mathlib.Core.Path.{◌≡◌, refl, sym, ap, subst, ◌∙◌}
use mathlib.Core.List.{List, [], ◌∷◌}
use lib.ListN.{length, get_or, set, length-set}
use lib.Seq.{get_or-set_same, get_or-set_other}
use Rattle.reach.specs.Chains.{Member, here, there, Reaches}
use Rattle.reach.specs.Trail.{Stands}
use Rattle.reach.specs.Walk.{All, Small, Work, work, pushed, pushed_all, zeros, Room, Found}
use Rattle.reach.proofs.Chains.{all-member, all_of, reached-start, reached-next, reached-all}
use Rattle.reach.proofs.Count.{zeros-set, after-set, found-also, push-cases, room-left, room-new}

-- where a code stands in the queue
abbrev Place : Work → ℕ → Type 0
Place w k = Stands w.tail w.queue k

-- nothing found is lost
pub record Grows (v w : Work) : Type 0 where
  pub tail : v.tail ≤ w.tail
  pub seen : (k : ℕ) → get_or v.seen k 0 ≡ 1 → get_or w.seen k 0 ≡ 1
  pub queue : (j : ℕ) → j < v.tail → get_or w.queue j 0 ≡ get_or v.queue j 0

grows_same : (w : Work) → Grows w w
grows_same w = record { tail = omega arith; seen = λ k e. e; queue = λ j h. refl }

grows-on : {u v w : Work} → Grows u v → Grows v w → Grows u w
grows-on f g =
    record {
      tail = omega (arith, f.tail, g.tail);
      seen = λ k e. g.seen k (f.seen k e);
      queue = λ j h. g.queue j (omega (arith, f.tail)) ∙ f.queue j h;
    }

module _ (n : ℕ) (next : ℕ → List ℕ) where
  abbrev Reached : ℕ → Type 0
  Reached k = Reaches next 0 k

  -- ---- what holds of the flags and the queue between pushes
  pub record Core (w : Work) : Type 0 where
    pub room : Room n w.seen w.tail
    pub places : length w.queue ≡ n
    pub flags : (k : ℕ) → get_or w.seen k 0 ≤ 1
    pub stands : (k : ℕ) → get_or w.seen k 0 ≡ 1 → Place w k
    pub held : (j : ℕ) → j < w.tail → Reached (get_or w.queue j 0)

  -- ---- one push
  module _ (w : Work) (c : ℕ) (k : Core w) (h : c < n) where
    room-here : c < length w.seen
    room-here = omega (arith, k.room.size)

    module _ (e : get_or w.seen c 0 ≡ 0) where
      end-here : w.tail < length w.queue
      end-here = omega (arith, room-left w.seen w.tail c k.room h e, k.places)

      new-grows : Grows w (found-also w c)
      new-grows =
          record {
            tail = omega arith;
            seen = λ i f. after-set (λ (m : ℕ). m ≡ 1) w.seen c i 1 room-here (λ q. refl) (λ m. f);
            queue = λ j l. get_or-set_other w.queue w.tail j c 0 (λ q. omega arith);
          }

      new-place : (i : ℕ) → get_or (set w.seen c 1) i 0 ≡ 1 → Place (found-also w c) i
      new-place i =
          after-set (λ (m : ℕ). m ≡ 1 → Place (found-also w c) i) w.seen c i 1 room-here
          (λ q f. record { at = w.tail; below = omega arith; holds = get_or-set_same w.queue w.tail c 0 end-here ∙ sym q })
          (λ m f. let p = k.stands i f in
          record { at = p.at; below = omega (arith, p.below); holds = new-grows.queue p.at p.below ∙ p.holds })

      new-held : Reached c → (j : ℕ) → j < w.tail + 1 → Reached (get_or (set w.queue w.tail c) j 0)
      new-held r j l = after-set Reached w.queue w.tail j c end-here (λ q. r) (λ m. k.held j (less j l m))
        where
          less : (j : ℕ) → j < w.tail + 1 → (j ≡ w.tail → ⊥) → j < w.tail
          less j l m = omega arith

      new-core : Reached c → Core (found-also w c)
      new-core r =
          record {
            room = room-new w.seen w.tail c k.room h e;
            places = length-set w.queue w.tail c ∙ k.places;
            flags = λ i. after-set (λ (m : ℕ). m ≤ 1) w.seen c i 1 room-here (λ q. omega arith) (λ m. k.flags i);
            stands = new-place;
            held = new-held r;
          }

    push-core : Reached c → Core (pushed w c)
    push-core r = push-cases Core w c (λ e. new-core e r) (λ m. k)

    push-grows : Grows w (pushed w c)
    push-grows = push-cases (Grows w) w c new-grows (λ m. grows_same w)

    push-found : get_or (pushed w c).seen c 0 ≡ 1
    push-found =
        push-cases (λ (v : Work). get_or v.seen c 0 ≡ 1) w c (λ e. get_or-set_same w.seen c 1 0 room-here) (λ m. full m (k.flags c))
      where
        full : (get_or w.seen c 0 ≡ 0 → ⊥) → get_or w.seen c 0 ≤ 1 → get_or w.seen c 0 ≡ 1
        full m l = omega arith

    -- the place that a push takes holds its code
    push-fresh : (j : ℕ) → w.tail ≤ j → j < (pushed w c).tail → get_or (pushed w c).queue j 0 ≡ c
    push-fresh j l = push-cases (λ (v : Work). j < v.tail → get_or v.queue j 0 ≡ c) w c new (λ m b. absurd (omega arith))
      where
        new : get_or w.seen c 0 ≡ 0 → j < w.tail + 1 → get_or (set w.queue w.tail c) j 0 ≡ c
        new e b = let p : j ≡ w.tail = omega arith in ap (λ (j : ℕ). get_or (set w.queue w.tail c) j 0) p ∙ get_or-set_same w.queue w.tail c 0 (end-here e)

  -- ---- a list of pushes
  abbrev Next : ℕ → Type 0
  Next c = (c < n) × Reached c

  pub record Pushed (v : Work) (cs : List ℕ) (w : Work) : Type 0 where
    pub core : Core w
    pub grows : Grows v w
    pub all : All (λ (c : ℕ). get_or w.seen c 0 ≡ 1) cs
    pub fresh : (j : ℕ) → v.tail ≤ j → j < w.tail → Member (get_or w.queue j 0) cs

  push-list : (w : Work) (cs : List ℕ) → Core w → All Next cs → Pushed w cs (pushed_all w cs)
  unfolding pushed_all
  push-list w [] k h = record { core = k; grows = grows_same w; all = tt; fresh = λ j l b. absurd (omega arith) }
  push-list w (c ∷ cs) k h =
      let d = push-list (pushed w c) cs (push-core w c k h.0.0 h.0.1) h.1 in
      record {
        core = d.core;
        grows = grows-on (push-grows w c k h.0.0) d.grows;
        all = (d.grows.seen c (push-found w c k h.0.0), d.all);
        fresh = λ j l b. go (pushed_all (pushed w c) cs) d j l b (dec_lt j (pushed w c).tail);
      }
    where
      go : (v : Work) → Pushed (pushed w c) cs v → (j : ℕ) → w.tail ≤ j → j < v.tail → Dec (j < (pushed w c).tail) → Member (get_or v.queue j 0) (c ∷ cs)
      go v d j l b (yes m) = subst (λ (q : ℕ). Member q (c ∷ cs)) (sym (d.grows.queue j m ∙ push-fresh w c k h.0.0 j l m)) here
      go v d j l b (no m) = there (d.fresh j (omega arith) b)

  -- ---- the loop
  pub record Walking (w : Work) (head : ℕ) : Type 0 where
    pub core : Core w
    pub before : head ≤ w.tail
    pub start : get_or w.seen 0 0 ≡ 1
    pub done : (j : ℕ) → j < head → (q : ℕ) → Member q (next (get_or w.queue j 0)) → get_or w.seen q 0 ≡ 1

  module _ (some : 0 < n) where
    pub first : (s q : List ℕ) → length s ≡ n → zeros s ≡ n → ((k : ℕ) → get_or s k 0 ≡ 0) → length q ≡ n → ((k : ℕ) → get_or q k 0 ≡ 0)
        → Walking (work (set s 0 1) q 1) 0
    first s q ls z es lq eq =
        let h : 0 < length s = omega arith in
        let m : zeros s ≡ suc (zeros (set s 0 1)) = zeros-set s 0 h (es 0) in
        record {
          core =
              record {
                room = record { size = length-set s 0 1 ∙ ls; left = omega arith };
                places = lq;
                flags = λ k. after-set (λ (m : ℕ). m ≤ 1) s 0 k 1 h (λ e. omega arith) (λ m. omega (arith, es k));
                stands = λ k. after-set (λ (m : ℕ). m ≡ 1 → Place (work (set s 0 1) q 1) k) s 0 k 1 h
                    (λ e f. record { at = 0; below = omega arith; holds = eq 0 ∙ sym e })
                    (λ m f. absurd (omega (arith, es k)));
                held = λ j l. subst Reached (sym (eq j)) reached-start;
              };
          before = omega arith;
          start = get_or-set_same s 0 1 0 h;
          done = λ j l. absurd (omega arith);
        }

    module _ (small : (k : ℕ) → Small n (next k)) where
      -- the pushes of a turn
      pub pushes : (w : Work) (head : ℕ) → Walking w head → head < w.tail → Pushed w (next (get_or w.queue head 0)) (pushed_all w (next (get_or w.queue head 0)))
      pushes w head i h =
          let c = get_or w.queue head 0 in
          push-list w (next c) i.core (all_of Next (next c) (λ q m. (all-member (λ (k : ℕ). k < n) m (small c), reached-next (i.core.held head h) m)))

      pub turn : (w : Work) (head : ℕ) → Walking w head → head < w.tail → Walking (pushed_all w (next (get_or w.queue head 0))) (head + 1)
      turn w head i h =
          let c = get_or w.queue head 0 in
          let d = pushes w head i h in
          record {
            core = d.core;
            before = omega (arith, d.grows.tail);
            start = d.grows.seen 0 i.start;
            done = λ j l. go (pushed_all w (next c)) d j (ℕ_discrete j head) l;
          }
        where
          go : (v : Work) → Pushed w (next (get_or w.queue head 0)) v → (j : ℕ) → Dec (j ≡ head) → j < head + 1 → (q : ℕ)
              → Member q (next (get_or v.queue j 0)) → get_or v.seen q 0 ≡ 1
          go v d j (yes e) l q m =
              all-member (λ (c : ℕ). get_or v.seen c 0 ≡ 1)
              (subst (λ (c : ℕ). Member q (next c)) (d.grows.queue j (omega arith) ∙ ap (λ (j : ℕ). get_or w.queue j 0) e) m)
              d.all
          go v d j (no f) l q m =
              d.grows.seen q (i.done j (omega arith) q (subst (λ (c : ℕ). Member q (next c)) (d.grows.queue j (omega arith)) m))

      pub found : (w : Work) (head : ℕ) → Walking w head → w.tail ≤ head → Found n next w.seen
      found w head i h =
          record {
            size = i.core.room.size;
            flags = i.core.flags;
            sound = λ k e. let p = i.core.stands k e in subst Reached p.holds (i.core.held p.at p.below);
            full = reached-all (λ (k : ℕ). (k < n) × (get_or w.seen k 0 ≡ 1)) (some, i.start) closed;
          }
        where
          closed : (p q : ℕ) → (p < n) × (get_or w.seen p 0 ≡ 1) → Member q (next p) → (q < n) × (get_or w.seen q 0 ≡ 1)
          closed p q g m =
              let s = i.core.stands p g.1 in (
                all-member (λ (k : ℕ). k < n) m (small p),
                i.done s.at (omega (arith, s.below)) q (subst (λ (c : ℕ). Member q (next c)) (sym s.holds) m),
              )

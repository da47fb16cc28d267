-- The walk with the start of each turn, on plain values, over any successor function on codes below n. What a turn finds goes to places from its
-- start on, and its successors stand at its end. Assumes nothing.
use Prim.Native.Nat.{ℕ, ◌+◌, ◌<◌, ◌≤◌}
use native.Mathlib.Omega.{arith}
use native.Mathlib.Decide.{ℕ_discrete}
use mathlib.Core.Path.{◌≡◌, refl, sym, ap, subst, ◌∙◌}
use mathlib.Core.List.{List}
use lib.ListN.{length, get_or, set, replicate, length-set, length-replicate}
use lib.Seq.{get_or-set_same, get_or-set_other}
use Rattle.reach.specs.Chains.{Member}
use Rattle.reach.specs.Walk.{Small, Work, work, pushed_all, zeros}
use Rattle.reach.specs.Trail.{Near, Trail, Traced}
use Rattle.reach.proofs.Chains.{all-member}
use Rattle.reach.proofs.Count.{zeros-replicate, get_d-zeros, after-set}
use Rattle.reach.proofs.Turn.{Walking, Pushed, first, pushes, turn}

module _ (n : ℕ) (next : ℕ → List ℕ) where
  pub record Tracing (w : Work) (starts : List ℕ) (head : ℕ) : Type 0 where
    pub walking : Walking n next w head
    pub size : length starts ≡ n
    pub alone : head ≡ 0 → w.tail ≡ 1
    pub trail : Trail next w.queue starts head w.tail

  module _ (some : 0 < n) where
    pub first-trace : (s q b : List ℕ) → length s ≡ n → zeros s ≡ n → ((k : ℕ) → get_or s k 0 ≡ 0) → length q ≡ n → ((k : ℕ) → get_or q k 0 ≡ 0)
        → length b ≡ n → ((k : ℕ) → get_or b k 0 ≡ 0) → Tracing (work (set s 0 1) q 1) b 0
    first-trace s q b ls z es lq eq lb eb =
        record {
          walking = first n next some s q ls z es lq eq;
          size = lb;
          alone = λ e. refl;
          trail =
              record {
                start = eq 0;
                opens = omega (arith, eb 0);
                later = λ h l. absurd (omega arith);
                linked = λ h j l. absurd (omega arith);
                near = λ h l. absurd (omega arith);
              };
        }

    -- of three lists of zeros
    pub begins : (s q b : List ℕ) → s ≡ replicate n 0 → q ≡ replicate n 0 → b ≡ replicate n 0 → Tracing (work (set s 0 1) q 1) b 0
    begins s q b e f g =
        first-trace s q b (size s e) (ap zeros e ∙ zeros-replicate n) (each s e) (size q f) (each q f) (size b g) (each b g)
      where
        size : (l : List ℕ) → l ≡ replicate n 0 → length l ≡ n
        size l e = ap length e ∙ length-replicate {A = ℕ} n 0

        each : (l : List ℕ) → l ≡ replicate n 0 → (k : ℕ) → get_or l k 0 ≡ 0
        each l e k = ap (λ (l : List ℕ). get_or l k 0) e ∙ get_d-zeros n k

    module _ (small : (k : ℕ) → Small n (next k)) where
      module _ (w v : Work) (b : List ℕ) (head : ℕ) (t : Tracing w b head) (below : head < w.tail)
          (d : Pushed n next w (next (get_or w.queue head 0)) v) where
        abbrev new : List ℕ
        new = set b head w.tail

        inside : head < length b
        inside = omega (arith, t.walking.core.room.left, t.size)

        same : (j : ℕ) → j < w.tail → get_or v.queue j 0 ≡ get_or w.queue j 0
        same j l = d.grows.queue j l

        -- by cases: a turn before, or this one
        by_turn : (P : ℕ → Type 0) (h : ℕ) → h < head + 1 → (h < head → P (get_or b h 0)) → (h ≡ head → P w.tail) → P (get_or new h 0)
        by_turn P h l before this = after-set P b head h w.tail inside this (λ n. before (less n))
          where
            less : (h ≡ head → ⊥) → h < head
            less n = omega arith

        kept : (h : ℕ) → h < head → get_or new h 0 ≡ get_or b h 0
        kept h l = get_or-set_other b head h w.tail 0 (λ e. omega arith)

        this-turn : get_or new head 0 ≡ w.tail
        this-turn = get_or-set_same b head w.tail 0 inside

        opens : get_or new 0 0 ≤ 1
        opens = by_turn (λ (x : ℕ). x ≤ 1) 0 (omega arith) (λ l. t.trail.opens) (λ e. omega (arith, t.alone (sym e)))

        linked : (h j : ℕ) → h < head + 1 → j < v.tail → get_or new h 0 ≤ j → ((i : ℕ) → h < i → i < head + 1 → j < get_or new i 0)
            → Member (get_or v.queue j 0) (next (get_or v.queue h 0))
        linked h j l m s after = go (ℕ_discrete h head)
          where
            go : Dec (h ≡ head) → Member (get_or v.queue j 0) (next (get_or v.queue h 0))
            go (yes e) =
                let k : w.tail ≤ j = omega (arith, this-turn, ap (λ (h : ℕ). get_or new h 0) e) in
                subst (λ (q : ℕ). Member (get_or v.queue j 0) (next q)) (sym (ap (λ (h : ℕ). get_or v.queue h 0) e ∙ same head below)) (d.fresh j k m)
            go (no f) =
                let a : h < head = omega arith in
                let k : j < w.tail = omega (arith, this-turn, after head a (omega arith)) in
                let old = t.trail.linked h j a k (omega (arith, kept h a)) (λ i x y. omega (arith, kept i y, after i x (omega arith))) in
                subst (λ (q : ℕ). Member q (next (get_or v.queue h 0))) (sym (same j k))
                (subst (λ (q : ℕ). Member (get_or w.queue j 0) (next q)) (sym (same h (omega arith))) old)

        near : (h : ℕ) → h < head + 1 → (q : ℕ) → Member q (next (get_or v.queue h 0)) → Near v.queue new (head + 1) v.tail h q
        near h l q m = go (ℕ_discrete h head)
          where
            go : Dec (h ≡ head) → Near v.queue new (head + 1) v.tail h q
            go (yes e) =
                let p = d.core.stands q (all-member (λ (k : ℕ). get_or v.seen k 0 ≡ 1) (subst (λ (k : ℕ). Member q (next k)) (ap (λ (h : ℕ). get_or v.queue h 0) e ∙ same head below) m) d.all) in
                record { stands = p; soon = λ i x y. absurd (omega arith) }
            go (no f) =
                let a : h < head = omega arith in
                let p = t.trail.near h a q (subst (λ (k : ℕ). Member q (next k)) (same h (omega arith)) m) in
                let s = p.stands in
                let k : s.at < w.tail = s.below in
                record {
                  stands = record { at = s.at; below = omega (arith, d.grows.tail); holds = same s.at k ∙ s.holds };
                  soon = λ i x y. by_turn (λ (x : ℕ). s.at < x) i y (p.soon i x) (λ e. k);
                }

        traced : Trail next v.queue new (head + 1) v.tail
        traced =
            record {
              start = same 0 (omega arith) ∙ t.trail.start;
              opens = opens;
              later = λ h l. by_turn (λ (x : ℕ). h < x) h l (t.trail.later h) (λ e. omega arith);
              linked = linked;
              near = near;
            }

      pub trace-turn : (w v : Work) (b : List ℕ) (head : ℕ) → v ≡ pushed_all w (next (get_or w.queue head 0)) → Tracing w b head → head < w.tail
          → Tracing v (set b head w.tail) (head + 1)
      trace-turn w v b head e t l =
          let d = subst (Pushed n next w (next (get_or w.queue head 0))) (sym e) (pushes n next some small w head t.walking l) in
          record {
            walking = subst (λ (v : Work). Walking n next v (head + 1)) (sym e) (turn n next some small w head t.walking l);
            size = length-set b head w.tail ∙ t.size;
            alone = λ z. absurd (omega arith);
            trail = traced w v b head t l d;
          }

      -- what stood before a turn stands after it
      pub turn-same : (w v : Work) (b : List ℕ) (head : ℕ) → v ≡ pushed_all w (next (get_or w.queue head 0)) → Tracing w b head → head < w.tail
          → (j : ℕ) → j < head + 1 → get_or v.queue j 0 ≡ get_or w.queue j 0
      turn-same w v b head e t l j h =
          (subst (Pushed n next w (next (get_or w.queue head 0))) (sym e) (pushes n next some small w head t.walking l)).grows.queue j (omega arith)

  -- what is left where the head meets the tail
  pub all-traced : (s q b : List ℕ) (head tail : ℕ) → Tracing (work s q tail) b head → tail ≤ head → Traced n next s q b
  all-traced s q b head tail t h =
      let e : head ≡ tail = omega (arith, t.walking.before) in
      record {
        tail = tail;
        some = omega (arith, (t.walking.core.stands 0 t.walking.start).below);
        places = omega (arith, t.walking.core.room.left);
        stands = t.walking.core.stands;
        trail = subst (λ (head : ℕ). Trail next q b head tail) e t.trail;
      }

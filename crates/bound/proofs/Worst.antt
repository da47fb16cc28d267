-- The walk's numbers, over any successor function on addresses. What is worst among the successors of an address, and its own cost, is its number:
-- its chains are its own address and a chain of a successor. An address that is met on the way to itself is on a loop, so that what is remembered of
-- the way is true. Assumes nothing.
use Prim.Native.Nat.{ℕ, suc, zero, max, ◌+◌, ◌*◌, ◌<◌, ◌≤◌}
use native.Mathlib.Omega.{arith}
use native.Mathlib.Decide.{dec_le}
use native.Mathlib.Nat.{le_of_suc-le-suc, not-suc-le-zero}
use mathlib.Core.Path.{◌≡◌, refl, sym, ap, subst, ◌∙◌}
use mathlib.Core.Bool.{Bool, true, false}
use mathlib.Core.List.{List, [], ◌∷◌}
use mathlib.Core.Logic.{◌⊎◌, inl, inr}
use lib.Dec.{eqb}
use lib.ListN.{length, get_or, set, length-set}
use lib.Seq.{get_or-set_other}
use borrow.Author.Tests.{eqb-true, eqb-false}
use Rattle.isa.specs.Choice.{pick}
use Rattle.isa.specs.Code.{addresses}
use Rattle.reach.specs.Chains.{Member, here, there, Chain, one, more}
use Rattle.reach.specs.Walk.{Small, zeros}
use Rattle.reach.proofs.Chains.{all-member, reached-start, reached-next}
use Rattle.reach.proofs.Count.{after-set}
use Rattle.bound.specs.Paths.{Loop, Endless, total, Spends}
use Rattle.bound.specs.Paths.{Leads}
use Rattle.bound.specs.Lists.{endless}
use Rattle.bound.specs.Walk.{most_cycles, settled, Last, Finite, Told, Remembers}
use Rattle.bound.proofs.Loops.{endless-over, endless-loop, few}

-- ---- counting what is not found yet
pub zeros-mark : (xs : List ℕ) (i v : ℕ) → i < length xs → get_or xs i 0 ≡ 0 → zeros xs ≡ suc (zeros (set xs i (suc v)))
unfolding zeros
zeros-mark [] zero v h e = absurd (not-suc-le-zero h)
zeros-mark [] (suc i) v h e = absurd (not-suc-le-zero h)
zeros-mark (zero ∷ xs) zero v h e = refl
zeros-mark (zero ∷ xs) (suc i) v h e = ap suc (zeros-mark xs i v (le_of_suc-le-suc h) e)
zeros-mark (suc x ∷ xs) zero v h e = absurd (omega arith)
zeros-mark (suc x ∷ xs) (suc i) v h e = zeros-mark xs i v (le_of_suc-le-suc h) e

pub zeros-set-most : (xs : List ℕ) (i v : ℕ) → zeros (set xs i v) ≤ suc (zeros xs)
unfolding zeros
zeros-set-most [] zero v = omega arith
zeros-set-most [] (suc i) v = omega arith
zeros-set-most (zero ∷ xs) zero zero = omega arith
zeros-set-most (zero ∷ xs) zero (suc v) = omega arith
zeros-set-most (suc x ∷ xs) zero zero = omega arith
zeros-set-most (suc x ∷ xs) zero (suc v) = omega arith
zeros-set-most (zero ∷ xs) (suc i) v = let h = zeros-set-most xs i v in omega arith
zeros-set-most (suc x ∷ xs) (suc i) v = zeros-set-most xs i v

-- ---- numbers of addresses
module _ (next : ℕ → List ℕ) (Halt : ℕ → Type 0) (cost : ℕ → ℕ) where
  -- a chain to an end, from one of these addresses
  pub record SpendsFrom (qs : List ℕ) (n : ℕ) : Type 0 where
    pub from : ℕ
    pub among : Member from qs
    pub spends : Spends next (Last next) cost from n

  -- what is worst among addresses: no bound, or the largest total of all, 0 where there are none
  pub record Worst (qs : List ℕ) (n : ℕ) : Type 0 where
    pub unbounded : n ≡ endless → (a : ℕ) × Member a qs × Endless next Halt a
    pub ends : (n ≡ endless → ⊥) → (a : ℕ) → Member a qs → Endless next Halt a → ⊥
    pub most : (n ≡ endless → ⊥) → (a m : ℕ) → Member a qs → Spends next (Last next) cost a m → m ≤ n
    pub met : (n ≡ endless → ⊥) → ((qs ≡ []) × (n ≡ 0)) ⊎ SpendsFrom qs n

  pub worst-none : Worst [] 0
  worst-none =
      record {
        unbounded = λ e. absurd (omega arith);
        ends = λ n a m. all-member (λ (a : ℕ). Endless next Halt a → ⊥) m tt;
        most = λ n a k m. all-member (λ (a : ℕ). Spends next (Last next) cost a k → k ≤ 0) m tt;
        met = λ n. inl (refl, refl);
      }

  pub worst-one : (q n : ℕ) → Told next Halt cost q n → Worst (q ∷ []) n
  worst-one q n t =
      record {
        unbounded = λ e. (q, here, t.unbounded e);
        ends = λ f a m. all-member (λ (a : ℕ). Endless next Halt a → ⊥) m ((t.bounded f).ends, tt);
        most = λ f a k m. all-member (λ (a : ℕ). Spends next (Last next) cost a k → k ≤ n) m ((t.bounded f).longest.most k, tt);
        met = λ f. inr (record { from = q; among = here; spends = (t.bounded f).longest.met });
      }

  pub worst-two : (q r n m : ℕ) → Told next Halt cost q n → Told next Halt cost r m → n ≤ endless → m ≤ endless → Worst (q ∷ r ∷ []) (max n m)
  worst-two q r n m t u h k = go (dec_le n m)
    where
      both : (P : ℕ → Type 0) → P q → P r → {a : ℕ} → Member a (q ∷ r ∷ []) → P a
      both P x y m = all-member P m (x, (y, tt))

      second : n ≤ m → Worst (q ∷ r ∷ []) m
      second l =
          record {
            unbounded = λ e. (r, there here, u.unbounded e);
            ends = λ e a. both (λ (a : ℕ). Endless next Halt a → ⊥) (t.bounded (λ z. omega arith)).ends (u.bounded e).ends;
            most = λ e a x. both (λ (a : ℕ). Spends next (Last next) cost a x → x ≤ m)
                (λ s. let y = (t.bounded (λ z. omega arith)).longest.most x s in omega arith) ((u.bounded e).longest.most x);
            met = λ e. inr (record { from = r; among = there here; spends = (u.bounded e).longest.met });
          }

      first : m ≤ n → Worst (q ∷ r ∷ []) n
      first l =
          record {
            unbounded = λ e. (q, here, t.unbounded e);
            ends = λ e a. both (λ (a : ℕ). Endless next Halt a → ⊥) (t.bounded e).ends (u.bounded (λ z. e (omega arith))).ends;
            most = λ e a x. both (λ (a : ℕ). Spends next (Last next) cost a x → x ≤ n)
                ((t.bounded e).longest.most x) (λ s. let y = (u.bounded (λ z. e (omega arith))).longest.most x s in omega arith);
            met = λ e. inr (record { from = q; among = here; spends = (t.bounded e).longest.met });
          }

      go : Dec (n ≤ m) → Worst (q ∷ r ∷ []) (max n m)
      go (yes l) = let e : m ≡ max n m = omega arith in subst (Worst (q ∷ r ∷ [])) e (second l)
      go (no l) = let e : n ≡ max n m = omega arith in subst (Worst (q ∷ r ∷ [])) e (first (omega arith))

  -- the address itself, before what is worst behind it
  module _ (a w : ℕ) (going : Halt a → ⊥) (worst : Worst (next a) w) where
    ends-here : (w ≡ endless → ⊥) → Endless next Halt a → ⊥
    ends-here f e = go e.reached.links e.shown
      where
        go : {at : ℕ} {ps : List ℕ} → Chain next a ps at → Loop next at ⊎ Halt at → ⊥
        go one (inl l) = worst.ends f l.over l.first (record { at = a; reached = l.rest; shown = inl l })
        go one (inr h) = going h
        go {at} (more {q = q} {ps = ps} m c) s = worst.ends f q m (record { at = at; reached = record { chain = ps; links = c }; shown = s })

    spends-here : (w ≡ endless → ⊥) → Spends next (Last next) cost a (w + cost a)
    unfolding total
    spends-here f = go (worst.met f)
      where
        go : ((next a ≡ []) × (w ≡ 0)) ⊎ SpendsFrom (next a) w → Spends next (Last next) cost a (w + cost a)
        go (inl h) = record { chain = a ∷ []; end = a; links = one; ends = h.0; spent = omega (arith, h.1) }
        go (inr s) =
            record {
              chain = a ∷ s.spends.chain;
              end = s.spends.end;
              links = more s.among s.spends.links;
              ends = s.spends.ends;
              spent = omega (arith, s.spends.spent);
            }

    most-here : (w ≡ endless → ⊥) → (m : ℕ) → Spends next (Last next) cost a m → m ≤ w + cost a
    unfolding total
    most-here f m s = subst (λ (m : ℕ). m ≤ w + cost a) s.spent (go s.links s.ends)
      where
        go : {e : ℕ} {ps : List ℕ} → Chain next a ps e → Last next e → total cost ps ≤ w + cost a
        go one l = omega arith
        go {e} (more {q = q} {ps = ps} m c) l =
            let h = worst.most f q (total cost ps) m (record { chain = ps; end = e; links = c; ends = l; spent = refl }) in omega arith

    pub told-settled : ((w ≡ endless → ⊥) → w ≤ most_cycles) → cost a ≤ 2 → Told next Halt cost a (settled w (cost a))
    told-settled h k = go (eqb w endless) (eqb-true w endless) (eqb-false w endless)
      where
        go : (b : Bool) → (b ≡ true → w ≡ endless) → (b ≡ false → w ≡ endless → ⊥) → Told next Halt cost a (pick b endless (w + cost a))
        go true f g =
            let x = worst.unbounded (f refl) in record { unbounded = λ e. endless-over x.1 x.2; bounded = λ n. absurd (n refl) }
        go false f g =
            let n = g refl in
            let l = h n in
            record {
              unbounded = λ e. absurd (omega arith);
              bounded = λ e. record { ends = ends-here n; longest = record { met = spends-here n; most = most-here n } };
            }

  -- HALT
  pub told-halt : (a : ℕ) → Halt a → Told next Halt cost a endless
  told-halt a h = record { unbounded = λ e. record { at = a; reached = reached-start; shown = inr h }; bounded = λ n. absurd (n refl) }

  -- ---- how large a number is
  module _ (small : (k : ℕ) → Small addresses (next k)) (cheap : (k : ℕ) → cost k ≤ 2) where
    total-most : (ps : List ℕ) → total cost ps ≤ 2 * length ps
    unfolding total
    total-most [] = omega arith
    total-most (p ∷ ps) = let h = total-most ps in let k = cheap p in omega arith

    pub finite-small : (a n : ℕ) → a < addresses → Finite next Halt cost a n → n ≤ most_cycles
    finite-small a n h f =
        let s = f.longest.met in
        let l = few addresses next small {Halts = Halt} h s.links f.ends in
        let t = total-most s.chain in
        omega (arith, s.spent)

  -- ---- what is remembered
  module _ (a : ℕ) (found : List ℕ) (before : Remembers next Halt cost (λ (k : ℕ). Leads next k a) found) where
    pub told-known : (get_or found a 0 ≡ 0 → ⊥) → Told next Halt cost a (get_or found a 0)
    told-known n = record { unbounded = λ e. go (before.unbounded a e); bounded = before.bounded a n }
      where
        go : Endless next Halt a ⊎ Leads next a a → Endless next Halt a
        go (inl e) = e
        go (inr l) = endless-loop l

    pub stays : Remembers next Halt cost (λ (k : ℕ). get_or found k 0 ≡ endless) found
    stays = record { size = before.size; unbounded = λ k e. inr e; bounded = before.bounded }

    -- while the address's own chains are walked
    abbrev Open : List ℕ → Type 0
    Open = Remembers next Halt cost (λ (k : ℕ). get_or (set found a endless) k 0 ≡ endless)

    module _ (h : a < addresses) where
      pub opened : Open (set found a endless)
      opened =
          record {
            size = length-set found a endless ∙ before.size;
            unbounded = λ k e. inr e;
            bounded = λ k. after-set (λ (v : ℕ). (v ≡ 0 → ⊥) → (v ≡ endless → ⊥) → Finite next Halt cost k v) found a k endless (omega (arith, before.size))
                (λ e y z. absurd (z refl)) (λ n. before.bounded k);
          }

      -- an address that stands for no bound meanwhile leads to a successor
      pub descend : (r : ℕ) (now : List ℕ) → Open now → Member r (next a) → Remembers next Halt cost (λ (k : ℕ). Leads next k r) now
      descend r now o m = record { size = o.size; unbounded = λ k e. go k (o.unbounded k e); bounded = o.bounded }
        where
          far : (k : ℕ) → Endless next Halt k ⊎ Leads next k a → Endless next Halt k ⊎ Leads next k r
          far k (inl e) = inl e
          far k (inr l) = inr (record { over = l.over; first = l.first; rest = reached-next l.rest m })

          go : (k : ℕ) → Endless next Halt k ⊎ (get_or (set found a endless) k 0 ≡ endless) → Endless next Halt k ⊎ Leads next k r
          go k (inl e) = inl e
          go k (inr e) =
              after-set (λ (v : ℕ). v ≡ endless → Endless next Halt k ⊎ Leads next k r) found a k endless (omega (arith, before.size))
              (λ p q. inr (subst (λ (k : ℕ). Leads next k r) (sym p) (record { over = r; first = m; rest = reached-start })))
              (λ n q. far k (before.unbounded k q)) e

      -- after a successor
      pub ascend : (now new : List ℕ) → Open now → Remembers next Halt cost (λ (k : ℕ). get_or now k 0 ≡ endless) new → Open new
      ascend now new o r = record { size = r.size; unbounded = λ k e. go k (r.unbounded k e); bounded = r.bounded }
        where
          go : (k : ℕ) → Endless next Halt k ⊎ (get_or now k 0 ≡ endless) → Endless next Halt k ⊎ (get_or (set found a endless) k 0 ≡ endless)
          go k (inl e) = inl e
          go k (inr e) = o.unbounded k e

      -- after the address
      pub closed : (now : List ℕ) (v : ℕ) → Open now → Told next Halt cost a v → Remembers next Halt cost (λ (k : ℕ). get_or found k 0 ≡ endless) (set now a v)
      closed now v o t =
          record {
            size = length-set now a v ∙ o.size;
            unbounded = λ k. after-set (λ (x : ℕ). x ≡ endless → Endless next Halt k ⊎ (get_or found k 0 ≡ endless)) now a k v (omega (arith, o.size))
                (λ p e. inl (subst (Endless next Halt) (sym p) (t.unbounded e))) (λ n e. back k n (o.unbounded k e));
            bounded = λ k. after-set (λ (x : ℕ). (x ≡ 0 → ⊥) → (x ≡ endless → ⊥) → Finite next Halt cost k x) now a k v (omega (arith, o.size))
                (λ p y z. subst (λ (k : ℕ). Finite next Halt cost k v) (sym p) (t.bounded z)) (λ n. o.bounded k);
          }
        where
          back : (k : ℕ) → (k ≡ a → ⊥) → Endless next Halt k ⊎ (get_or (set found a endless) k 0 ≡ endless) → Endless next Halt k ⊎ (get_or found k 0 ≡ endless)
          back k n (inl e) = inl e
          back k n (inr e) = inr (sym (get_or-set_other found a k endless 0 n) ∙ e)

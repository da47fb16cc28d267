-- Counting the codes that are not found yet, and one push. A push of a new code takes one zero away and one place of the queue, so there is
-- a place for each zero that is left; a push of an old one changes nothing. Assumes nothing.
use Prim.Native.Nat.{ℕ, zero, suc, ◌+◌, ◌<◌}
use native.Mathlib.Nat.{le_of_suc-le-suc, not-suc-le-zero}
use native.Mathlib.Omega.{arith}
use native.Mathlib.Decide.{ℕ_discrete}
use mathlib.Core.Path.{◌≡◌, refl, sym, ap, subst, ◌∙◌}
use mathlib.Core.Bool.{Bool, true, false}
use mathlib.Core.List.{List, [], ◌∷◌}
use lib.Dec.{eqb}
use lib.ListN.{length, get_or, set, replicate, length-set}
use lib.Seq.{get_or-set_same, get_or-set_other}
use borrow.Author.Tests.{eqb-true, eqb-false, eq-eqb, ne_eqb}
use Rattle.isa.specs.Choice.{pick}
use Rattle.reach.specs.Walk.{Work, work, pushed, zeros, Room}

-- ---- lists
pub zeros-replicate : (n : ℕ) → zeros (replicate n 0) ≡ n
unfolding zeros
zeros-replicate zero = refl
zeros-replicate (suc n) = ap suc (zeros-replicate n)

pub get_d-zeros : (n k : ℕ) → ◌≡◌ {A = ℕ} (get_or (replicate n 0) k 0) 0
get_d-zeros zero zero = refl
get_d-zeros zero (suc k) = refl
get_d-zeros (suc n) zero = refl
get_d-zeros (suc n) (suc k) = get_d-zeros n k

pub zeros-set : (xs : List ℕ) (i : ℕ) → i < length xs → get_or xs i 0 ≡ 0 → zeros xs ≡ suc (zeros (set xs i 1))
unfolding zeros
zeros-set [] zero h e = absurd (not-suc-le-zero h)
zeros-set [] (suc i) h e = absurd (not-suc-le-zero h)
zeros-set (zero ∷ xs) zero h e = refl
zeros-set (zero ∷ xs) (suc i) h e = ap suc (zeros-set xs i (le_of_suc-le-suc h) e)
zeros-set (suc x ∷ xs) zero h e = absurd (omega arith)
zeros-set (suc x ∷ xs) (suc i) h e = zeros-set xs i (le_of_suc-le-suc h) e

-- what stands at k after a store at i
pub after-set : (P : ℕ → Type 0) (xs : List ℕ) (i k v : ℕ) → i < length xs → (k ≡ i → P v) → ((k ≡ i → ⊥) → P (get_or xs k 0)) → P (get_or (set xs i v) k 0)
after-set P xs i k v h same other = go (ℕ_discrete k i)
  where
    go : Dec (k ≡ i) → P (get_or (set xs i v) k 0)
    go (yes e) = subst P (sym (ap (λ (m : ℕ). get_or (set xs i v) m 0) e ∙ get_or-set_same xs i v 0 h)) (same e)
    go (no n) = subst P (sym (get_or-set_other xs i k v 0 n)) (other n)

-- ---- a push, by cases
-- a new code, found
abbrev pub found-also : Work → ℕ → Work
found-also w c = work (set w.seen c 1) (set w.queue w.tail c) (w.tail + 1)

pub push-cases : (P : Work → Type 0) (w : Work) (c : ℕ)
    → (get_or w.seen c 0 ≡ 0 → P (found-also w c))
    → ((get_or w.seen c 0 ≡ 0 → ⊥) → P w) → P (pushed w c)
unfolding pushed
push-cases P w c new old = go (eqb (get_or w.seen c 0) 0) refl
  where
    go : (b : Bool) → eqb (get_or w.seen c 0) 0 ≡ b → P (pick b (found-also w c) w)
    go true e = new (eqb-true (get_or w.seen c 0) 0 e)
    go false e = old (eqb-false (get_or w.seen c 0) 0 e)

pub push-new : (w : Work) (c : ℕ) → get_or w.seen c 0 ≡ 0 → found-also w c ≡ pushed w c
unfolding pushed
push-new w c e = rw (eq-eqb (get_or w.seen c 0) 0 e) refl

pub push-old : (w : Work) (c : ℕ) → (get_or w.seen c 0 ≡ 0 → ⊥) → w ≡ pushed w c
unfolding pushed
push-old w c n = rw (ne_eqb (get_or w.seen c 0) 0 n) refl

-- ---- room
pub room-left : {n : ℕ} (seen : List ℕ) (tail c : ℕ) → Room n seen tail → c < n → get_or seen c 0 ≡ 0 → tail < n
room-left seen tail c r h e =
    let z : zeros seen ≡ suc (zeros (set seen c 1)) = zeros-set seen c (omega (arith, r.size)) e in omega (arith, r.left)

pub room-new : {n : ℕ} (seen : List ℕ) (tail c : ℕ) → Room n seen tail → c < n → get_or seen c 0 ≡ 0 → Room n (set seen c 1) (tail + 1)
room-new seen tail c r h e =
    let z : zeros seen ≡ suc (zeros (set seen c 1)) = zeros-set seen c (omega (arith, r.size)) e in
    record { size = length-set seen c 1 ∙ r.size; left = omega (arith, r.left) }

pub room-pushed : {n : ℕ} (w : Work) (c : ℕ) → Room n w.seen w.tail → c < n → Room n (pushed w c).seen (pushed w c).tail
room-pushed {n} w c r h =
    push-cases (λ (v : Work). Room n v.seen v.tail) w c (λ e. room-new w.seen w.tail c r h e) (λ n. r)

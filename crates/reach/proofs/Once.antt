-- A shortest chain has each element once, over any successor function: from where one stands again, the rest alone would be shorter. Codes
-- below n that differ are at most n: each takes a zero of n flags. Assumes nothing.
use Prim.Native.Nat.{ℕ, suc, ◌<◌, ◌≤◌}
use native.Mathlib.Omega.{arith}
use mathlib.Core.Path.{◌≡◌, subst, ◌∙◌}
use mathlib.Core.List.{List, [], ◌∷◌}
use lib.ListN.{length, get_or, set, replicate, length-set, length-replicate}
use lib.Seq.{get_or-set_other}
use Rattle.reach.specs.Chains.{Member, here, there, Chain, one, more, Shortest}
use Rattle.reach.specs.Walk.{All, Small, zeros}
use Rattle.reach.proofs.Chains.{all-member, all_of}
use Rattle.reach.proofs.Count.{zeros-set, zeros-replicate, get_d-zeros}

-- ---- each once
module _ {A : Type 0} where
  abbrev pub Once : List A → Type 0
  Once [] = Unit {0}
  Once (x ∷ xs) = (Member x xs → ⊥) × Once xs

  pub some : {x : A} {xs : List A} → Member x xs → 0 < length xs
  some here = omega arith
  some (there m) = omega arith

module _ {A : Type 0} {next : A → List A} where
  -- the rest of a chain, from one of it on
  rest : {p q r : A} {ps : List A} → Chain next p ps r → Member q ps → (qs : List A) × Chain next q qs r × (length qs ≤ length ps)
  rest {ps = ps} one here = (ps, one, omega arith)
  rest {ps = ps} (more m c) here = (ps, more m c, omega arith)
  rest {q = q} (one {p = p}) (there n) = elim n [ ]
  rest (more m c) (there n) = let s = rest c n in let h = s.2 in (s.0, s.1, omega arith)

  pub once : {p r : A} {ps : List A} → Chain next p ps r → ((other : List A) → Chain next p other r → length ps ≤ length other) → Once ps
  once one least = ((λ m. let h = some m in omega arith), tt)
  once (more {p = p} {ps = ps} m c) least = (again, once c (λ other d. let h = least (p ∷ other) (more m d) in omega arith))
    where
      again : Member p ps → ⊥
      again n = let s = rest c n in let h = s.2 in let k = least s.0 s.1 in omega arith

-- ---- at most n
few : (ks flags : List ℕ) → Once ks → All (λ (k : ℕ). (k < length flags) × (get_or flags k 0 ≡ 0)) ks → length ks ≤ zeros flags
few [] flags o h = omega arith
few (k ∷ ks) flags o h =
    let z : zeros flags ≡ suc (zeros (set flags k 1)) = zeros-set flags k h.0.0 h.0.1 in
    let r : length ks ≤ zeros (set flags k 1) = few ks (set flags k 1) o.1 (all_of (λ (j : ℕ). (j < length (set flags k 1)) × (get_or (set flags k 1) j 0 ≡ 0)) ks other) in
    omega arith
  where
    other : (j : ℕ) → Member j ks → (j < length (set flags k 1)) × (get_or (set flags k 1) j 0 ≡ 0)
    other j m =
        let f = all-member (λ (j : ℕ). (j < length flags) × (get_or flags j 0 ≡ 0)) m h.1 in
        (rw (length-set flags k 1) f.0, get_or-set_other flags k j 1 0 (λ e. o.0 (subst (λ (j : ℕ). Member j ks) e m)) ∙ f.1)

pub at_most : (n : ℕ) (ks : List ℕ) → Once ks → Small n ks → length ks ≤ n
at_most n ks o s =
    subst (λ (m : ℕ). length ks ≤ m) (zeros-replicate n)
    (few ks (replicate n 0) o
    (all_of (λ (k : ℕ). (k < length (replicate n 0)) × (get_or (replicate n 0) k 0 ≡ 0)) ks
    (λ k m. (rw (length-replicate {A = ℕ} n 0) (all-member (λ (k : ℕ). k < n) m s), get_d-zeros n k))))

-- ---- a shortest chain of codes below n
module _ (n : ℕ) (next : ℕ → List ℕ) (small : (k : ℕ) → Small n (next k)) where
  pub all_small : {p r : ℕ} {ps : List ℕ} → p < n → Chain next p ps r → Small n ps
  all_small h one = (h, tt)
  all_small h (more {p = p} m c) = (h, all_small (all-member (λ (k : ℕ). k < n) m (small p)) c)

  pub few-of-shortest : {p r : ℕ} {ps : List ℕ} → p < n → Shortest next p ps r → length ps ≤ n
  few-of-shortest {ps = ps} h s = at_most n ps (once s.links s.least) (all_small h s.links)

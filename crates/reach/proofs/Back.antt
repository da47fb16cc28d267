-- Going back by the places before: a place has one place before it, so it counts one number of places. Assumes nothing.
use Prim.Native.Nat.{ℕ, suc, ◌+◌, ◌-◌, ◌<◌, ◌≤◌}
use native.Mathlib.Omega.{arith}
use native.Mathlib.Decide.{dec_le}
use mathlib.Core.Path.{◌≡◌, refl, subst}
use mathlib.Core.List.{List}
use lib.ListN.{length}
use Rattle.reach.specs.Trail.{Before, Counted, origin, onward, Up, climb}

module _ {starts : List ℕ} where
  same-before : {g h j : ℕ} → Before starts g j → Before starts h j → g ≡ h
  same-before {g} {h} {j} b c = go (dec_le g h) (dec_le h g)
    where
      go : Dec (g ≤ h) → Dec (h ≤ g) → g ≡ h
      go (yes k) (yes l) = omega arith
      go (yes k) (no l) = absurd (omega (arith, c.begun, b.last h (omega arith) c.earlier))
      go (no k) l = absurd (omega (arith, b.begun, c.last g (omega arith) b.earlier))

  pub counted-some : {j c : ℕ} → Counted starts j c → 0 < c
  counted-some origin = omega arith
  counted-some (onward l d) = omega arith

  pub counted-origin : {j c : ℕ} → Counted starts j c → j ≡ 0 → c ≡ 1
  counted-origin origin e = refl
  counted-origin (onward l d) e = let h = l.earlier in absurd (omega arith)

  pub counted_back : {h j c : ℕ} → Counted starts j c → Before starts h j → Counted starts h (c - 1)
  counted_back origin b = let l = b.earlier in absurd (omega arith)
  counted_back {h} (onward {c = c} l d) b =
      let e : c ≡ suc c - 1 = omega arith in subst (Counted starts h) e (subst (λ (g : ℕ). Counted starts g c) (same-before l b) d)

  -- as many places as are counted lead from place 0
  pub up_from : {i c k : ℕ} {js : List ℕ} → Counted starts i c → Up starts i js k → (ks : List ℕ) × Up starts 0 ks k × (suc (length ks) ≡ c + length js)
  up_from {js = js} origin u = (js, u, omega arith)
  up_from (onward l d) u = let r = up_from d (climb l u) in (r.0, r.1, omega (arith, r.2))

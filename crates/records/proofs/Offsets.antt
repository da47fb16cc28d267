-- Where records start, without the bound on their number: at or past the end there is none, and before the end there is one and then
-- those that follow it. Assumes nothing.
use Prim.Native.Nat.{ℕ, zero, suc, ◌+◌, ◌<◌, ◌≤◌}
use native.Mathlib.Omega.{arith}
use mathlib.Core.Path.{◌≡◌, refl, sym, ap, ap₂, subst, ◌∙◌}
use mathlib.Core.Bool.{Bool, true, false}
use mathlib.Core.List.{List, [], ◌∷◌, map}
use lib.Dec.{ltb}
use lib.ListN.{length}
use borrow.Author.Tests.{lt-ltb, le-ltb, ltb-true, ltb-false}
use Rattle.isa.specs.Choice.{pick}
use Rattle.std.proofs.lemmas.List.{length-map}
use Rattle.records.specs.Records.{size_at, end_at, within, offsets_from}
use Rattle.records.specs.Places.{places}

-- past the end
none : (n : ℕ) (s : List ℕ) (at : ℕ) → length s ≤ at → within n s at ≡ []
unfolding within
none zero s at h = refl
none (suc n) s at h = rw (le-ltb at (length s) h) refl

-- a bound that suffices may grow
enough : (n m : ℕ) (s : List ℕ) (at : ℕ) → length s ≤ n + at → length s ≤ m + at → within n s at ≡ within m s at
unfolding within
enough zero m s at h k = sym (none m s at (omega arith))
enough (suc n) zero s at h k = none (suc n) s at (omega arith)
enough (suc n) (suc m) s at h k =
    ap (λ (l : List ℕ). pick (ltb at (length s)) (at ∷ l) []) (enough n m s (at + 4 + size_at s at) (omega arith) (omega arith))

module _ (s : List ℕ) (at : ℕ) where
  pub from_end : length s ≤ at → offsets_from s at ≡ []
  unfolding offsets_from within
  from_end h = none (length s) s at h

  pub from_next : at < length s → offsets_from s at ≡ at ∷ offsets_from s (at + 4 + size_at s at)
  unfolding offsets_from within
  from_next h = go (length s) refl
    where
      go : (n : ℕ) → length s ≡ n → within n s at ≡ at ∷ within n s (at + 4 + size_at s at)
      go zero e = absurd (omega arith)
      go (suc n) e = rw (lt-ltb at (length s) h) (ap (λ (l : List ℕ). at ∷ l) (enough n (suc n) s (at + 4 + size_at s at) (omega arith) (omega arith)))

-- no more records than the bound
bounded : (n : ℕ) (s : List ℕ) (at : ℕ) → length (within n s at) ≤ n
unfolding within
bounded zero s at = omega arith
bounded (suc n) s at = go (ltb at (length s)) _ (bounded n s (at + 4 + size_at s at))
  where
    go : (t : Bool) (l : List ℕ) → length l ≤ n → length (pick t (at ∷ l) []) ≤ suc n
    go true l h = omega arith
    go false l h = omega arith

pub few : (s : List ℕ) (at : ℕ) → length (offsets_from s at) ≤ length s
unfolding offsets_from
few s at = bounded (length s) s at

-- a list with an element is not empty, and has one first element and one rest
unlike : {A : Type 0} {x : A} {l : List A} → x ∷ l ≡ [] → ⊥
unlike e = cc

parts : {A : Type 0} {x y : A} {l m : List A} → x ∷ l ≡ y ∷ m → (x ≡ y) × (l ≡ m)
parts e = (cc, cc)

-- the places: none at the end, and before it the record's and those from where it ends on
module _ (s : List ℕ) (at : ℕ) where
  pub places_end : length s ≤ at → places s at ≡ []
  places_end h = ap (map (λ (i : ℕ). (s, i))) (from_end s at h)

  pub places_next : (p : List ℕ × ℕ) (end : ℕ) → p ≡ (s, at) → at < length s → end ≡ end_at p.0 p.1 → places s at ≡ p ∷ places s end
  places_next p end e h n =
      ap (map (λ (i : ℕ). (s, i))) (from_next s at h)
      ∙ ap₂ (λ (q : List ℕ × ℕ) (i : ℕ). q ∷ places s i) (sym e) (sym (n ∙ ap (λ (q : List ℕ × ℕ). end_at q.0 q.1) e))

  -- where no place is left, the end is reached
  pub ended : places s at ≡ [] → length s ≤ at
  ended e = go (ltb at (length s)) refl
    where
      go : (t : Bool) → ltb at (length s) ≡ t → length s ≤ at
      go true h = absurd (unlike (sym (places_next (s, at) (end_at s at) refl (ltb-true at (length s) h) refl) ∙ e))
      go false h = ltb-false at (length s) h

  -- a first place that is left is the offset's, and the others are those from where its record ends on
  pub turned : (p : List ℕ × ℕ) (rest : List (List ℕ × ℕ)) → places s at ≡ p ∷ rest → (at < length s) × (p ≡ (s, at)) × (rest ≡ places s (end_at s at))
  turned p rest e = go (ltb at (length s)) refl
    where
      go : (t : Bool) → ltb at (length s) ≡ t → (at < length s) × (p ≡ (s, at)) × (rest ≡ places s (end_at s at))
      go true h =
          let l = ltb-true at (length s) h in
          let r = parts (sym e ∙ places_next (s, at) (end_at s at) refl l refl) in
          (l, r.0, r.1)
      go false h = absurd (unlike (sym e ∙ places_end (ltb-false at (length s) h)))

-- there are as many places as offsets
pub as_many : (s : List ℕ) (at : ℕ) → length (places s at) ≡ length (offsets_from s at)
as_many s at = length-map (offsets_from s at) _

-- what holds at the end, and of a record where it holds from the next one on, holds from every offset on
module _ (s : List ℕ) (P : ℕ → List ℕ → Type 0) (end : (at : ℕ) → length s ≤ at → P at [])
    (more : (at : ℕ) → at < length s → P (at + 4 + size_at s at) (offsets_from s (at + 4 + size_at s at)) → P at (at ∷ offsets_from s (at + 4 + size_at s at))) where
  split : (at : ℕ) (t : Bool) → ltb at (length s) ≡ t → P (at + 4 + size_at s at) (offsets_from s (at + 4 + size_at s at)) → P at (offsets_from s at)
  split at true e p = let h = ltb-true at (length s) e in subst (P at) (sym (from_next s at h)) (more at h p)
  split at false e p = let h = ltb-false at (length s) e in subst (P at) (sym (from_end s at h)) (end at h)

  walk : (n at : ℕ) → length s ≤ n + at → P at (offsets_from s at)
  walk zero at h = subst (P at) (sym (from_end s at (omega arith))) (end at (omega arith))
  walk (suc n) at h = split at (ltb at (length s)) refl (walk n (at + 4 + size_at s at) (omega arith))

  pub each : (at : ℕ) → P at (offsets_from s at)
  each at = walk (length s) at (omega arith)

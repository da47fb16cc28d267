-- Where the reader stops. A picture of as many digits that has the same ones up to there stops the reader too, so it is not valid; and with fewer of
-- them there is one that is: zeros follow every front that the reader takes. Assumes nothing.
use Prim.Native.Nat.{ℕ, zero, suc, ◌+◌, ◌*◌, ◌<◌}
use native.Mathlib.Nat.{suc_inj}
use native.Mathlib.Omega.{arith}
use mathlib.Core.Path.{◌≡◌, refl, sym, ap, ap₂, ◌∙◌, subst}
use mathlib.Core.Bool.{Bool, true, false, cond}
use mathlib.Core.List.{List, [], ◌∷◌}
use lib.Dec.{lit<}
use lib.ListN.{length, replicate, take, length-replicate}
use Rattle.std.specs.Prelude.{Option, Some, None}
use Rattle.glass.specs.Shapes.{Cell}
use Rattle.glass.specs.Pictures.{digit, lit}
use Rattle.glass.specs.Reading.{Leftmost}
use Rattle.glass.specs.Walk.{front, start, has_point, numeral_taken, reading_of}
use Rattle.glass.specs.declared.read.Front.{Front}
use Rattle.glass.specs.declared.read.Stage.TheVariants.{Digits, Fraction}
use Rattle.glass.proofs.Marks.{next, next-digit}
use Rattle.glass.proofs.Walks.{ended, stopped, later, empty, onward, walked, later-stopped, Small, by-blanks, sound}
use Rattle.glass.proofs.Complete.{complete}

same-empty : (cs ds : List Cell) → length cs ≡ length ds → empty cs ≡ empty ds
same-empty [] [] e = refl
same-empty [] (d ∷ ds) e = absurd (omega (arith, e))
same-empty (c ∷ cs) [] e = absurd (omega (arith, e))
same-empty (c ∷ cs) (d ∷ ds) e = refl

stops-too : (p q : List Cell) (f : Front) (k : ℕ) → length q ≡ length p → take (suc k) q ≡ take (suc k) p → walked p f ≡ stopped k → walked q f ≡ stopped k
stops-too [] q f k l t e = cc
stops-too (c ∷ cs) [] f k l t e = absurd (omega (arith, l))
stops-too (c ∷ cs) (d ∷ ds) f k l t e =
    ap (λ (r : Option Front). onward r (walked ds)) (ap₂ (next f) (let h : d ≡ c = cc in h) (same-empty ds cs (suc_inj l)))
    ∙ go (next f c (empty cs)) k e t (λ g j. stops-too cs ds g j (suc_inj l))
  where
    go : (r : Option Front) (k : ℕ) → onward r (walked cs) ≡ stopped k → take (suc k) (d ∷ ds) ≡ take (suc k) (c ∷ cs)
        → ((g : Front) (j : ℕ) → take (suc j) ds ≡ take (suc j) cs → walked cs g ≡ stopped j → walked ds g ≡ stopped j) → onward r (walked ds) ≡ stopped k
    go None k e t rec = e
    go (Some g) k e t rec =
        let w = later-stopped (walked cs g) e in
        let u : take (suc w.before) ds ≡ take (suc w.before) cs = subst (λ (n : ℕ). take n ds ≡ take n cs) w.next-to (let h : take k ds ≡ take k cs = cc in h) in
        ap later (rec g w.before u w.stops) ∙ ap stopped (sym w.next-to)

-- the reader stops inside the picture
inside : (p : List Cell) (f : Front) (k : ℕ) → walked p f ≡ stopped k → k < length p
inside [] f k e = cc
inside (c ∷ cs) f k e = go (next f c (empty cs)) e (λ g. inside cs g)
  where
    go : (r : Option Front) → onward r (walked cs) ≡ stopped k → ((g : Front) (j : ℕ) → walked cs g ≡ stopped j → j < length cs) → k < suc (length cs)
    go None e rec = let h : 0 ≡ k = cc in omega (arith, h)
    go (Some g) e rec =
        let w = later-stopped (walked cs g) e in
        let h = rec g w.before w.stops in
        let i = w.next-to in
        omega (arith, h, i)

-- a 0 can follow whatever the reader has taken
abbrev naught : Cell
naught = lit (digit 0 false)

pub record Ends (p : List Cell) (f : Front) : Type 0 where
  pub final : Front
  pub ends : walked p f ≡ ended final

on-naught : (f : Front) → (g : Front) × (numeral_taken f 0 false ≡ Some g)
unfolding numeral_taken
on-naught f = go (has_point f.stage)
  where
    go : (b : Bool) → (g : Front) × (cond b (Some (front (f.value * 10 + 0) Fraction f.minus (f.places + 1))) (Some (front (f.value * 10 + 0) Digits f.minus 0)) ≡ Some g)
    go true = (front (f.value * 10 + 0) Fraction f.minus (f.places + 1), refl)
    go false = (front (f.value * 10 + 0) Digits f.minus 0, refl)

naughts : (n : ℕ) (f : Front) → Ends (replicate n naught) f
naughts zero f = record { final = f; ends = refl }
naughts (suc n) f =
    let g = on-naught f in
    let r = naughts n g.0 in
    record {
      final = r.final;
      ends =
          ap (λ (x : Option Front). onward x (walked (replicate n naught))) (next-digit f 0 false (empty (replicate n naught)) (lit< tt) ∙ g.1)
          ∙ ap later r.ends;
    }

naughts-small : (n : ℕ) → Small (replicate n naught)
naughts-small zero = tt
naughts-small (suc n) = (record { first = lit< tt; second = lit< tt }, naughts-small n)

-- a picture with the same digits up to j on which the reader ends
pub record Filled (j : ℕ) (p : List Cell) (f : Front) : Type 0 where
  pub other : List Cell
  pub size : length other ≡ length p
  pub same : take (suc j) other ≡ take (suc j) p
  pub small : Small other
  pub ends : Ends other f

filled : (p : List Cell) (f : Front) (k j : ℕ) → Small p → walked p f ≡ stopped k → j < k → Filled j p f
filled [] f k j sm e h = cc
filled (c ∷ cs) f k j sm e h = go (next f c (empty cs)) j refl e h (λ g b i. filled cs g b i sm.1)
  where
    put : (g : Front) (j : ℕ) (rest : List Cell) → next f c (empty cs) ≡ Some g → length rest ≡ length cs → take j rest ≡ take j cs → Small rest → Ends rest g → Filled j (c ∷ cs) f
    put g j rest i l t s r =
        record {
          other = c ∷ rest;
          size = ap suc l;
          same = ap {B = List Cell} (λ (x : List Cell). c ∷ x) t;
          small = (sm.0, s);
          ends =
              record {
                final = r.final;
                ends = ap (λ (x : Option Front). onward x (walked rest)) (ap (next f c) (same-empty rest cs l) ∙ i) ∙ ap later r.ends;
              };
        }

    go : (r : Option Front) (j : ℕ) → next f c (empty cs) ≡ r → onward r (walked cs) ≡ stopped k → j < k → ((g : Front) (b i : ℕ) → walked cs g ≡ stopped b → i < b → Filled i cs g) → Filled j (c ∷ cs) f
    go None j i e h rec = absurd (let z : 0 ≡ k = cc in omega (arith, z, h))
    go (Some g) zero i e h rec =
        put g zero (replicate (length cs) naught) i (length-replicate (length cs) naught) refl (naughts-small (length cs)) (naughts (length cs) g)
    go (Some g) (suc j) i e h rec =
        let w = later-stopped (walked cs g) e in
        let n = w.next-to in
        let r = rec g w.before j w.stops (omega (arith, n, h)) in
        put g (suc j) r.other i r.size r.same r.small r.ends

-- the digit where the reader stops is the leftmost wrong one
pub leftmost : (p : List Cell) (k : ℕ) → Small p → walked p start ≡ stopped k → Leftmost p k
leftmost p k sm e =
    record {
      inside = inside p start k e;
      wrong = λ s.
          let r = complete s.other s.valid.0 s.valid.1 in
          let h = sym (stops-too p s.other start k s.size s.same e) ∙ r.ends in
          cc;
      first = λ j h wrong.
          let r = filled p start k j sm e h in
          wrong
          (record {
            other = r.other;
            size = r.size;
            same = r.same;
            valid = (reading_of r.ends.final, sound r.other [] start r.ends.final (by-blanks 0 refl refl) r.small (λ _ s. cc) r.ends.ends);
          });
    }

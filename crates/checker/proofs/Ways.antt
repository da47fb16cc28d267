-- From the queue to the answer: the way back from where the named pair's code first stands is a shortest chain of codes, so of pairs. And the
-- answer is the only one: the named pair is, and shortest chains to it are as long. Assumes nothing.
use Prim.Native.Nat.{ℕ, ◌/◌, ◌%◌, ◌<◌}
use native.Mathlib.Omega.{arith}
use mathlib.Core.Path.{◌≡◌, refl, sym, ap, subst, ◌∙◌}
use mathlib.Core.Bool.{true}
use mathlib.Core.List.{List, map}
use lib.ListN.{length, get_or}
use Rattle.rom.specs.Fetching.{sized}
use Rattle.reach.specs.Chains.{Chain, Shortest}
use Rattle.reach.specs.Walk.{Found, Names}
use Rattle.reach.specs.Trail.{Stands, StandsFirst, Traced, Counted, Up, stay}
use Rattle.reach.proofs.Chains.{map-length}
use Rattle.reach.proofs.Back.{up_from}
use Rattle.reach.proofs.Distance.{shortest}
use Rattle.reach.proofs.Once.{few-of-shortest}
use Rattle.checker.specs.Marks.{levels, Pair, pair, successors}
use Rattle.checker.specs.Verdicts.{rank, Safe}
use Rattle.checker.specs.Walk.{pairs, pair_of, next_codes, fault_at}
use Rattle.checker.specs.Ways.{Way, Lists, TooShort, WayAnswers, WayDetermines, WayToVerdict, WayFits, NeverTooShort}
use Rattle.checker.specs.Trail.{pairs_at, ListedTo}
use Rattle.std.specs.Prelude.{Result, Ok, Err}
use Rattle.refusals.specs.declared.Refusal.{Refusal}
use Rattle.refusals.specs.declared.Refusal.TheVariants as R
use Rattle.checker.specs.declared.walk.Named.{Named}
use Rattle.checker.proofs.Reach.{rank-pair, reached-level, code-shortest, shortest-codes, codes-small}
use Rattle.checker.proofs.Answer.{lowest, same-pair}

-- ---- the answer
module _ (mask seen queue starts : List ℕ) (s : Found pairs (next_codes mask) seen) (t : Traced pairs (next_codes mask) seen queue starts) where
  module _ (m : Named) (n : Names (fault_at mask) seen m.code m.fault) where
    pub standing : Stands pairs queue m.code
    standing =
        let p = t.stands m.code n.found in
        record { at = p.at; below = omega (arith, p.below, t.places); holds = p.holds }

    below : (at : ℕ) → StandsFirst queue m.code at → at < t.tail
    below at f = let p = t.stands m.code n.found in omega (arith, f.first p.at p.holds, p.below)

    way_back : (js : List ℕ) (count end : ℕ) → StandsFirst queue m.code end → Counted starts end count → Up starts 0 js end → count ≡ length js → Way mask (pairs_at queue js)
    way_back js count end f c u e =
        record {
          f = m.fault;
          a = m.code / levels;
          l = m.code % levels;
          named = lowest mask seen s m n;
          shortest =
              code-shortest mask (pair_of m.code) (omega arith)
              (subst (Shortest (next_codes mask) 0 (map (λ (j : ℕ). get_or queue j 0) js)) (sym (rank-pair m.code))
              (shortest (next_codes mask) queue starts t.tail t.trail t.some (below end f) u c e f));
        }

    pairs-length : (js : List ℕ) → length (pairs_at queue js) ≡ length js
    pairs-length js = map-length pair_of (map (λ (j : ℕ). get_or queue j 0) js) ∙ map-length (λ (j : ℕ). get_or queue j 0) js

    pub answered : (old new : List ℕ) (r : Result ℕ Refusal) → sized mask ≡ true → ListedTo queue starts m.code old new r → WayAnswers mask old new r
    answered old new (Ok n) e x =
        let p = x.listings in
        let l : Lists mask old new n =
        record {
          mask_size = e;
          chain = pairs_at queue p.places;
          way = way_back p.places n x.ended.end x.ended.first x.ended.counted p.up p.counted;
          counted = p.counted ∙ sym (pairs-length p.places);
          fits = x.fits;
          bytes = p.bytes;
        } in
        l
    answered old new (Err R.List) e (x, kept) =
        let u = up_from x.ended.counted stay in
        let n : x.count ≡ length u.0 = omega (arith, u.2) in
        let s : TooShort mask old =
        record {
          mask_size = e;
          chain = pairs_at queue u.0;
          way = way_back u.0 x.count x.ended.end x.ended.first x.ended.counted u.1 n;
          short = omega (arith, x.short, pairs-length u.0);
        } in
        (s, kept)
    answered old new (Err _) e x = absurd x

-- ---- the only answer
same_count : (mask : List ℕ) (c d : List Pair) → Way mask c → Way mask d → length c ≡ length d
same_count mask c d v w =
    let e = same-pair mask v.f v.a v.l w.f w.a w.l v.named w.named in
    let p : pair v.a v.l ≡ pair w.a w.l = rw (e.0, e.1) refl in
    omega (
      arith,
      v.shortest.least d (subst (Chain (successors mask) (pair 0 0) d) (sym p) w.shortest.links),
      w.shortest.least c (subst (Chain (successors mask) (pair 0 0) c) p v.shortest.links),
    )

pub way-to-verdict : WayToVerdict
way-to-verdict mask old new f a l chain v w =
    let e = same-pair mask w.f w.a w.l f a l w.named v.1 in
    let p : pair w.a w.l ≡ pair a l = rw (e.0, e.1) refl in
    subst (Shortest (successors mask) (pair 0 0) chain) p w.shortest

-- a mask with a way does not pass
not-safe : (mask : List ℕ) (c : List Pair) → Way mask c → Safe mask → ⊥
not-safe mask c v s = v.named.not-zero (sym v.named.forbidden ∙ s (pair v.a v.l) v.named.reached)

-- what a refusal's number says, by the refusal
Refusing : List ℕ → List ℕ → Refusal → Type 0
Refusing mask old R.Mask = sized mask ≡ true → ⊥
Refusing mask old R.Passes = (sized mask ≡ true) × Safe mask
Refusing mask old R.List = TooShort mask old
Refusing mask old _ = ⊥

said : (mask old new : List ℕ) (r : Refusal) → WayAnswers mask old new (Err r) → Refusing mask old r × (new ≡ old)
unfolding Refusing
said mask old new R.Mask x = x
said mask old new R.Buffer x = x
said mask old new R.Value x = x
said mask old new R.Choice x = x
said mask old new R.Range x = x
said mask old new R.Format x = x
said mask old new R.Kind x = x
said mask old new R.Start x = x
said mask old new R.Room x = x
said mask old new R.Passes x = x
said mask old new R.List x = x
said mask old new R.Line x = x
said mask old new R.Operand x = x
said mask old new R.Label x = x
said mask old new R.Fails x = x
said mask old new R.Glass x = x

module _ (mask old : List ℕ) where
  not-refused : {new : List ℕ} {n : ℕ} (r : Refusal) → Lists mask old new n → Refusing mask old r → ⊥
  unfolding Refusing
  not-refused R.Mask x y = y x.mask_size
  not-refused R.Passes x y = not-safe mask x.chain x.way y.1
  not-refused R.List x y = omega (arith, x.fits, x.counted, same_count mask x.chain y.chain x.way y.way, y.short)
  not-refused _ x y = y

  -- a refusal excludes each other one
  same-refusal : (r q : Refusal) → Refusing mask old r → Refusing mask old q → r ≡ q
  unfolding Refusing
  same-refusal R.Mask R.Mask x y = refl
  same-refusal R.Mask R.Passes x y = absurd (x y.0)
  same-refusal R.Mask R.List x y = absurd (x y.mask_size)
  same-refusal R.Passes R.Mask x y = absurd (y x.0)
  same-refusal R.Passes R.Passes x y = refl
  same-refusal R.Passes R.List x y = absurd (not-safe mask y.chain y.way x.1)
  same-refusal R.List R.Mask x y = absurd (y x.mask_size)
  same-refusal R.List R.Passes x y = absurd (not-safe mask x.chain x.way y.1)
  same-refusal R.List R.List x y = refl
  same-refusal R.Mask _ x y = absurd y
  same-refusal R.Passes _ x y = absurd y
  same-refusal R.List _ x y = absurd y
  same-refusal _ q x y = absurd x

pub way-determines : WayDetermines
way-determines mask old new other v w x y = go v w x y
  where
    go : (v w : Result ℕ Refusal) → WayAnswers mask old new v → WayAnswers mask old other w → v ≡ w
    go (Ok n) (Ok m) x y = ap Ok (x.counted ∙ same_count mask x.chain y.chain x.way y.way ∙ sym y.counted)
    go (Ok n) (Err r) x y = absurd (not-refused mask old r x (said mask old other r y).0)
    go (Err r) (Ok m) x y = absurd (not-refused mask old r y (said mask old new r x).0)
    go (Err r) (Err q) x y = ap Err (same-refusal mask old r q (said mask old new r x).0 (said mask old other q y).0)

-- ---- the length that always does
pub way-fits : WayFits
way-fits mask bytes chain w =
    let p = pair w.a w.l in
    omega (
      arith,
      map-length rank chain,
      few-of-shortest pairs (next_codes mask) (codes-small mask bytes) {p = 0} (omega arith) (shortest-codes mask p (reached-level mask p w.named.reached) w.shortest),
    )

pub never-too-short : NeverTooShort
never-too-short mask old bytes h s = omega (arith, way-fits mask bytes s.chain s.way, s.short)

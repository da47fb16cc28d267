-- `checker::walk::Walk::put_all` meets its contract. The loop's invariant: from `left` on stand the pairs of the places from `place` to the end, and
-- what was after them; as many as `place` counts, less one, are not listed yet. Assumes nothing.
use Prim.Native.Nat.{ℕ, ◌+◌, ◌-◌, ◌*◌, ◌≤◌, ◌<◌}
use mathlib.Core.Path.{◌≡◌, refl, sym, ap, subst, ◌∙◌}
use mathlib.Core.List.{List, [], ◌∷◌, ◌++◌}
use native.Mathlib.Omega.{arith}
use lib.ListN.{length, get_or, drop}
use lib.Seq.{drop-drop}
use Rattle.reach.specs.Trail.{Counted, Up, stay, climb, Before}
use Rattle.reach.proofs.Back.{counted-some, counted-origin, counted_back}
use Rattle.checker.specs.Walk.{pair_of}
use Rattle.checker.specs.Ways.{listed}
use Rattle.checker.specs.Trail.{pairs_at, Listings}
use Rattle.checker.proofs.walk.Walk.put_all.Invariants.{Putting}
use Rattle.checker.proofs.walk.Walk.put_all.Goals as goal

-- a pair's bytes leave what is after them
rest-kept : (old list : List ℕ) (at code : ℕ) → drop at list ≡ listed (pair_of code ∷ []) ++ drop (at + 3) old → drop (at + 3) list ≡ drop (at + 3) old
unfolding listed
rest-kept old list at code e = sym (drop-drop 3 at list) ∙ ap (drop 3) e

-- the last pair
last-put : (old queue starts : List ℕ) (last count : ℕ) (list : List ℕ) (left : ℕ) → Counted starts last count → left + 3 ≡ 3 * count
    → drop left list ≡ listed (pair_of (get_or queue last 0) ∷ []) ++ drop (left + 3) old → Putting list queue starts last count list last left
last-put old queue starts last count list left c e b =
    record {
      inside = omega arith;
      size = refl;
      rest = count;
      counted = c;
      offset = e;
      places = last ∷ [];
      up = stay;
      sum = omega arith;
      bytes =
          b ∙ ap (λ (r : List ℕ). listed (pair_of (get_or queue last 0) ∷ []) ++ r)
          (sym (rest-kept old list left (get_or queue last 0) b) ∙ ap (λ (n : ℕ). drop n list) e);
    }

-- one pair before it
one-put : (old queue starts : List ℕ) (last count : ℕ) (list new : List ℕ) (place at left : ℕ) → Before starts at place → Putting old queue starts last count list place left
    → length new ≡ length list
    → drop (left - 3) new ≡ listed (pair_of (get_or queue at 0) ∷ []) ++ drop (left - 3 + 3) list
    → Putting old queue starts last count new at (left - 3)
unfolding listed
one-put old queue starts last count list new place at left f p s b =
    let d : Counted starts at (p.rest - 1) = counted_back p.counted f in
    let r : 0 < p.rest - 1 = counted-some d in
    let e : left + 3 ≡ 3 * p.rest = p.offset in
    let m : left - 3 + 3 ≡ left = omega arith in
    let i : place ≤ last = p.inside in
    let k : at < place = f.earlier in
    record {
      inside = omega arith;
      size = s ∙ p.size;
      rest = p.rest - 1;
      counted = d;
      offset = omega arith;
      places = at ∷ p.places;
      up = climb f p.up;
      sum = omega (arith, p.sum);
      bytes = b ∙ ap (λ (r : List ℕ). listed (pair_of (get_or queue at 0) ∷ []) ++ r) (ap (λ (n : ℕ). drop n list) m ∙ p.bytes);
    }

-- before a place after the first there is one more pair to list
room-left : {old queue starts : List ℕ} {last count : ℕ} {list : List ℕ} {place at left : ℕ} → Putting old queue starts last count list place left → Before starts at place → 3 ≤ left
room-left p f = omega (arith, counted-some (counted_back p.counted f), p.offset)

-- the places before the first one are listed
all-put : (old old₀ queue starts : List ℕ) (last count : ℕ) (list : List ℕ) (place left : ℕ) → Putting old queue starts last count list place left → place ≡ 0
    → drop (3 * count) old ≡ drop (3 * count) old₀ → Listings queue starts last count old₀ list
all-put old old₀ queue starts last count list place left p z e =
    let r : p.rest ≡ 1 = counted-origin p.counted z in
    let l : left ≡ 0 = omega (arith, p.offset) in
    record {
      places = p.places;
      up = subst (λ (i : ℕ). Up starts i p.places last) z p.up;
      counted = omega (arith, p.sum);
      bytes = sym (ap (λ (n : ℕ). drop n list) l) ∙ p.bytes ∙ ap (λ (r : List ℕ). listed (pairs_at queue p.places) ++ r) e;
    }

pub overflow_sub-left : goal.overflow_sub-left
overflow_sub-left c = omega (arith, counted-some c.requires.1)

pub overflow_mul-left : goal.overflow_mul-left
overflow_mul-left c = omega arith

pub overflow_cast-place : goal.overflow_cast-place
overflow_cast-place c = omega arith

pub offset_bounds-self-place : goal.offset_bounds-self-place
offset_bounds-self-place c = omega arith

pub bounds-self-place : goal.bounds-self-place
bounds-self-place c = omega arith

pub put-requires : goal.put-requires
put-requires c = omega (arith, counted-some c.requires.1, c.requires.2)

pub loop-place-init : goal.loop-place-init
loop-place-init c =
    let k = counted-some c.requires.1 in
    last-put c.args.list.now c.args.self.now.queue c.args.self.now.starts c.args.end c.args.count c.put.new.list ((c.args.count - 1) * 3) c.requires.1 (omega arith) c.put.ensures.list_after

pub place_before-place-requires : goal.place_before-place-requires
place_before-place-requires c =
    (omega (arith, c.loop-place-test.true), omega (arith, c.loop-place.invariant.inside, c.requires.0))

pub overflow_sub-left-in-loop-place : goal.overflow_sub-left-in-loop-place
overflow_sub-left-in-loop-place c = room-left c.loop-place.invariant c.place_before-place.ensures

pub overflow_cast-place-in-loop-place : goal.overflow_cast-place-in-loop-place
overflow_cast-place-in-loop-place c = omega arith

pub offset_bounds-self-place-in-loop-place : goal.offset_bounds-self-place-in-loop-place
offset_bounds-self-place-in-loop-place c = omega arith

pub bounds-self-place-in-loop-place : goal.bounds-self-place-in-loop-place
bounds-self-place-in-loop-place c =
    omega (arith, c.loop-place.invariant.inside, c.place_before-place.ensures.earlier, c.requires.0)

pub put-requires-in-loop-place : goal.put-requires-in-loop-place
put-requires-in-loop-place c =
    omega (arith, room-left c.loop-place.invariant c.place_before-place.ensures, c.loop-place.invariant.size, c.put.ensures.list_len_unchanged, c.requires.2, c.loop-place.invariant.offset, c.loop-place.invariant.sum)

pub loop-place-smaller : goal.loop-place-smaller
loop-place-smaller c = c.place_before-place.ensures.earlier

pub loop-place-preserved : goal.loop-place-preserved
loop-place-preserved c =
    one-put c.put.new.list c.args.self.now.queue c.args.self.now.starts c.args.end c.args.count c.loop-place.list c.put-in-loop-place.new.list c.loop-place.place c.place_before-place.result c.loop-place.left c.place_before-place.ensures
    c.loop-place.invariant c.put-in-loop-place.ensures.list_len_unchanged c.put-in-loop-place.ensures.list_after

pub shape_of-list : goal.shape_of-list
shape_of-list c =
    c.loop-place.invariant.size ∙ c.put.ensures.list_len_unchanged

pub returns : goal.returns
returns c =
    let k = counted-some c.requires.1 in
    let e : (c.args.count - 1) * 3 + 3 ≡ 3 * c.args.count = omega arith in
    all-put c.put.new.list c.args.list.now c.args.self.now.queue c.args.self.now.starts c.args.end c.args.count c.loop-place.list c.loop-place.place c.loop-place.left c.loop-place.invariant
    (omega (arith, c.loop-place-test.false))
    (subst (λ (n : ℕ). drop n c.put.new.list ≡ drop n c.args.list.now) e (rest-kept c.args.list.now c.put.new.list ((c.args.count - 1) * 3) (get_or c.args.self.now.queue c.args.end 0) c.put.ensures.list_after))

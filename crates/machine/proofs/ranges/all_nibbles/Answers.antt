-- `machine::ranges::all_nibbles` meets its contract. The loop's invariant: the list's answer is that of the largest element so far and of
-- the elements from `i` on. Assumes nothing.
use Prim.Native.Nat.{ℕ, suc, ◌+◌, ◌≤◌, ◌<◌}
use mathlib.Core.Path.{◌≡◌, refl, sym, ap, ◌∙◌}
use mathlib.Core.Bool.{Bool, true, false, ◌&&◌}
use mathlib.Core.List.{List}
use native.Mathlib.Numerals.{add-one}
use native.Mathlib.Omega.{arith}
use lib.Dec.{ltb}
use lib.ListN.{length, get_or, drop, drop_of_length-le}
use lib.Seq.{drop-cons}
use Rattle.cpu.specs.Range.{nibbles}
use Rattle.machine.proofs.ranges.all_nibbles.Goals as goal

joined : (a b c : Bool) → a && (b && c) ≡ (a && b) && c
joined true b c = refl
joined false b c = refl

alone : (a : Bool) → a && true ≡ a
alone true = refl
alone false = refl

-- one element more
more : (s : List ℕ) (i top r : ℕ) → i < length s → nibbles s ≡ ltb top 16 && nibbles (drop i s) → ltb r 16 ≡ ltb top 16 && ltb (get_or s i 0) 16 → nibbles s ≡ ltb r 16 && nibbles (drop (i + 1) s)
unfolding nibbles
more s i top r h p q =
    p ∙ rw (drop-cons s i 0 h) (joined (ltb top 16) (ltb (get_or s i 0) 16) (nibbles (drop (suc i) s)))
    ∙ ap (λ (t : Bool). t && nibbles (drop (suc i) s)) (sym q) ∙ rw (add-one i) refl

end : (s : List ℕ) (i top : ℕ) → length s ≤ i → nibbles s ≡ ltb top 16 && nibbles (drop i s) → ltb top 16 ≡ nibbles s
unfolding nibbles
end s i top h p = sym (p ∙ rw (drop_of_length-le s h) (alone (ltb top 16)))

pub loop-x-init : goal.loop-x-init
loop-x-init c = refl

pub loop-x-preserved : goal.loop-x-preserved
loop-x-preserved c =
    more c.args.s.now c.loop-x.x-index c.loop-x.top c.larger-top.result (omega arith) c.loop-x.invariant c.larger-top.ensures

pub returns : goal.returns
returns c = end c.args.s.now c.loop-x.x-index c.loop-x.top (omega arith) c.loop-x.invariant

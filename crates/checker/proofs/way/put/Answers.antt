-- `checker::way::put` meets its contract: the three bytes stand where they are copied to, and what is after them stays. Assumes nothing.
use Prim.Native.Nat.{ℕ, ◌+◌, ◌-◌, ◌/◌, ◌%◌, ◌≤◌}
use mathlib.Core.Path.{◌≡◌, ap, ◌∙◌}
use mathlib.Core.List.{List, ◌∷◌, ◌++◌}
use native.Mathlib.Omega.{arith}
use borrow.Rule.Slice.PartMut.{put_mid}
use lib.ListN.{length, get_or, drop, take}
use lib.Seq.{drop_at, drop-drop, length-take-le}
use Rattle.checker.specs.Ways.{listed}
use Rattle.checker.proofs.way.put.Goals as goal

put-over : (xs ys : List ℕ) (at : ℕ) → at + 3 ≤ length xs → drop at (put_mid at (at + 3 - at) xs ys) ≡ ys ++ drop (at + 3) xs
put-over xs ys at h =
    let k : at + 3 - at ≡ 3 = omega arith in
    drop_at (take at xs) (ys ++ drop (at + 3 - at) (drop at xs)) at (length-take-le at xs (omega arith))
    ∙ ap (λ (n : ℕ). ys ++ drop n (drop at xs)) k
    ∙ ap (λ (r : List ℕ). ys ++ r) (drop-drop 3 at xs)

pub returns-clause-list_after : goal.returns-clause-list_after
unfolding listed
returns-clause-list_after c =
    let high : c.args.code / 3 / 256 % 256 ≡ c.args.code / 3 / 256 = omega arith in
    let rest = c.args.code % 3 ∷ drop (c.args.at + 3) c.args.list.now in
    put-over c.args.list.now c.copy_from_slice.new.self c.args.at c.requires
    ∙ ap (λ (ys : List ℕ). ys ++ drop (c.args.at + 3) c.args.list.now) c.copy_from_slice.ensures.after
    ∙ ap (λ (bs : List ℕ). get_or bs 0 0 ∷ get_or bs 1 0 ∷ rest) c.to_le_bytes.ensures
    ∙ ap (λ (n : ℕ). c.args.code / 3 % 256 ∷ n ∷ rest) high

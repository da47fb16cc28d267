-- `glass::draw::row` meets its contract: the nibbles of a digit are its halves.
use Rattle.std.proofs.Common.{ℕ, ◌≡◌, ◌/◌, ◌%◌, ◌<◌, List, [], ◌∷◌, ap, ◌∙◌, refl}
use Rattle.glass.specs.Shapes.{Cell}
use Rattle.glass.specs.Walk.{byte_of}
use Rattle.glass.proofs.Cells.{low, high, placed-small}
use Rattle.glass.proofs.draw.row.Goals as goal

more : (k : Cell) (x : ℕ) (rest others : List ℕ) → k.abcd < 16 → x ≡ byte_of k → rest ≡ others → x % 16 ∷ x / 16 ∷ rest ≡ k.abcd ∷ k.efgp ∷ others
more k x rest others h e r =
    let low : x % 16 ≡ k.abcd = ap (λ y. y % 16) e ∙ low k h in
    let high : x / 16 ≡ k.efgp = ap (λ y. y / 16) e ∙ high k h in
    cc

pub returns : goal.returns
returns c =
    more _ _ _ _ (placed-small c.args.figure 3) c.place-first.ensures
    (more _ _ _ _ (placed-small c.args.figure 2) c.place-second.ensures
    (more _ _ _ _ (placed-small c.args.figure 1) c.place-third.ensures
    (more _ _ [] [] (placed-small c.args.figure 0) c.place-last.ensures refl)))

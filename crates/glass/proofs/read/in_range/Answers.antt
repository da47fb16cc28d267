-- `glass::read::in_range` meets its contract.
use Rattle.std.proofs.Common.{ℕ, ◌≡◌, List, [], ◌∷◌, ltb, ◌&&◌, refl, ap, ◌∙◌, rules, tests}
use Rattle.std.specs.List.{list_all}
use Rattle.std.proofs.lemmas.Iterator.{YieldsList-from_slice}
use Rattle.std.proofs.lemmas.Iterator.Search.{all_from_yields_List}
use Rattle.glass.specs.Reading.{all_nibbles}
use Rattle.glass.proofs.read.in_range.Goals as goal

same : (xs : List ℕ) → list_all (λ x. ltb x 16) xs ≡ all_nibbles xs
unfolding all_nibbles
same [] = refl
same (x ∷ xs) = ap (λ b. ltb x 16 && b) (same xs)

pub returns : goal.returns
returns c =
    all_from_yields_List (λ x. ltb x 16) _ _ _ c.all.ensures.ran (YieldsList-from_slice c.args.picture.now cc) (λ x b q k. search (rules, tests))
    ∙ same c.args.picture.now

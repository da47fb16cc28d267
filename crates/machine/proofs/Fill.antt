-- A loop that fills a list from the front with the elements of another: one element more, and the whole. Assumes nothing.
use Prim.Native.Nat.{ℕ, ◌+◌, ◌<◌, ◌≤◌}
use mathlib.Core.Path.{◌≡◌, sym, ap₂, ◌∙◌}
use mathlib.Core.List.{List, [], ◌∷◌, ◌++◌}
use native.Mathlib.Numerals.{add-one}
use lib.ListN.{length, get_or, take, set}
use lib.Seq.{take-suc-set, take-suc, take_all}

pub fill_more : (target l : List ℕ) (i x : ℕ) → i < length l → i < length target → x ≡ get_or target i 0 → take i l ≡ take i target → take (i + 1) (set l i x) ≡ take (i + 1) target
fill_more target l i x h t p e =
    rw (add-one i)
    (take-suc-set l i x h ∙ ap₂ (λ (s : List ℕ) (x : ℕ). s ++ (x ∷ [])) e p ∙ sym (take-suc target i 0 t))

pub fill-all : (target l : List ℕ) (i : ℕ) → length l ≤ i → length target ≤ i → take i l ≡ take i target → l ≡ target
fill-all target l i h t e = sym (take_all i l h) ∙ e ∙ take_all i target t

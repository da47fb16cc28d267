-- What is drawn place by place is the picture of the definition: at the right, with blanks before it.
use Prim.Native.Nat.{ℕ, zero, suc, ◌+◌, ◌≤◌, ◌<◌}
use mathlib.Core.Path.{◌≡◌, refl, sym, ap, ◌∙◌}
use mathlib.Core.Bool.{Bool, true, false, cond}
use native.Mathlib.Omega.{arith}
use lib.IntN.{ℤ, nat_abs}
use borrow.Author.Tests.{leb-true}
use Rattle.std.specs.Prelude.{List, [], ◌∷◌, ◌++◌, Option, Some, None, Result, Ok, Err}
use Rattle.refusals.specs.declared.Refusal.{Refusal}
use Rattle.refusals.specs.declared.Refusal.TheVariants.{Glass}
use Rattle.glass.specs.Shapes.{Cell, nibbles}
use Rattle.glass.specs.Drawing.{enough, first_enough, fewest, digits_of, is_negative, fits, at_right, drawn_number, fitting, drawn}
use Rattle.glass.specs.Text.{spelt, text_of}
use Rattle.glass.specs.Walk.{FigureOf, row}
use Rattle.glass.specs.declared.Reading.TheVariants.{Number}
use Rattle.glass.specs.declared.figure.Figure.{Figure}

rows : (minus : Bool) (size count n : ℕ) (h : n ≤ 4) → 0 < n → fits minus n ≡ true
    → row (record { minus = minus; size = size; places = count; digits = n; few = h }) ≡ at_right minus (digits_of n size count)
rows minus size count zero h p f = absurd (omega arith)
rows true size count (suc zero) h p f = refl
rows true size count (suc (suc zero)) h p f = refl
rows true size count (suc (suc (suc zero))) h p f = refl
rows true size count (suc (suc (suc (suc n)))) h p f = absurd (let h = leb-true (suc (suc (suc (suc n))) + 1) 4 f in omega (arith, h))
rows false size count (suc zero) h p f = refl
rows false size count (suc (suc zero)) h p f = refl
rows false size count (suc (suc (suc zero))) h p f = refl
rows false size count (suc (suc (suc (suc zero)))) h p f = refl
rows false size count (suc (suc (suc (suc (suc n))))) h p f = absurd (omega (arith, h))

-- there is at least one digit
from : (size count more n : ℕ) → n ≤ first_enough size count more n
from size count zero n = omega arith
from size count (suc more) n = go (enough size count n) (from size count more (suc n))
  where
    go : (b : Bool) → suc n ≤ first_enough size count more (suc n) → n ≤ cond b n (first_enough size count more (suc n))
    go true h = omega arith
    go false h = omega (arith, h)

pub some-digit : (size count : ℕ) → 0 < fewest size count
some-digit size count = let h = from size count 4 1 in omega (arith, h)

-- what is drawn and written of a number, by whether it fits
abbrev pub drawn_from : Option Figure → Result (List ℕ) Refusal
drawn_from None = Err Glass
drawn_from (Some x) = Ok (nibbles (row x))

pub drawn_as : (v : ℤ) (c : ℕ) (o : Option Figure) → FigureOf v c o → drawn_from o ≡ cond (fitting (Number v c)) (Ok (nibbles (drawn (Number v c)))) (Err Glass)
drawn_as v c None e = rw e refl
drawn_as v c (Some x) (f, m, s, p, d) =
    let some : 0 < x.digits = rw d (some-digit (nat_abs v) c) in
    let there : at_right x.minus (digits_of x.digits x.size x.places) ≡ drawn_number v c = rw (m, s, p, d) refl in
    let fit : fits (is_negative v) (fewest (nat_abs v) c) ≡ true = rw (sym m, sym d) f in
    ap (λ (s : List Cell). Ok (nibbles s)) (rows x.minus x.size x.places x.digits x.few some f ∙ there)
    ∙ sym (ap (λ (b : Bool). cond b (Ok (nibbles (drawn_number v c))) (Err Glass)) fit)

abbrev pub text_from : Option Figure → List ℕ
text_from None = []
text_from (Some x) = cond x.minus (45 ∷ []) [] ++ spelt (digits_of x.digits x.size x.places)

pub written_as : (v : ℤ) (c : ℕ) (o : Option Figure) → FigureOf v c o → text_from o ≡ text_of (Number v c)
unfolding text_of
written_as v c None e = rw e refl
written_as v c (Some x) (f, m, s, p, d) =
    let fit : fits (is_negative v) (fewest (nat_abs v) c) ≡ true = rw (sym m, sym d) f in
    rw (m, s, p, d, fit) refl

-- how many digits fit
pub fits_under : (minus : Bool) (n : ℕ) → fits minus n ≡ true → n + cond minus 1 0 ≤ 4
fits_under minus n f = leb-true (n + cond minus 1 0) 4 f

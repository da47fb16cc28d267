-- The reader ends with the reading of every valid picture: it passes the blanks, takes the minus, and then each digit. Assumes nothing.
use Prim.Native.Nat.{ℕ, zero, suc, ◌<◌, ◌≤◌}
use native.Mathlib.Omega.{arith}
use mathlib.Core.Path.{◌≡◌, refl, sym, ap, ap₂, ◌∙◌, subst}
use mathlib.Core.Bool.{Bool, true, false, cond}
use mathlib.Core.List.{List, [], ◌∷◌, ◌++◌, map, append-nil}
use lib.ListN.{length, replicate}
use lib.Seq.{append_snoc}
use Rattle.std.specs.Prelude.{Option, Some}
use Rattle.glass.specs.Shapes.{Cell, blank, hyphen}
use Rattle.glass.specs.Pictures.{Digit, lit, Numerals, points, Reads}
use Rattle.glass.specs.Walk.{front, start, numeral_taken, reading_of}
use Rattle.glass.specs.declared.Reading.{Reading}
use Rattle.glass.specs.declared.Reading.TheVariants.{Dark, Number}
use Rattle.glass.specs.declared.read.Front.{Front}
use Rattle.glass.specs.declared.read.Stage.TheVariants.{Blanks, Signed}
use Rattle.glass.proofs.Marks.{next, next-digit, next-blank, next-minus}
use Rattle.glass.proofs.Walks.{Walked, ended, later, empty, onward, walked, after, digit-on, from_start, from-minus, reading-after}

-- one digit that is taken
takes : (c : Cell) (cs : List Cell) (f g h : Front) → next f c (empty cs) ≡ Some g → walked cs g ≡ ended h → walked (c ∷ cs) f ≡ ended h
takes c cs f g h e k = ap (λ (r : Option Front). onward r (walked cs)) e ∙ ap later k

skips : (n : ℕ) (rest : List Cell) (f g : Front) → f.stage ≡ Blanks → walked rest f ≡ ended g → walked (replicate n blank ++ rest) f ≡ ended g
skips zero rest f g s e = e
skips (suc n) rest f g s e = takes blank (replicate n blank ++ rest) f f g (next-blank f (empty (replicate n blank ++ rest)) s) (skips n rest f g s e)

-- points only grow
points-front : (es ds : List Digit) → points es ≤ points (es ++ ds)
points-front [] ds = omega arith
points-front (e ∷ es) ds = let h = points-front es ds in omega (arith, h)

digits-taken : (m : Bool) (ds es : List Digit) → Numerals ds → points (es ++ ds) ≤ 1 → walked (map lit ds) (after m es) ≡ ended (after m (es ++ ds))
digits-taken m [] es ns one = ap {B = Walked} (λ (s : List Digit). ended (after m s)) (sym (append-nil es))
digits-taken m (d ∷ ds) es ns one =
    let e : es ++ (d ∷ []) ++ ds ≡ es ++ (d ∷ ds) = append_snoc es d ds in
    let o : points (es ++ (d ∷ []) ++ ds) ≤ 1 = subst (λ (s : List Digit). points s ≤ 1) (sym e) one in
    let l = points-front (es ++ (d ∷ [])) ds in
    takes (lit d) (map lit ds) (after m es) (after m (es ++ (d ∷ []))) (after m (es ++ (d ∷ ds)))
    (next-digit (after m es) d.numeral d.pointed (empty (map lit ds)) ns.0 ∙ digit-on m es d.numeral d.pointed (omega (arith, o, l)))
    (digits-taken m ds (es ++ (d ∷ [])) ns.1 o ∙ ap {B = Walked} (λ (s : List Digit). ended (after m s)) e)

-- the first digit is taken as one behind no digits
first_taken : (m : Bool) (f : Front) (ds : List Digit) → ((k : ℕ) (p : Bool) → numeral_taken f k p ≡ numeral_taken (after m []) k p) → 0 < length ds → Numerals ds → points ds ≤ 1 → walked (map lit ds) f ≡ ended (after m ds)
first_taken m f [] h some ns one = absurd (omega (arith, some))
first_taken m f (d ∷ ds) h some ns one =
    ap (λ (r : Option Front). onward r (walked (map lit ds)))
    (next-digit f d.numeral d.pointed (empty (map lit ds)) ns.0 ∙ h d.numeral d.pointed
    ∙ sym (next-digit (after m []) d.numeral d.pointed (empty (map lit ds)) ns.0))
    ∙ digits-taken m (d ∷ ds) [] ns one

signed-taken : (m : Bool) (ds : List Digit) → 0 < length ds → Numerals ds → points ds ≤ 1 → walked (cond m (hyphen ∷ []) [] ++ map lit ds) start ≡ ended (after m ds)
signed-taken false ds some ns one = first_taken false start ds from_start some ns one
signed-taken true [] some ns one = absurd (omega (arith, some))
signed-taken true (d ∷ ds) some ns one =
    takes hyphen (map lit (d ∷ ds)) start (front 0 Signed true 0) (after true (d ∷ ds)) (next-minus start refl)
    (first_taken true (front 0 Signed true 0) (d ∷ ds) from-minus some ns one)

pub record Read (p : List Cell) (r : Reading) : Type 0 where
  pub final : Front
  pub ends : walked p start ≡ ended final
  pub reading : reading_of final ≡ r

pub complete : (p : List Cell) (r : Reading) → Reads p r → Read p r
complete p Dark e =
    record {
      final = start;
      ends = ap (λ (s : List Cell). walked s start) (e ∙ sym (append-nil (replicate (length p) blank))) ∙ skips (length p) [] start start refl refl;
      reading = refl;
    }
complete p (Number v n) k =
    record {
      final = after k.minus k.digits;
      ends =
          ap (λ (s : List Cell). walked s start) k.parts
          ∙ skips k.blanks (cond k.minus (hyphen ∷ []) [] ++ map lit k.digits) start (after k.minus k.digits) refl
          (signed-taken k.minus k.digits k.some k.numerals k.one-point);
      reading = reading-after k.minus k.digits ∙ sym (ap₂ {C = Reading} Number k.valued k.counted);
    }

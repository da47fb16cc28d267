-- What one digit can be: a lit digit, a blank, a minus, or one that no valid picture has there. Both ways: from the cell to what the reader makes of
-- it, and from what the reader made of it to the cell. Assumes nothing.
use Prim.Native.Nat.{ℕ, zero, suc, ◌+◌, ◌*◌, ◌/◌, ◌<◌}
use native.Mathlib.Nat.{le_of_suc-le-suc}
use native.Mathlib.Omega.{arith}
use mathlib.Core.Path.{◌≡◌, refl, sym, ap, ap₂, ◌∙◌}
use mathlib.Core.Bool.{Bool, true, false, cond}
use mathlib.Core.List.{List, [], ◌∷◌, ◌++◌}
use lib.Dec.{eqb, ltb, lit<}
use lib.ListN.{length, get_or, get_or-append, get_or-map}
use Rattle.std.specs.Prelude.{Option, Some, None}
use borrow.Author.Tests.{ltb-true, eqb-true, eqb-false, eq-eqb, ne_eqb, lt-ltb}
use Rattle.glass.specs.Shapes.{Cell, cell, shapes, blank, hyphen, shape}
use Rattle.glass.specs.Pictures.{digit, lit}
use Rattle.glass.specs.Walk.{code_of, place_in, codes, shown_as, shown, front, is_blank, numeral_taken, stepped}
use Rattle.glass.specs.declared.read.Front.{Front}
use Rattle.glass.specs.declared.read.Stage.{Stage}
use Rattle.glass.specs.declared.read.Stage.TheVariants.{Blanks, Signed, Digits, Fraction}
use Rattle.glass.specs.declared.shapes.Mark.TheVariants.{Numeral, Blank, Minus}
use Rattle.glass.proofs.Cells.{small, no-point}

-- two nibbles
pub record Nibbles (c : Cell) : Type 0 where
  pub first : c.abcd < 16
  pub second : c.efgp < 16

-- one digit, as the reader takes it
abbrev pub next : Front → Cell → Bool → Option Front
next f c last = stepped f (shown (code_of c)) (eqb (c.efgp / 8) 1) last

-- what a list has at the place of a number
found : (l : List ℕ) (x : ℕ) → place_in l x < length l → get_or l (place_in l x) 0 ≡ x
found [] x h = absurd (omega arith)
found (y ∷ ys) x h = go (eqb x y) refl h (found ys x)
  where
    go : (b : Bool) → eqb x y ≡ b → cond b 0 (suc (place_in ys x)) < suc (length ys) → (place_in ys x < length ys → get_or ys (place_in ys x) 0 ≡ x)
        → get_or (y ∷ ys) (cond b 0 (suc (place_in ys x))) 0 ≡ x
    go true e k r = sym (eqb-true x y e)
    go false e k r = r (le_of_suc-le-suc k)

-- the codes, by their places
code-at : (m : ℕ) → m < 10 → get_or codes m 0 ≡ code_of (shape m)
code-at m h = get_or-map code_of (shapes ++ (blank ∷ hyphen ∷ [])) m blank ∙ ap code_of (get_or-append shapes (blank ∷ hyphen ∷ []) blank m h)

coded : (c : Cell) (m : ℕ) → shown_as (code_of c) ≡ m → m < 12 → get_or codes m 0 ≡ code_of c
unfolding shown_as
coded c m e h = ap (λ (k : ℕ). get_or codes k 0) (sym e) ∙ found codes (code_of c) (rw e h)

-- a cell is told by its code and its point
same : (c : Cell) (x y : ℕ) (p : Bool) → Nibbles c → x < 16 → y < 8 → code_of c ≡ x + y * 16 → eqb (c.efgp / 8) 1 ≡ p → c ≡ cell x (y + cond p 8 0)
same c x y true n hx hy e k =
    let h = eqb-true (c.efgp / 8) 1 k in
    ap₂ cell (omega (arith, n.first, n.second, hx, hy, e)) (omega (arith, n.first, n.second, hx, hy, e, h))
same c x y false n hx hy e k =
    let h = eqb-false (c.efgp / 8) 1 k in
    let z : c.efgp / 8 ≡ 0 = omega (arith, n.second, h) in
    ap₂ cell (omega (arith, n.first, n.second, hx, hy, e)) (omega (arith, n.first, n.second, hx, hy, e, z))

lit-of : (c : Cell) (m : ℕ) (p : Bool) → Nibbles c → shown_as (code_of c) ≡ m → m < 10 → eqb (c.efgp / 8) 1 ≡ p → c ≡ lit (digit m p)
lit-of c m p n e h k =
    let q : code_of (shape m) ≡ (shape m).abcd + (shape m).efgp * 16 = omega (arith, no-point m) in
    same c (shape m).abcd (shape m).efgp p n (small m) (no-point m) (sym (coded c m e (omega (arith, h))) ∙ code-at m h ∙ q) k

-- what the reader made of a digit
pub data Stepping (f : Front) (c : Cell) (last : Bool) (r : Option Front) : Type 0 where
  digit-more : (n : ℕ) (p : Bool) → n < 10 → c ≡ lit (digit n p) → r ≡ numeral_taken f n p → Stepping f c last r
  blank-more : c ≡ blank → f.stage ≡ Blanks → r ≡ Some f → Stepping f c last r
  minus-more : c ≡ hyphen → f.stage ≡ Blanks → last ≡ false → r ≡ Some (front 0 Signed true 0) → Stepping f c last r
  none : r ≡ None → Stepping f c last r

blanks : (s : Stage) → is_blank s ≡ true → s ≡ Blanks
blanks Blanks e = refl
blanks Signed e = cc
blanks Digits e = cc
blanks Fraction e = cc

pub view : (f : Front) (c : Cell) (last : Bool) → Nibbles c → Stepping f c last (next f c last)
unfolding stepped
view f c last n = by-mark (ltb m 10) (eqb m 10) (eqb m 11) (eqb (c.efgp / 8) 1) (is_blank f.stage) last refl refl refl refl refl refl
  where
    m : ℕ
    m = shown_as (code_of c)

    by-mark : (b t u p z l : Bool) → ltb m 10 ≡ b → eqb m 10 ≡ t → eqb m 11 ≡ u → eqb (c.efgp / 8) 1 ≡ p → is_blank f.stage ≡ z → last ≡ l
        → Stepping f c last (stepped f (cond b (Some (Numeral m)) (cond t (Some Blank) (cond u (Some Minus) None))) p l)
    by-mark true t u p z l eb et eu ep ez el = digit-more m p (ltb-true m 10 eb) (lit-of c m p n refl (ltb-true m 10 eb) ep) refl
    by-mark false true u true z l eb et eu ep ez el = none refl
    by-mark false true u false z l eb et eu ep ez el = go z ez
      where
        go : (z : Bool) → is_blank f.stage ≡ z → Stepping f c last (cond (is_blank f.stage) (Some f) None)
        go true ez =
            blank-more (same c 0 0 false n (lit< tt) (lit< tt) (sym (coded c 10 (eqb-true m 10 et) (lit< tt))) ep) (blanks f.stage ez) (rw ez refl)
        go false ez = none (rw ez refl)
    by-mark false false true true z l eb et eu ep ez el = none refl
    by-mark false false true false z l eb et eu ep ez el = go z l ez el
      where
        go : (z l : Bool) → is_blank f.stage ≡ z → last ≡ l → Stepping f c last (cond (is_blank f.stage) (cond l None (Some (front 0 Signed true 0))) None)
        go false l ez el = none (rw ez refl)
        go true true ez el = none (rw ez refl)
        go true false ez el =
            minus-more (same c 0 4 false n (lit< tt) (lit< tt) (sym (coded c 11 (eqb-true m 11 eu) (lit< tt))) ep) (blanks f.stage ez) el (rw ez refl)
    by-mark false false false p z l eb et eu ep ez el = none refl

-- and back: what the reader makes of each cell that a picture may have
pub mark-found : (n : ℕ) → n < 12 → shown_as (code_of (get_or (shapes ++ (blank ∷ hyphen ∷ [])) n blank)) ≡ n
unfolding shown_as
mark-found zero h = refl
mark-found (suc zero) h = refl
mark-found (suc (suc zero)) h = refl
mark-found (suc (suc (suc zero))) h = refl
mark-found (suc (suc (suc (suc zero)))) h = refl
mark-found (suc (suc (suc (suc (suc zero))))) h = refl
mark-found (suc (suc (suc (suc (suc (suc zero)))))) h = refl
mark-found (suc (suc (suc (suc (suc (suc (suc zero))))))) h = refl
mark-found (suc (suc (suc (suc (suc (suc (suc (suc zero)))))))) h = refl
mark-found (suc (suc (suc (suc (suc (suc (suc (suc (suc zero))))))))) h = refl
mark-found (suc (suc (suc (suc (suc (suc (suc (suc (suc (suc zero)))))))))) h = refl
mark-found (suc (suc (suc (suc (suc (suc (suc (suc (suc (suc (suc zero))))))))))) h = refl
mark-found (suc (suc (suc (suc (suc (suc (suc (suc (suc (suc (suc (suc n)))))))))))) h = absurd (omega (arith, h))

shape-mark : (n : ℕ) → n < 10 → shown_as (code_of (shape n)) ≡ n
shape-mark n h =
    let l : n < 12 = omega (arith, h) in
    ap (λ (c : Cell). shown_as (code_of c)) (sym (get_or-append shapes (blank ∷ hyphen ∷ []) blank n h)) ∙ mark-found n l

lit-code : (n : ℕ) (p : Bool) → code_of (lit (digit n p)) ≡ code_of (shape n)
lit-code n true = omega (arith, no-point n)
lit-code n false = omega arith

lit-point : (n : ℕ) (p : Bool) → eqb ((lit (digit n p)).efgp / 8) 1 ≡ p
lit-point n true = eq-eqb ((lit (digit n true)).efgp / 8) 1 (omega (arith, no-point n))
lit-point n false = ne_eqb ((lit (digit n false)).efgp / 8) 1 (λ e. absurd (omega (arith, no-point n, e)))

pub next-digit : (f : Front) (n : ℕ) (p last : Bool) → n < 10 → next f (lit (digit n p)) last ≡ numeral_taken f n p
unfolding stepped
next-digit f n p last h = rw (lit-code n p, shape-mark n h, lit-point n p, lt-ltb n 10 h) refl

pub next-blank : (f : Front) (last : Bool) → f.stage ≡ Blanks → next f blank last ≡ Some f
unfolding stepped shown_as
next-blank f last e = rw e refl

pub next-minus : (f : Front) → f.stage ≡ Blanks → next f hyphen false ≡ Some (front 0 Signed true 0)
unfolding stepped shown_as
next-minus f e = rw e refl

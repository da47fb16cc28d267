-- Digits as numbers: the nibbles of one are its two halves. Assumes nothing.
use Prim.Native.Nat.{ℕ, zero, suc, ◌/◌, ◌%◌, ◌^◌, ◌<◌}
use mathlib.Core.Path.{◌≡◌}
use mathlib.Core.Bool.{Bool, true, false, cond}
use native.Mathlib.Omega.{arith}
use lib.Dec.{eqb, ltb, lit<}
use Rattle.glass.specs.Shapes.{Cell, blank, hyphen, shape}
use Rattle.glass.specs.Pictures.{Digit, digit, lit}
use Rattle.glass.specs.Drawing.{point_at}
use Rattle.glass.specs.declared.figure.Figure.{Figure}
use Rattle.glass.specs.Walk.{byte_of, placed}

-- what holds of all ten shapes and of a blank holds of the shape of any number
pub every : (P : Cell → Type 0) → P (shape 0) → P (shape 1) → P (shape 2) → P (shape 3) → P (shape 4) → P (shape 5) → P (shape 6) → P (shape 7) → P (shape 8) → P (shape 9) → P (shape 10) → (n : ℕ) → P (shape n)
every P a b c d e f g h i j k zero = a
every P a b c d e f g h i j k (suc zero) = b
every P a b c d e f g h i j k (suc (suc zero)) = c
every P a b c d e f g h i j k (suc (suc (suc zero))) = d
every P a b c d e f g h i j k (suc (suc (suc (suc zero)))) = e
every P a b c d e f g h i j k (suc (suc (suc (suc (suc zero))))) = f
every P a b c d e f g h i j k (suc (suc (suc (suc (suc (suc zero)))))) = g
every P a b c d e f g h i j k (suc (suc (suc (suc (suc (suc (suc zero))))))) = h
every P a b c d e f g h i j k (suc (suc (suc (suc (suc (suc (suc (suc zero)))))))) = i
every P a b c d e f g h i j k (suc (suc (suc (suc (suc (suc (suc (suc (suc zero))))))))) = j
every P a b c d e f g h i j k (suc (suc (suc (suc (suc (suc (suc (suc (suc (suc n)))))))))) = k

pub small : (n : ℕ) → (shape n).abcd < 16
small = every (λ (c : Cell). c.abcd < 16) (lit< tt) (lit< tt) (lit< tt) (lit< tt) (lit< tt) (lit< tt) (lit< tt) (lit< tt) (lit< tt) (lit< tt) (lit< tt)

pub no-point : (n : ℕ) → (shape n).efgp < 8
no-point = every (λ (c : Cell). c.efgp < 8) (lit< tt) (lit< tt) (lit< tt) (lit< tt) (lit< tt) (lit< tt) (lit< tt) (lit< tt) (lit< tt) (lit< tt) (lit< tt)

chosen-small : (a b c : Bool) (d : Digit) → (cond a (lit d) (cond b (cond c hyphen blank) blank)).abcd < 16
chosen-small true b c d = small d.numeral
chosen-small false true true d = lit< tt
chosen-small false true false d = lit< tt
chosen-small false false c d = lit< tt

pub placed-small : (x : Figure) (after : ℕ) → (placed x after).abcd < 16
placed-small x after = chosen-small (ltb after x.digits) (eqb after x.digits) x.minus (digit (x.size / 10 ^ after % 10) (point_at after x.places))

-- the halves of a digit as one number
pub low : (c : Cell) → c.abcd < 16 → byte_of c % 16 ≡ c.abcd
low c h = omega (arith, h)

pub high : (c : Cell) → c.abcd < 16 → byte_of c / 16 ≡ c.efgp
high c h = omega (arith, h)

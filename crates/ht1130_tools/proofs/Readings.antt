-- The numbers of readings depend on the picture and on the machine alone, and tell them: what a picture shows is small, so that no part of a number
-- reaches into another. Assumes nothing.
use Prim.Native.Nat.{ℕ, ◌+◌, ◌*◌, ◌%◌, ◌<◌}
use native.Mathlib.Omega.{arith}
use mathlib.Core.Path.{◌≡◌, refl, sym, ap, ap₂, ◌∙◌}
use mathlib.Core.Bool.{Bool}
use mathlib.Core.List.{List}
use lib.ListN.{replicate}
use lib.IntN.{ℤ, pos, negsuc, nat_abs}
use Rattle.std.specs.Prelude.{Ok, Err}
use Rattle.refusals.specs.Numbers.{number_of}
use Rattle.refusals.proofs.Numbers.{same_number}
use Rattle.machine_glass.specs.Glass.{Sight, Sees, on_glass, pictured, picture_of}
use Rattle.glass.specs.Reading.{Seen, SeenAnswers}
use Rattle.glass.specs.declared.Reading.TheVariants.{Dark, Number}
use Rattle.glass.specs.declared.Unseen.TheVariants.{BadLength, BadNibble, Unreadable}
use Rattle.glass.proofs.Laws.{seen-determined, shown-under, unreadable-under}
use Rattle.isa.specs.Choice.{pick}
use Rattle.refusals.specs.declared.Refusal.{Refusal}
use Rattle.machine.specs.declared.Machine.{Machine}
use Rattle.machine_glass.proofs.Laws.{sight-determined}
use Rattle.ht1130_tools.specs.Readings.{complement, seen_number, sight_number, GlassReadDetermined, SightToldDetermined, NumberTells, SightTells}

pub glass-read-determined : GlassReadDetermined
glass-read-determined picture r q x y =
    x.number ∙ ap seen_number (seen-determined picture x.seen y.seen x.answers y.answers) ∙ sym y.number

pub sight-told-determined : SightToldDetermined
sight-told-determined m r q x y = x.number ∙ ap sight_number (sight-determined m x.sight y.sight x.sees y.sees) ∙ sym y.number

-- a small number is told by its 32 bits
complement-tells : (v w : ℤ) → nat_abs v < 10000 → nat_abs w < 10000 → complement v ≡ complement w → v ≡ w
complement-tells (pos m) (pos n) h k e = ap pos e
complement-tells (pos m) (negsuc n) h k e = absurd (omega (arith, h, k, e))
complement-tells (negsuc m) (pos n) h k e = absurd (omega (arith, h, k, e))
complement-tells (negsuc m) (negsuc n) h k e = ap negsuc (omega (arith, h, k, e))

number_same : (p q : List ℕ) (v w : ℤ) (c d : ℕ) → SeenAnswers p (Ok (Number v c)) → SeenAnswers q (Ok (Number w d))
    → seen_number (Ok (Number v c)) ≡ seen_number (Ok (Number w d)) → ◌≡◌ {A = Seen} (Ok (Number v c)) (Ok (Number w d))
number_same p q v w c d a b e =
    let x = shown-under p v c a in
    let y = shown-under q w d b in
    let i = x.1 in
    let j = y.1 in
    let u : c + complement v * 256 ≡ d + complement w * 256 = omega (arith, e) in
    let same : c ≡ d = low c (complement v) i ∙ ap (λ (k : ℕ). k % 256) u ∙ sym (low d (complement w) j) in
    ap₂ {C = Seen} (λ (z : ℤ) (n : ℕ). Ok (Number z n)) (complement-tells v w x.0 y.0 (omega (arith, u, same))) same
  where
    low : (k x : ℕ) → k < 4 → k ≡ (k + x * 256) % 256
    low k x h = omega (arith, h)

pub number-tells : NumberTells
number-tells p q (Ok Dark) (Ok Dark) a b e = refl
number-tells p q (Ok Dark) (Ok (Number w d)) a b e = absurd (omega (arith, e))
number-tells p q (Ok Dark) (Err BadLength) a b e = absurd (omega (arith, e))
number-tells p q (Ok Dark) (Err BadNibble) a b e = absurd (omega (arith, e))
number-tells p q (Ok Dark) (Err (Unreadable k)) a b e = absurd (let h = unreadable-under q k b in omega (arith, e, h))
number-tells p q (Ok (Number v c)) (Ok Dark) a b e = absurd (omega (arith, e))
number-tells p q (Ok (Number v c)) (Ok (Number w d)) a b e = number_same p q v w c d a b e
number-tells p q (Ok (Number v c)) (Err BadLength) a b e = absurd (omega (arith, e))
number-tells p q (Ok (Number v c)) (Err BadNibble) a b e = absurd (omega (arith, e))
number-tells p q (Ok (Number v c)) (Err (Unreadable k)) a b e = absurd (let h = unreadable-under q k b in omega (arith, e, h))
number-tells p q (Err BadLength) (Ok Dark) a b e = absurd (omega (arith, e))
number-tells p q (Err BadLength) (Ok (Number w d)) a b e = absurd (omega (arith, e))
number-tells p q (Err BadLength) (Err BadLength) a b e = refl
number-tells p q (Err BadLength) (Err BadNibble) a b e = absurd (omega (arith, e))
number-tells p q (Err BadLength) (Err (Unreadable k)) a b e = absurd (omega (arith, e))
number-tells p q (Err BadNibble) (Ok Dark) a b e = absurd (omega (arith, e))
number-tells p q (Err BadNibble) (Ok (Number w d)) a b e = absurd (omega (arith, e))
number-tells p q (Err BadNibble) (Err BadLength) a b e = absurd (omega (arith, e))
number-tells p q (Err BadNibble) (Err BadNibble) a b e = refl
number-tells p q (Err BadNibble) (Err (Unreadable k)) a b e = absurd (omega (arith, e))
number-tells p q (Err (Unreadable j)) (Ok Dark) a b e = absurd (let h = unreadable-under p j a in omega (arith, e, h))
number-tells p q (Err (Unreadable j)) (Ok (Number w d)) a b e = absurd (let h = unreadable-under p j a in omega (arith, e, h))
number-tells p q (Err (Unreadable j)) (Err BadLength) a b e = absurd (omega (arith, e))
number-tells p q (Err (Unreadable j)) (Err BadNibble) a b e = absurd (omega (arith, e))
number-tells p q (Err (Unreadable j)) (Err (Unreadable k)) a b e = ap {B = Seen} (λ (k : ℕ). Err (Unreadable k)) (omega (arith, e))

-- 5 is no picture's number
not-5 : (x : Seen) → seen_number x ≡ 5 → ⊥
not-5 (Ok Dark) e = omega (arith, e)
not-5 (Ok (Number v c)) e = omega (arith, e)
not-5 (Err BadLength) e = omega (arith, e)
not-5 (Err BadNibble) e = omega (arith, e)
not-5 (Err (Unreadable k)) e = omega (arith, e)

-- a refused machine's number is 5
refused-5 : (m : Machine) (r : Refusal) → Sees m (Err r) → 5 ≡ number_of r
unfolding picture_of
refused-5 m r a = sym (ap (λ (b : Bool). (pick b (pictured (on_glass m) 0) (pictured (replicate 8 0) 5)).refusal) a.0) ∙ a.1

pub sight-tells : SightTells
sight-tells m n (Ok x) (Ok y) a b e = ap {B = Sight} Ok (number-tells (on_glass m) (on_glass n) x y a.1 b.1 e)
sight-tells m n (Ok x) (Err q) a b e = absurd (not-5 x (e ∙ sym (refused-5 n q b)))
sight-tells m n (Err r) (Ok y) a b e = absurd (not-5 y (sym (refused-5 m r a ∙ e)))
sight-tells m n (Err r) (Err q) a b e = ap {B = Sight} Err (same_number r q e)

-- What a report shows from its byte 16 on is the picture, and no report is a blank one.
use Rattle.std.proofs.Common.{ℕ, ◌≡◌, Bool, true, false, List, [], ◌∷◌, get_or, replicate, refl, sym, ap, subst, ◌∙◌, arith, Ok, Err}
use Rattle.isa.specs.Choice.{pick}
use Rattle.cpu.specs.Range.{valid}
use Rattle.refusals.specs.Numbers.{number_of}
use Rattle.refusals.specs.declared.Refusal.{Refusal}
use Rattle.refusals.proofs.Numbers.{not_zero}
use Rattle.glass.specs.Reading.{Seen, SeenAnswers}
use Rattle.machine.specs.Machine.{state_of}
use Rattle.machine.specs.Report.{Reporting, reporting, reported, report}
use Rattle.machine.specs.declared.Machine.{Machine}
use Rattle.machine_glass.specs.Glass.{Pictured, on_glass, pictured, answered, picture_of, Sees}

-- the picture in a report
abbrev pub within : Reporting → Pictured
within x =
    pictured
    (get_or x.bytes 16 0 ∷ get_or x.bytes 17 0 ∷ get_or x.bytes 18 0 ∷ get_or x.bytes 19 0 ∷ get_or x.bytes 20 0 ∷ get_or x.bytes 21 0 ∷ get_or x.bytes 22 0 ∷ get_or x.bytes 23 0 ∷ [])
    x.refusal

pub taken : (m : Machine) (x : Reporting) → x ≡ report m (replicate 48 0) → within x ≡ picture_of m
unfolding report picture_of
taken m x e = ap within e ∙ go (valid (state_of m))
  where
    go : (b : Bool) → within (pick b (reporting 0 (reported m)) (reporting 5 (replicate 48 0))) ≡ pick b (pictured (on_glass m) 0) (pictured (replicate 8 0) 5)
    go true = refl
    go false = refl

pub blank : (m : Machine) (r : Refusal) → number_of r ≡ (picture_of m).refusal → answered (Err r) ≡ picture_of m
unfolding picture_of
blank m r e = go (valid (state_of m)) e
  where
    go : (b : Bool) → number_of r ≡ (pick b (pictured (on_glass m) 0) (pictured (replicate 8 0) 5)).refusal → answered (Err r) ≡ pick b (pictured (on_glass m) 0) (pictured (replicate 8 0) 5)
    go true k = absurd (not_zero r k)
    go false k = ap (pictured (replicate 8 0)) k

-- a machine that has no picture is out of range
pub refused : (m : Machine) (r : Refusal) → answered (Err r) ≡ picture_of m → Sees m (Err r)
unfolding picture_of
refused m r e = go (valid (state_of m)) refl
  where
    p : Bool → Pictured
    p b = pick b (pictured (on_glass m) 0) (pictured (replicate 8 0) 5)

    go : (b : Bool) → valid (state_of m) ≡ b → (valid (state_of m) ≡ false) × ((p (valid (state_of m))).refusal ≡ number_of r)
    go true k = absurd (not_zero r (ap (λ (x : Pictured). x.refusal) e ∙ ap (λ (b : Bool). (p b).refusal) k))
    go false k = (k, ap (λ (x : Pictured). x.refusal) (sym e))

-- one that has is in range
pub seen : (m : Machine) (s : List ℕ) (x : Seen) → answered (Ok s) ≡ picture_of m → SeenAnswers s x → Sees m (Ok x)
unfolding picture_of
seen m s x e a = go (valid (state_of m)) refl
  where
    p : Bool → Pictured
    p b = pick b (pictured (on_glass m) 0) (pictured (replicate 8 0) 5)

    go : (b : Bool) → valid (state_of m) ≡ b → (valid (state_of m) ≡ true) × SeenAnswers (on_glass m) x
    go true k = (k, subst (λ (n : List ℕ). SeenAnswers n x) (ap (λ (y : Pictured). y.nibbles) e ∙ ap (λ (b : Bool). (p b).nibbles) k) a)
    go false k = absurd (let z = ap (λ (y : Pictured). y.refusal) e ∙ ap (λ (b : Bool). (p b).refusal) k in omega (arith, z))

-- What the marks and the walk's number make of the answer for a pair; and that the answers exclude each other. Assumes nothing.
use Prim.Native.Nat.{ℕ, ◌<◌}
use native.Mathlib.Omega.{arith}
use mathlib.Core.Path.{◌≡◌, refl, sym, ap, subst, ◌∙◌}
use mathlib.Core.Bool.{Bool, true, false, false≢true}
use mathlib.Core.List.{List}
use lib.Dec.{eqb}
use borrow.Author.Tests.{eqb-true, eqb-false, ne_eqb}
use Rattle.isa.specs.Choice.{pick}
use Rattle.isa.specs.Code.{addresses}
use Rattle.rom.specs.Fetching.{Bytes, sized}
use Rattle.checker.specs.Marks.{levels, Pair, pair}
use Rattle.checker.specs.Verdicts.{Marked, Safe, is_marked}
use Rattle.std.specs.Prelude.{Ok, Err}
use Rattle.refusals.specs.Numbers.{number_of}
use Rattle.refusals.specs.declared.Refusal.{Refusal}
use Rattle.refusals.specs.declared.Refusal.TheVariants as R
use Rattle.bound.specs.Paths.{Longest}
use Rattle.bound.specs.Bounds.{Asked, InRange, ReachedAbove, BoundSays, BoundAnswers, BoundDetermines}
use Rattle.bound.specs.Lists.{bound_at}
use Rattle.bound.specs.Lists.{bound_of, endless}
use Rattle.bound.specs.Walk.{ToldOf}
use Rattle.bound.specs.declared.bound.Bound.TheVariants.{NotReached, NoBound, Cycles}
use Rattle.bound.specs.declared.bound.Bound.{Bound}
use Rattle.bound.proofs.Levels.{told-unbounded, told-bounded, bounded-some}

-- a pair in range of a mask that passes
module _ (mask new : List ℕ) (a l : ℕ) (size : sized mask ≡ true) (h : a < addresses) (k : l < levels) (marks : Marked mask new) (safe : Safe mask) where
  in_order : Asked mask (pair a l)
  in_order = record { mask_size = size; in-range = (h, k); passed = safe }

  pub main : l ≡ 0 → BoundAnswers mask (pair a l) (Ok NotReached)
  main e = (in_order, λ r. let z = r.0 in omega arith)

  pub unmarked : is_marked new a l ≡ false → BoundAnswers mask (pair a l) (Ok NotReached)
  unmarked e = (in_order, λ r. false≢true (sym e ∙ marks.full a l h k r.1))

  pub marked : (l ≡ 0 → ⊥) → is_marked new a l ≡ true → (n : ℕ) → ToldOf mask a n → BoundAnswers mask (pair a l) (Ok (bound_of n))
  marked z e n t = go (eqb n endless) (eqb-true n endless) (eqb-false n endless)
    where
      above : 0 < l
      above = omega (arith, z)

      held : ReachedAbove mask (pair a l)
      held = (above, marks.sound a l h k e)

      go : (b : Bool) → (b ≡ true → n ≡ endless) → (b ≡ false → n ≡ endless → ⊥) → BoundAnswers mask (pair a l) (Ok (pick b NoBound (Cycles n)))
      go true f g = (in_order, held, told-unbounded mask l above safe a n t (f refl))
      go false f g = (in_order, held, told-bounded mask l above safe a n held.1 t (g refl))

  -- its entry in a list
  pub listed : Bytes mask → 0 < l → (n : ℕ) → ToldOf mask a n → BoundAnswers mask (pair a l) (Ok (bound_at (pick (is_marked new a l) n 0)))
  listed bytes z n t = go (is_marked new a l) refl
    where
      some : BoundAnswers mask (pair a l) (Ok (bound_of n)) → n ≡ 0 → ⊥
      some b e =
          let c = subst (λ (n : ℕ). BoundAnswers mask (pair a l) (Ok (bound_of n))) e b in
          let y = bounded-some mask bytes (pair a l) 0 c.2 in
          omega arith

      go : (b : Bool) → is_marked new a l ≡ b → BoundAnswers mask (pair a l) (Ok (bound_at (pick b n 0)))
      go true e =
          let b = marked (λ y. omega arith) e n t in rw (ne_eqb n 0 (some b)) b
      go false e = unmarked e

-- ---- one answer
same-longest : {A : Type 0} {next : A → List A} {Ends : A → Type 0} {cost : A → ℕ} {p : A} {n m : ℕ} → Longest next Ends cost p n → Longest next Ends cost p m → n ≡ m
same-longest {n = n} {m = m} x y = let h = y.most n x.met in let k = x.most m y.met in omega arith

-- an answer about a pair of a passed mask excludes each refusal
asked : (mask : List ℕ) (p : Pair) (b : Bound) → BoundAnswers mask p (Ok b) → Asked mask p
asked mask p NotReached x = x.0
asked mask p NoBound x = x.0
asked mask p (Cycles n) x = x.0

-- what a refusal's number says, by the refusal
BoundRefused : List ℕ → Pair → Refusal → Type 0
BoundRefused mask p R.Mask = sized mask ≡ true → ⊥
BoundRefused mask p R.Range = (sized mask ≡ true) × (InRange p → ⊥)
BoundRefused mask p R.Fails = (sized mask ≡ true) × InRange p × (Safe mask → ⊥)
BoundRefused mask p _ = ⊥

said : (mask : List ℕ) (p : Pair) (r : Refusal) → BoundSays mask p (number_of r) → BoundRefused mask p r
unfolding BoundRefused
said mask p R.Mask x = x
said mask p R.Buffer x = x
said mask p R.Value x = x
said mask p R.Choice x = x
said mask p R.Range x = x
said mask p R.Format x = x
said mask p R.Kind x = x
said mask p R.Start x = x
said mask p R.Room x = x
said mask p R.Passes x = x
said mask p R.List x = x
said mask p R.Line x = x
said mask p R.Operand x = x
said mask p R.Label x = x
said mask p R.Fails x = x
said mask p R.Glass x = x

not_asked : (mask : List ℕ) (p : Pair) (r : Refusal) → BoundRefused mask p r → Asked mask p → ⊥
unfolding BoundRefused
not_asked mask p R.Mask y x = y x.mask_size
not_asked mask p R.Range y x = y.1 x.in-range
not_asked mask p R.Fails y x = y.2 x.passed
not_asked mask p _ y x = y

-- and one refusal each other one
same-refusal : (mask : List ℕ) (p : Pair) (r q : Refusal) → BoundRefused mask p r → BoundRefused mask p q → r ≡ q
unfolding BoundRefused
same-refusal mask p R.Mask R.Mask x y = refl
same-refusal mask p R.Mask R.Range x y = absurd (x y.0)
same-refusal mask p R.Mask R.Fails x y = absurd (x y.0)
same-refusal mask p R.Range R.Mask x y = absurd (y x.0)
same-refusal mask p R.Range R.Range x y = refl
same-refusal mask p R.Range R.Fails x y = absurd (x.1 y.1)
same-refusal mask p R.Fails R.Mask x y = absurd (y x.0)
same-refusal mask p R.Fails R.Range x y = absurd (y.1 x.1)
same-refusal mask p R.Fails R.Fails x y = refl
same-refusal mask p R.Mask _ x y = absurd y
same-refusal mask p R.Range _ x y = absurd y
same-refusal mask p R.Fails _ x y = absurd y
same-refusal mask p _ q x y = absurd x

same-bound : (mask : List ℕ) (p : Pair) (b c : Bound) → BoundAnswers mask p (Ok b) → BoundAnswers mask p (Ok c) → b ≡ c
same-bound mask p NotReached NotReached x y = refl
same-bound mask p NotReached NoBound x y = absurd (x.1 y.1)
same-bound mask p NotReached (Cycles m) x y = absurd (x.1 y.1)
same-bound mask p NoBound NotReached x y = absurd (y.1 x.1)
same-bound mask p NoBound NoBound x y = refl
same-bound mask p NoBound (Cycles m) x y = absurd (y.2.ends x.2)
same-bound mask p (Cycles n) NotReached x y = absurd (y.1 x.1)
same-bound mask p (Cycles n) NoBound x y = absurd (x.2.ends y.2)
same-bound mask p (Cycles n) (Cycles m) x y = ap Cycles (same-longest x.2.longest y.2.longest)

pub bound-determines : BoundDetermines
bound-determines mask p (Ok b) (Ok c) x y = ap Ok (same-bound mask p b c x y)
bound-determines mask p (Ok b) (Err r) x y = absurd (not_asked mask p r (said mask p r y) (asked mask p b x))
bound-determines mask p (Err r) (Ok b) x y = absurd (not_asked mask p r (said mask p r x) (asked mask p b y))
bound-determines mask p (Err r) (Err q) x y = ap Err (same-refusal mask p r q (said mask p r x) (said mask p q y))

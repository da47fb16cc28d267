-- `glass::figure::fewest` meets its contract.
use Rattle.std.proofs.Common.{ℕ, suc, ◌≡◌, ◌+◌, ◌-◌, ◌<◌, Bool, true, false, cond, refl, sym, ap, ◌∙◌, arith, add-one}
use Rattle.glass.specs.Drawing.{enough, first_enough}
use Rattle.glass.proofs.figure.fewest.Goals as goal

-- one more to try
more : (s p n : ℕ) (t : Bool) → n < 5 → enough s p n ≡ t → first_enough s p (5 - n) n ≡ cond t n (first_enough s p (5 - (n + 1)) (n + 1))
more s p n t h e =
    let k : 5 - n ≡ suc (5 - (n + 1)) = omega arith in
    ap (λ (x : ℕ). first_enough s p x n) k
    ∙ ap (λ (x : ℕ). cond (enough s p n) n (first_enough s p (5 - (n + 1)) x)) (sym (add-one n))
    ∙ ap (λ (b : Bool). cond b n (first_enough s p (5 - (n + 1)) (n + 1))) e

pub loop-n-init : goal.loop-n-init
loop-n-init c = refl

pub returns-then-enough : goal.returns-then-enough
returns-then-enough c =
    sym (c.loop-n.invariant ∙ more c.args.size c.args.places c.loop-n.n true c.loop-n-test.true (sym c.enough.ensures ∙ c.if-enough.true))

pub loop-n-preserved : goal.loop-n-preserved
loop-n-preserved c = c.loop-n.invariant ∙ more c.args.size c.args.places c.loop-n.n false c.loop-n-test.true (sym c.enough.ensures ∙ c.if-enough.false)

pub returns : goal.returns
returns c = let e : c.loop-n.n ≡ 5 = omega arith in
    sym (c.loop-n.invariant ∙ ap (λ (n : ℕ). first_enough c.args.size c.args.places (5 - n) n) e)

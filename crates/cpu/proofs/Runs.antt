-- The laws of Run: a state that a step does not change is where Run ends, and n steps are one and then the rest. Assumes nothing.
use Rattle.std.proofs.Common.{◌≡◌, ℕ, zero, suc, ◌+◌, ◌-◌, ◌<◌, List, refl, ap, ◌∙◌, subst, suc-add, zero-add, arith}
use Rattle.cpu.specs.State.{State}
use Rattle.cpu.specs.Step.{step}
use Rattle.cpu.specs.Run.{ran}

-- a stopped state stays
pub ran-stopped : (mask : List ℕ) (n : ℕ) (s : State) → s ≡ step mask s → s ≡ ran mask n s
unfolding ran
ran-stopped mask zero s e = refl
ran-stopped mask (suc n) s e = ran-stopped mask n s e ∙ ap (ran mask n) e

-- one step of those left
pub ran-next : (mask : List ℕ) (n : ℕ) (s : State) → 0 < n → ran mask (n - 1) (step mask s) ≡ ran mask n s
unfolding ran
ran-next mask n s h = subst (λ (k : ℕ). ran mask (n - 1) (step mask s) ≡ ran mask k s) (back n h) (first mask (n - 1) s)
  where
    back : (n : ℕ) → 0 < n → suc (n - 1) ≡ n
    back n h = omega arith

    first : (mask : List ℕ) (n : ℕ) (s : State) → ran mask n (step mask s) ≡ ran mask (suc n) s
    first mask n s = refl

-- run (m + n) is run m, then run n
pub ran-add : (mask : List ℕ) (m n : ℕ) (s : State) → ran mask (m + n) s ≡ ran mask n (ran mask m s)
unfolding ran
ran-add mask zero n s = ap (λ (k : ℕ). ran mask k s) (zero-add n)
ran-add mask (suc m) n s = ap (λ (k : ℕ). ran mask k s) (suc-add m n) ∙ ran-add mask m n (step mask s)

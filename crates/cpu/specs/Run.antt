-- Document 01: "Run: two-byte step count. Ends early when halted or faulted". A step when halted or faulted changes nothing, so to
-- end early is to take all the steps. Assumes nothing.
use Rattle.std.specs.Prelude.{ℕ, zero, suc, List}
use Rattle.cpu.specs.State.{State}
use Rattle.cpu.specs.Step.{step}

-- the state after n steps
unfoldable pub ran : List ℕ → ℕ → State → State
ran mask zero s = s
ran mask (suc n) s = ran mask n (step mask s)

-- what n steps yield together: each what f says of the state that it finds, the first step's before the rest's
unfoldable pub yielded : {A : Type 0} → A → (A → A → A) → (State → A) → List ℕ → ℕ → State → A
yielded nothing join f mask zero s = nothing
yielded nothing join f mask (suc n) s = join (f s) (yielded nothing join f mask n (step mask s))

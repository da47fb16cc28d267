-- `cpu::Cpu::run` meets its contract. The loop's invariant: the steps left, from the present state and count, end where all the steps
-- from the first state and count end. Assumes nothing.
use Rattle.std.proofs.Common.{◌≡◌, ℕ, zero, suc, ◌+◌, ◌-◌, ◌<◌, ◌≤◌, true, List, refl, ap, ◌∙◌, ap₂, subst, arith}
use Rattle.datapath.specs.Memory.{tallied}
use Rattle.cpu.specs.State.{State, state}
use Rattle.cpu.specs.Step.{step, stopped}
use Rattle.cpu.specs.Gap.{strays_by, strays_in}
use Rattle.cpu.specs.Run.{ran, yielded}
use Rattle.cpu.proofs.Steps.{stops, stopped-halted, stopped-faulted}
use Rattle.cpu.proofs.Runs.{ran-stopped, ran-next}
use Rattle.cpu.proofs.Strays.{still-counts-none, stopped-counts-none, next-counts}
use Rattle.cpu.proofs.Cpu.run.Goals as goal

-- where n steps end, and what they count
abbrev Ends : List ℕ → ℕ → State → ℕ → State → ℕ → Type 0
Ends mask n s k t l = (t ≡ ran mask n s) × (l ≡ tallied k (strays_in mask n s))

none : (mask : List ℕ) (n : ℕ) (s : State) (k : ℕ) → n ≤ 0 → Ends mask n s k s k
unfolding ran yielded tallied
none mask zero s k h = (refl, refl)
none mask (suc n) s k h = absurd (omega arith)

stop : (mask : List ℕ) (n : ℕ) (s : State) (k : ℕ) → stopped s ≡ true → Ends mask n s k s k
stop mask n s k e = let stays = stops mask s e in (ran-stopped mask n s stays, stopped-counts-none mask s k n stays (still-counts-none mask s k e))

-- one step of those left: from s and k to t and l
rest : (mask : List ℕ) (n m : ℕ) (s t : State) (k l : ℕ) → 0 < n → n - 1 ≡ m → (t ≡ step mask s) × (l ≡ tallied k (strays_by mask s))
    → (ran mask m t ≡ ran mask n s) × (tallied l (strays_in mask m t) ≡ tallied k (strays_in mask n s))
rest mask n m s t k l h p e =
    subst (λ (m : ℕ). (ran mask m t ≡ ran mask n s) × (tallied l (strays_in mask m t) ≡ tallied k (strays_in mask n s))) p
    (ap (ran mask (n - 1)) e.0 ∙ ran-next mask n s h, ap₂ (λ (m : ℕ) (x : State). tallied m (strays_in mask (n - 1) x)) e.1 e.0 ∙ next-counts mask s k n h)

pub returns-then-self-ne0 : goal.returns-then-self-ne0
returns-then-self-ne0 c =
    let e = stop c.args.mask.now c.args.steps (state c.args.self c.args.memory.now) c.args.gap.now (stopped-halted c.args.self c.if-self-ne0.true) in
    record { memory_after = e.0; gap_after = e.1 }

pub returns-then-self-ne0-2 : goal.returns-then-self-ne0-2
returns-then-self-ne0-2 c =
    let e = stop c.args.mask.now c.args.steps (state c.args.self c.args.memory.now) c.args.gap.now (stopped-faulted c.args.self c.if-self-ne0.false c.if-self-ne0-2.true) in
    record { memory_after = e.0; gap_after = e.1 }

pub loop-init : goal.loop-init
loop-init c =
    let all : c.args.steps - 0 ≡ c.args.steps = omega arith in (
      ap (λ (n : ℕ). ran c.args.mask.now n (state c.args.self c.args.memory.now)) all,
      ap (λ (n : ℕ). tallied c.args.gap.now (strays_in c.args.mask.now n (state c.args.self c.args.memory.now))) all,
      c.if-self-ne0.false,
      c.if-self-ne0-2.false,
    )

pub go_on-current-requires : goal.go_on-current-requires
go_on-current-requires c = (c.loop.invariant.2, c.loop.invariant.3)

pub loop-preserved : goal.loop-preserved
loop-preserved c =
    let went = c.go_on-current in
    let onwards = rest c.args.mask.now (c.args.steps - c.loop.counter) (c.args.steps - (c.loop.counter + 1)) (state c.loop.current c.loop.memory) (state went.result went.new.memory) c.loop.gap went.new.gap
    (omega arith) (omega arith) (went.ensures.memory_after, went.ensures.gap_after) in
    (onwards.0 ∙ c.loop.invariant.0, onwards.1 ∙ c.loop.invariant.1, c.if-current-ne0.false, c.if-current-ne0-2.false)

-- halted by a step
pub returns-then-current-ne0 : goal.returns-then-current-ne0
returns-then-current-ne0 c =
    let mask = c.args.mask.now in
    let went = c.go_on-current in
    let now = state went.result went.new.memory in
    let left = c.args.steps - (c.loop.counter + 1) in
    let onwards = rest mask (c.args.steps - c.loop.counter) left (state c.loop.current c.loop.memory) now c.loop.gap went.new.gap
    (omega arith) (omega arith) (went.ensures.memory_after, went.ensures.gap_after) in
    let e = stop mask left now went.new.gap (stopped-halted went.result c.if-current-ne0.true) in
    record { memory_after = e.0 ∙ onwards.0 ∙ c.loop.invariant.0; gap_after = e.1 ∙ onwards.1 ∙ c.loop.invariant.1 }

-- a fault of a step
pub returns-then-current-ne0-2 : goal.returns-then-current-ne0-2
returns-then-current-ne0-2 c =
    let mask = c.args.mask.now in
    let went = c.go_on-current in
    let now = state went.result went.new.memory in
    let left = c.args.steps - (c.loop.counter + 1) in
    let onwards = rest mask (c.args.steps - c.loop.counter) left (state c.loop.current c.loop.memory) now c.loop.gap went.new.gap
    (omega arith) (omega arith) (went.ensures.memory_after, went.ensures.gap_after) in
    let e = stop mask left now went.new.gap (stopped-faulted went.result c.if-current-ne0.false c.if-current-ne0-2.true) in
    record { memory_after = e.0 ∙ onwards.0 ∙ c.loop.invariant.0; gap_after = e.1 ∙ onwards.1 ∙ c.loop.invariant.1 }

pub returns : goal.returns
returns c =
    let e = none c.args.mask.now (c.args.steps - c.loop.counter) (state c.loop.current c.loop.memory) c.loop.gap (omega arith) in
    record { memory_after = e.0 ∙ c.loop.invariant.0; gap_after = e.1 ∙ c.loop.invariant.1 }

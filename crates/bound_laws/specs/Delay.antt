-- Document 02, wish 5, of the engine: "For every list of events without RES or power-on, applied under that mask to a machine at a bounded pair, not
-- halted or faulted: once its steps have spent that many cycles, it has come to level 0". One claim over whole lists. It speaks of what the exported
-- functions promise: `bound_of` promises `BoundAnswers`, `bounds_of` `BoundsAnswer`, and the machine's functions `answer_to` of each input, which `after`
-- puts together. Assumes nothing.
use Rattle.std.specs.Prelude.{ℕ, ◌+◌, ◌%◌, ◌^◌, ◌<◌, ◌≤◌, ◌≡◌, List, [], ◌∷◌, eqb, get_or, Some, Ok}
use Rattle.isa.specs.Choice.{pick}
use Rattle.rom.specs.Fetching.{Bytes, cycles_at}
use Rattle.cpu.specs.State.{State}
use Rattle.cpu.specs.Step.{executed, vector_of, stopped, step}
use Rattle.cpu.specs.Run.{yielded}
use Rattle.cpu.specs.declared.Cpu.{Cpu}
use Rattle.cpu.specs.declared.Options.{Options}
use Rattle.machine.specs.Machine.{state_of}
use Rattle.machine.specs.Events.{power, named, answer_to, Call, steps_of, after, Every, UnderMask}
use Rattle.machine.specs.declared.Machine.{Machine}
use Rattle.machine.specs.declared.events.Event.TheVariants.{Run, Res}
use Rattle.checker.specs.Marks.{pair}
use Rattle.bound.specs.Bounds.{BoundAnswers, ReachedAbove}
use Rattle.bound.specs.Lists.{endless, BoundsAnswer, Largest}
use Rattle.bound.specs.declared.bound.Bound.TheVariants.{Cycles}

-- ---- "its steps have spent that many cycles": a count of their own, not the 32-bit one, which goes on past its largest value to zero
-- one step: "A step when halted or faulted changes nothing"; where an interrupt is taken, "2 cycles"; else the instruction's, by document 01's list,
-- but none where it faults, since "A fault leaves the machine as before that instruction"
unfoldable pub spent_by : List ℕ → State → ℕ
spent_by mask s =
    pick (stopped s) 0
    (pick (eqb (vector_of s.cpu) 0)
    (pick (eqb (executed mask s).cpu.status.fault 0) (cycles_at mask s.cpu.control.pc.0) 0)
    2)

-- n steps
abbrev pub spent_in : List ℕ → ℕ → State → ℕ
spent_in mask n s = yielded 0 ◌+◌ (spent_by mask) mask n s

-- a list of inputs, each on the machine that the one before answered; a refused one takes no steps
unfoldable pub spent : List Call → Machine → ℕ
spent [] m = 0
spent (k ∷ ks) m =
    let answer = answer_to k.mask k.input m in
    pick (eqb answer.refusal 0) (spent_in k.mask (steps_of k.input) (state_of m)) 0 + spent ks answer.machine

-- ---- "it has come to level 0"
-- "events without RES or power-on"
abbrev pub NoRestart : Call → Type 0
NoRestart k = ((options : Options) (image : List ℕ) → k.input ≡ power options image → ⊥) × (k.input ≡ named (Some Res) → ⊥)

abbrev pub run : List ℕ → ℕ → Call
run mask n = record { mask = mask; input = named (Some (Run n)) }

-- a list of inputs as far as some step: that step's Run ends with it, and what comes after is left out
pub data UpTo : List Call → List Call → Type 0 where
  this : {mask : List ℕ} {i n : ℕ} {ks : List Call} → 0 < i → i ≤ n → UpTo (run mask n ∷ ks) (run mask i ∷ [])
  later : {k : Call} {ks js : List Call} → UpTo ks js → UpTo (k ∷ ks) (k ∷ js)

-- "a held edge is taken (PC 8, held edge cleared) ..; the old PC and CF go to the stack, level 2, 2 cycles"
pub record Taken (old new : Cpu) : Type 0 where
  pub vector : new.control.pc.0 ≡ 8
  pub cleared : new.interrupts.held ≡ 0
  pub stacked : new.stack ≡ record { address = old.control.pc; carry = old.control.cf }
  pub level : new.interrupts.level ≡ 2
  pub cycles : new.cycles ≡ (old.cycles + 2) % 2 ^ 32

-- after some step of the list the machine is in level 0 and goes on, and no more than n cycles are spent by then. An edge held from the start is held
-- still; an edge held there is taken by the next step if interrupts are enabled: n cycles at most before it, and that step's own 2 after them
pub record Came (mask : List ℕ) (n : ℕ) (calls : List Call) (m : Machine) : Type 0 where
  pub until : List Call
  pub far : UpTo calls until
  pub soon : spent until m ≤ n
  pub main : (after until m).cpu.interrupts.level ≡ 0
  pub awake : (after until m).cpu.status.halted ≡ 0
  pub no-fault : (after until m).cpu.status.fault ≡ 0
  pub held : m.cpu.interrupts.held ≡ 1 → (after until m).cpu.interrupts.held ≡ 1
  pub taken : (after until m).cpu.interrupts.enabled ≡ 1 → (after until m).cpu.interrupts.held ≡ 1
      → Taken (after until m).cpu (step mask (state_of (after until m))).cpu

-- the whole claim. The events are in any order and number, refused ones too. Of the machine nothing else is asked: its stack, flags and memory are
-- any. One out of range refuses every Run and spends nothing, less than any bound
abbrev pub DelayBounded : Type 0
DelayBounded =
    (mask : List ℕ) → Bytes mask
    → (n : ℕ) (m : Machine) → BoundAnswers mask (pair m.cpu.control.pc.0 m.cpu.interrupts.level) (Ok (Cycles n))
    → m.cpu.status.halted ≡ 0 → m.cpu.status.fault ≡ 0
    → (calls : List Call) → Every (UnderMask mask) calls → Every NoRestart calls
    → n ≤ spent calls m → Came mask n calls m

-- wherever above main an edge finds the program: the largest entry of the list of all bounds, where it is a bound, does for every pair that the mask may
-- run. The entries have 16 bits
abbrev pub LongestWait : Type 0
LongestWait =
    (mask old list : List ℕ) → Bytes mask → BoundsAnswer mask old list (Ok tt) → ((k : ℕ) → get_or list k 0 < 2 ^ 16)
    → (place : ℕ) → Largest list place → (get_or list place 0 ≡ endless → ⊥)
    → (m : Machine) → ReachedAbove mask (pair m.cpu.control.pc.0 m.cpu.interrupts.level)
    → m.cpu.status.halted ≡ 0 → m.cpu.status.fault ≡ 0
    → (calls : List Call) → Every NoRestart calls → Every (UnderMask mask) calls
    → get_or list place 0 ≤ spent calls m → Came mask (get_or list place 0) calls m

-- ---- the count is the machine's cycle count, without the wrap: "The cycle count has 32 bits and goes on past its largest value to zero"
pub record SpentCounts : Type 0 where
  pub step_counts : (mask : List ℕ) (s : State) → s.cpu.cycles < 2 ^ 32
      → (step mask s).cpu.cycles ≡ (s.cpu.cycles + spent_by mask s) % 2 ^ 32
  pub list_counts : (calls : List Call) (m : Machine) → Every NoRestart calls → m.cpu.cycles < 2 ^ 32
      → (after calls m).cpu.cycles ≡ (m.cpu.cycles + spent calls m) % 2 ^ 32

-- Document 02, wish 1, as claims about the rule: what kind 5 makes of a machine that sleeps, and what happens after a wake. The rule itself is
-- `counting` (Events). Assumes nothing.
use Rattle.std.specs.Prelude.{ℕ, ◌+◌, ◌<◌, ◌≡◌, List}
use Rattle.rom.specs.Fetching.{byte_at}
use Rattle.datapath.specs.Timer.{counted}
use Rattle.cpu.specs.State.{State, state, with_tf, with_count, with_halted}
use Rattle.cpu.specs.Step.{timed, step}
use Rattle.cpu.specs.declared.Cpu.{Cpu}
use Rattle.machine.specs.Events.{interrupted, counting}

-- halted, its timer running on the external clock
pub record Sleeps (c : Cpu) : Type 0 where
  pub halted : c.status.halted ≡ 1
  pub external : c.options.rate ≡ 255
  pub running : c.timer.running ≡ 1

-- n pulses set TF where interrupts are enabled in main, and INT can fall
pub record Overflows (n : ℕ) (c : Cpu) : Type 0 where
  pub sleeps : Sleeps c
  pub passes : 255 < c.timer.count + n
  pub main : c.interrupts.level ≡ 0
  pub enabled : c.interrupts.enabled ≡ 1
  pub int-high : c.pins.int ≡ 1
  pub no-fault : c.status.fault ≡ 0

-- the first step after n pulses and a falling INT edge
abbrev pub first_step : List ℕ → List ℕ → ℕ → Cpu → State
first_step mask memory n c = step mask (state (interrupted 0 (counting n c)) memory)

pub record PulsesAsleep : Type 0 where
  -- "kind 5 moves a running, externally clocked timer when halted too"
  pub moves : (n : ℕ) (c : Cpu) → Sleeps c → counting n c ≡ timed (counted c.timer.count n) c
  -- "TF by the same rule": pulses do not look at whether the machine is halted
  pub as-awake : (n h : ℕ) (c : Cpu) → counting n (with_halted h c) ≡ with_halted h (counting n c)
  -- "It still wakes nothing": whatever the machine, no field but the timer's count and TF changes, so that no edge is held either
  pub wakes-nothing : (n : ℕ) (c : Cpu) → with_count 0 (with_tf 0 (counting n c)) ≡ with_count 0 (with_tf 0 c)
  -- document 01, "a held edge is taken (PC 8 ..), or else TF (PC 4 ..)", after a wake by INT: the edge first
  pub edge-first : (mask memory : List ℕ) (n : ℕ) (c : Cpu) → Overflows n c → (first_step mask memory n c).cpu.control.pc.0 ≡ 8
  -- then TF: with RETI (2Fh) at 8, the third step
  pub then-flag : (mask memory : List ℕ) (n : ℕ) (c : Cpu) → Overflows n c → byte_at mask 8 ≡ 0x2f
      → (step mask (step mask (first_step mask memory n c))).cpu.control.pc.0 ≡ 4

-- Document 02, wish 5, for a host that links both libraries and lends one machine record. `ht1130_bound` of ht1130_tools promises `BoundTold .. r`, and 2 in
-- byte 1 says that bytes 4 to 7 are a bound; the calls on the record are those of ht1130, a `Lending`. Assumes nothing.
use Rattle.std.specs.Prelude.{ℕ, ◌+◌, ◌*◌, ◌^◌, ◌≤◌, ◌≡◌, List}
use Rattle.rom.specs.Fetching.{Bytes}
use Rattle.machine.specs.Events.{Call, after, Every, UnderMask}
use Rattle.machine.specs.declared.Machine.{Machine}
use Rattle.checker.specs.Marks.{pair}
use Rattle.bound_laws.specs.Delay.{spent, NoRestart, Came}
use Rattle.ht1130.specs.Property2.{Lending}
use Rattle.ht1130_tools.specs.Numbers.{BoundTold}

pub record LentDelay : Type 0 where
  -- under a mask and from a record for whose PC and level `ht1130_bound` answered n cycles
  pub delay : (mask : List ℕ) → Bytes mask
      → (n : ℕ) (m : Machine) → BoundTold mask (pair m.cpu.control.pc.0 m.cpu.interrupts.level) (2 * 2 ^ 8 + n * 2 ^ 32)
      → m.cpu.status.halted ≡ 0 → m.cpu.status.fault ≡ 0
      → (calls : List Call) → Every (UnderMask mask) calls → Every NoRestart calls
      → n ≤ spent calls m → Came mask n calls m
  -- what `Came` says of the machine after some of the calls holds of the record that they leave
  pub lent : (m last : Machine) (calls : List Call) → Lending m calls last → last ≡ after calls m

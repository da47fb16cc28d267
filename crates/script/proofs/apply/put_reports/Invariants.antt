use Rattle.std.specs.Prelude.{ℕ, ◌≡◌}
use Rattle.cpu.specs.State.{state}
use Rattle.machine.specs.Machine.{machine_of, trace_of}
use Rattle.records.specs.Places.{places, places_left}
use Rattle.script.proofs.Turn.{Held}
use Rattle.script.proofs.apply.put_reports.Given as goal

abbrev pub invariant-loop-raw : goal.invariant-loop-raw
invariant-loop-raw l =
    (at : ℕ) × (places_left l.raw-iterator ≡ places l.script at)
    × Held l.mask l.script l.initial.out l.out at l.done (machine_of (state l.cpu l.memory) (trace_of l.gap))

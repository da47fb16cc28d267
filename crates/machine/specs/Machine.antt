-- The machine's record, as the processor's definitions see it: a state, and beside it the trace, what running leaves behind. Assumes nothing.
use Rattle.std.specs.Prelude.{ℕ, List}
use Rattle.datapath.specs.Memory.{tallied}
use Rattle.cpu.specs.State.{State, state}
use Rattle.cpu.specs.Gap.{strays_in}
use Rattle.machine.specs.declared.Machine.{Machine}
use Rattle.machine.specs.declared.Trace.{Trace}

abbrev pub state_of : Machine → State
state_of m = state m.cpu m.memory

abbrev pub machine_of : State → Trace → Machine
machine_of s t = record { cpu = s.cpu; memory = s.memory; trace = t }

-- a trace by its fields, as they are lent
abbrev pub trace_of : ℕ → Trace
trace_of gap = record { gap = gap }

-- before anything ran
abbrev pub no_trace : Trace
no_trace = trace_of 0

-- what n steps leave behind, after what was there. Document 02, wish 6: "the machine counts such accesses"
abbrev pub traced : List ℕ → ℕ → State → Trace → Trace
traced mask n s t = trace_of (tallied t.gap (strays_in mask n s))

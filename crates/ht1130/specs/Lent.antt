-- The machine that a host lends, and events as numbers. Document 01: "A host may also lend one machine record and have an event applied to
-- it directly". Assumes nothing.
use Rattle.std.specs.Prelude.{ℕ, ◌*◌, ◌^◌, List, Result, Ok, Err}
use Rattle.cpu.specs.declared.Options.{Options}
use Rattle.machine.specs.Events.{event_of, named_answer}
use Rattle.machine.specs.declared.Machine.{Machine}
use Rattle.machine.specs.declared.Answer.{Answer}
use Rattle.refusals.specs.Numbers.{number_of}
use Rattle.refusals.specs.declared.Refusal.{Refusal}

-- what a call on a lent record leaves: the number that it returns, and the record behind the reference, every field
abbrev pub left : ℕ → Machine → Answer
left number m = record { refusal = number; machine = m }

-- "1 power-on: rate, commons, wake PM, PS, PP"
abbrev pub options_of : ℕ → ℕ → ℕ → ℕ → ℕ → Options
options_of rate commons pm ps pp = record { rate = rate; commons = commons; pm = pm; ps = ps; pp = pp }

-- the event that a kind and its numbers name, or the refusal of a kind that names none
abbrev pub hosted : List ℕ → ℕ → ℕ → ℕ → ℕ → ℕ → Machine → Answer
hosted mask kind count a b c m = named_answer mask (event_of kind count a b c) m

-- the answer to the query of the count as a number of eight bytes, which is this interface's own: the refusal in byte 0, the count in bytes 4 and 5
abbrev pub gap_number : Result ℕ Refusal → ℕ
gap_number (Ok count) = count * 2 ^ 32
gap_number (Err refusal) = number_of refusal

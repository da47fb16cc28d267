-- A script's records, over a list of bytes: the inputs that they are, and the payload length of each kind. Where records start and what stands in
-- one is said of all records (records/specs/Records). Assumes nothing.
use Rattle.std.specs.Prelude.{ℕ, ◌+◌, List, [], ◌∷◌, ◌++◌, map, eqb, get_or, replicate, Option, Some, None}
use Rattle.isa.specs.Choice.{pick}
use Rattle.cpu.specs.declared.Options.{Options}
use Rattle.machine.specs.Events.{Input, power, named, event_of}
use Rattle.machine.specs.declared.events.Event.TheVariants.{Run, Pins, Int, Tmclk, Res}
use Rattle.records.specs.Records.{word_at, kind_at, payload_at, offsets, two_bytes}
use Rattle.script.specs.declared.Record.{Record}
use Rattle.script.specs.declared.Record.TheVariants.{Power, Other}

abbrev pub options_at : List ℕ → ℕ → Options
options_at s at = record { rate = payload_at s at 0; commons = payload_at s at 1; pm = payload_at s at 2; ps = payload_at s at 3; pp = payload_at s at 4 }

-- "one nibble that fills the image", which has 166
abbrev pub filled : ℕ → List ℕ
filled x = replicate 166 x

-- a power-on, or what the kind names with a payload of a word or of up to three bytes
unfoldable pub input_at : List ℕ → ℕ → Input
input_at s at =
    pick (eqb (kind_at s at) 1) (power (options_at s at) (filled (payload_at s at 5)))
    (named (event_of (kind_at s at) (word_at s (at + 4)) (payload_at s at 0) (payload_at s at 1) (payload_at s at 2)))

-- kinds 1 to 6 by what they name, and the payload length of each: "1 power-on: rate, commons, wake PM, PS, PP, one nibble", "2 Run: two-byte step
-- count", "3 pins: PM, PS, PP. 4 INT: 0 or 1. 6 RES: empty", "5 TMCLK: two-byte count"
abbrev pub size_of : Input → Option ℕ
size_of (power o image) = Some 6
size_of (named (Some (Run n))) = Some 2
size_of (named (Some (Pins pm ps pp))) = Some 3
size_of (named (Some (Int level))) = Some 1
size_of (named (Some (Tmclk n))) = Some 2
size_of (named (Some Res)) = Some 0
size_of (named None) = None

unfoldable pub inputs : List ℕ → List Input
inputs s = map (input_at s) (offsets s)

-- the code's record, as an input
abbrev pub input_of : Record → Input
input_of (Power o x) = power o (filled x)
input_of (Other n) = named n

-- ---- records written
-- an input as a record's bytes; an unknown kind has no record
unfoldable pub written : Input → List ℕ
written (power o image) = two_bytes 6 ++ (two_bytes 1 ++ (o.rate ∷ o.commons ∷ o.pm ∷ o.ps ∷ o.pp ∷ get_or image 0 0 ∷ []))
written (named (Some (Run n))) = two_bytes 2 ++ (two_bytes 2 ++ two_bytes n)
written (named (Some (Pins pm ps pp))) = two_bytes 3 ++ (two_bytes 3 ++ (pm ∷ ps ∷ pp ∷ []))
written (named (Some (Int level))) = two_bytes 1 ++ (two_bytes 4 ++ (level ∷ []))
written (named (Some (Tmclk n))) = two_bytes 2 ++ (two_bytes 5 ++ two_bytes n)
written (named (Some Res)) = two_bytes 0 ++ two_bytes 6
written (named None) = []

unfoldable pub written_all : List Input → List ℕ
written_all [] = []
written_all (i ∷ is) = written i ++ written_all is

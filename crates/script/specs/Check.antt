-- The whole check of a script, document 01, "Refused inputs": "In a script, 6 and 7 are judged record by record, 6 first in a record cut
-- off; an unknown kind gives 7; the first bad record decides. Then comes 8; then 3 over all records, then 4, each at the first such
-- record's offset; then 9". Assumes nothing.
use Rattle.std.specs.Prelude.{ℕ, ◌*◌, ◌≡◌, Bool, List, [], ◌∷◌, leb, eqb, length, Some, None, Result, Ok, Err}
use Rattle.isa.specs.Choice.{pick}
use Rattle.refusals.specs.Numbers.{number_of, refusal_of}
use Rattle.refusals.specs.declared.Refusal.{Refusal}
use Rattle.rom.specs.Fetching.{sized}
use Rattle.cpu.specs.Range.{nibbles, options_ok}
use Rattle.machine.specs.Events.{Input, power, named, values_ok}
use Rattle.records.specs.Records.{kind_at, format_by, offsets}
use Rattle.records.specs.declared.RawRecord.{RawRecord}
use Rattle.script.specs.Format.{size_of, input_at}
use Rattle.script.specs.declared.Refused.{Refused}

-- a refusal's number and offset; number 0 is no refusal
pub record Checked : Type 0 where
  pub number : ℕ
  pub offset : ℕ

abbrev pub refused : ℕ → ℕ → Checked
refused n at = record { number = n; offset = at }

abbrev pub fine : Checked
fine = refused 0 0

-- the code's answer
abbrev pub told : Result Unit Refused → Checked
told (Ok x) = fine
told (Err r) = refused (number_of r.refusal) r.offset

-- refusal n, "P is 0 unless the refusal rules below give an offset", unless the test holds
abbrev pub unless : Bool → ℕ → Checked
unless t n = pick t fine (refused n 0)

-- "Checked in this order"
abbrev pub first_refused : Checked → Checked → Checked
first_refused a b = pick (eqb a.number 0) b a

-- the first offset at which a rule gives a number
unfoldable pub first : (ℕ → ℕ) → List ℕ → Checked
first rule [] = fine
first rule (at ∷ rest) = pick (eqb (rule at) 0) (first rule rest) (refused (rule at) at)

-- a rule of the code, by what its calls give, tells the numbers of the records of s
abbrev pub Tells : (RawRecord → Result Unit Refusal → Type 0) → List ℕ → (ℕ → ℕ) → Type 0
Tells post s number = (r : RawRecord) (x : Result Unit Refusal) → post r x → r.bytes.now ≡ s → refusal_of x ≡ number r.at

-- "6: .. record cut off or payload length wrong"; "7: unknown kind"; "6 first in a record cut off": the kind is the one that the record names
unfoldable pub format_at : List ℕ → ℕ → ℕ
format_at s at = format_by (size_of (input_at s at)) s at

-- "3: in an image, event or record: nibble other than an option over 15, INT over 1"
unfoldable pub value_of : Input → ℕ
value_of (power o image) = pick (nibbles image) 0 3
value_of (named (Some e)) = pick (values_ok e) 0 3
value_of (named None) = 0

-- "4: option handed in at power-on, wake nibbles too, outside its list"
unfoldable pub choice_of : Input → ℕ
choice_of (power o image) = pick (options_ok o) 0 4
choice_of (named n) = 0

-- 3 and 4 of the record at an offset
abbrev pub value_at : List ℕ → ℕ → ℕ
value_at s at = value_of (input_at s at)

abbrev pub choice_at : List ℕ → ℕ → ℕ
choice_at s at = choice_of (input_at s at)

-- "1: mask not 4,096 bytes"; "6: script over 65,535 bytes (offset 0)"; "8: first record not kind 1, or no record" (in an empty script
-- the kind reads as 0); "9: report buffer under 48 times the records"
unfoldable pub checked : List ℕ → List ℕ → ℕ → Checked
checked mask s room =
    first_refused (unless (sized mask) 1)
    (first_refused (unless (leb (length s) 65535) 6)
    (first_refused (first (format_at s) (offsets s))
    (first_refused (unless (eqb (kind_at s 0) 1) 8)
    (first_refused (first (value_at s) (offsets s))
    (first_refused (first (choice_at s) (offsets s))
    (unless (leb (48 * length (offsets s)) room) 9))))))

-- Where lent bytes have their records. Assumes nothing.
use Rattle.std.specs.Prelude.{ℕ, List, map}
use Rattle.records.specs.Records.{offsets_from}
use Rattle.records.specs.declared.RawRecord.{RawRecord}
use Rattle.records.specs.declared.Records.{Records}

-- a record's place: the bytes that hold it, and its offset
abbrev pub place : RawRecord → List ℕ × ℕ
place r = (r.bytes.now, r.at)

-- the places of the records from an offset on
abbrev pub places : List ℕ → ℕ → List (List ℕ × ℕ)
places s at = map (λ (i : ℕ). (s, i)) (offsets_from s at)

abbrev pub places_left : Records → List (List ℕ × ℕ)
places_left r = places r.bytes.now r.at

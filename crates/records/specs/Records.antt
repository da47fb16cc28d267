-- Records, over a list of bytes. Document 01: "Script records are little-endian: two-byte payload length, two-byte kind, payload". Which kinds there
-- are, and the payload length of each, is whose records they are. Past the end every byte reads as 0. Assumes nothing.
use Rattle.std.specs.Prelude.{ℕ, zero, suc, ◌+◌, ◌*◌, ◌%◌, ◌/◌, Bool, Option, Some, None, List, [], ◌∷◌, ltb, eqb, length, get_or}
use Rattle.isa.specs.Choice.{pick}

-- a little-endian number of two bytes
abbrev pub word_at : List ℕ → ℕ → ℕ
word_at s i = get_or s i 0 + 256 * get_or s (i + 1) 0

-- the record at an offset: payload length, kind, and byte k of the payload
abbrev pub size_at : List ℕ → ℕ → ℕ
size_at s at = word_at s at

abbrev pub kind_at : List ℕ → ℕ → ℕ
kind_at s at = word_at s (at + 2)

abbrev pub payload_at : List ℕ → ℕ → ℕ → ℕ
payload_at s at k = get_or s (at + 4 + k) 0

-- where it ends
abbrev pub end_at : List ℕ → ℕ → ℕ
end_at s at = at + 4 + size_at s at

-- "record cut off": its 4 bytes of length and kind, or its payload, run past the end
abbrev pub cut_off : List ℕ → ℕ → Bool
cut_off s at = ltb (length s) (end_at s at)

-- "6: .. payload length wrong", "7: unknown kind": what the kind says of the payload, and the length that the record has
abbrev pub size_refusal : Option ℕ → ℕ → ℕ
size_refusal (Some right) n = pick (eqb n right) 0 6
size_refusal None n = 7

-- 6 and 7 of the record at an offset, of whose kind a size is said: "6 first in a record cut off; an unknown kind gives 7"
abbrev pub format_by : Option ℕ → List ℕ → ℕ → ℕ
format_by size s at = pick (cut_off s at) 6 (size_refusal size (size_at s at))

-- where records start, from an offset on: each where the one before ends. n bounds their number
unfoldable pub within : ℕ → List ℕ → ℕ → List ℕ
within zero s at = []
within (suc n) s at = pick (ltb at (length s)) (at ∷ within n s (end_at s at)) []

-- there are fewer records than bytes
unfoldable pub offsets_from : List ℕ → ℕ → List ℕ
offsets_from s at = within (length s) s at

abbrev pub offsets : List ℕ → List ℕ
offsets s = offsets_from s 0

-- ---- records written
-- a number in two bytes
abbrev pub two_bytes : ℕ → List ℕ
two_bytes n = n % 256 ∷ n / 256 ∷ []

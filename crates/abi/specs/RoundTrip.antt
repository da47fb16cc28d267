-- Reading and writing as numbers are inverse: each gives back to a host what the other took from it. r is an answer of `ht1130_read`, w one of
-- `ht1130_write`. Assumes nothing.
use Rattle.std.specs.Prelude.{ℕ, ◌+◌, ◌%◌, ◌^◌, ◌<◌, ◌≡◌, true, List, [], ◌∷◌, take}
use Rattle.isa.specs.Code.{addresses}
use Rattle.rom.specs.Fetching.{sized, Bytes, byte_at, fetching}
use Rattle.abi.specs.Forms.{Named, kept}
use Rattle.abi.specs.Answers.{read_number, write_number, writing_of, form_of, a_of, b_of, size_of, refusal_of, count_of, first_of, second_of}

-- the first n of the bytes at an address
abbrev pub bytes_at : List ℕ → ℕ → ℕ → List ℕ
bytes_at mask address n = take n (byte_at mask address ∷ byte_at mask (address + 1) ∷ [])

-- what is read with neither refusal nor fault is written back as the bytes that stand there
abbrev pub ReadThenWrite : Type 0
ReadThenWrite =
    (mask : List ℕ) (address r w : ℕ) → Bytes mask
    → r ≡ read_number (fetching mask address) → r % 2 ^ 16 ≡ 0
    → w ≡ write_number (writing_of (form_of r) (a_of r) (b_of r))
    → w ≡ write_number (record { number = 0; bytes = bytes_at mask address (size_of r) })

-- r is read, and has these numbers
pub record Gives (r : ℕ) (n : Named) : Type 0 where
  pub read : r % 2 ^ 16 ≡ 0
  pub form : form_of r ≡ n.form
  pub a : a_of r ≡ n.a
  pub b : b_of r ≡ n.b

-- what is written with no refusal is read back, where a mask has the bytes written, as the form and the operands that it has, and as long
abbrev pub WriteThenRead : Type 0
WriteThenRead =
    (form a b w : ℕ) (mask : List ℕ) (address r : ℕ)
    → w ≡ write_number (writing_of form a b) → refusal_of w ≡ 0
    → sized mask ≡ true → Bytes mask → address < addresses
    → bytes_at mask address (count_of w) ≡ take (count_of w) (first_of w ∷ second_of w ∷ [])
    → r ≡ read_number (fetching mask address) → Gives r (kept form a b) × (size_of r ≡ count_of w)

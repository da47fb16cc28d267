-- Reading and writing as numbers are inverse, over what the two exported functions promise. The two tables are inverse, what two bytes read as has
-- these bytes as its code, and each part stands in its own place of an answer. Assumes nothing.
use Prim.Native.Nat.{ℕ, ◌+◌, ◌%◌, ◌^◌, ◌<◌}
use mathlib.Core.Path.{◌≡◌, refl, sym, ap, subst, ◌∙◌}
use mathlib.Core.Bool.{Bool, true, false, ◌&&◌}
use mathlib.Core.List.{List, [], ◌∷◌}
use native.Mathlib.Omega.{arith}
use lib.Dec.{ltb}
use lib.ListN.{length, take, get_or, get_or-eq_default}
use borrow.Author.Tests.{ltb-true, ltb-false, lt-ltb}
use Rattle.std.specs.Prelude.{Option, Some, None}
use Rattle.isa.specs.Choice.{pick}
use Rattle.isa.specs.Code.{addresses, bytes_of, in_range}
use Rattle.isa.specs.Reading.{Reads, Reading, Entry, undefined, opcodes, complete, decoded}
use Rattle.isa.specs.Timing.{Columns, length_of, cycles_of}
use Rattle.rom.specs.Fetching.{refused, sized, byte_at, with_timing, fetching}
use Rattle.rom.proofs.Fetching.{byte_small, read-bytes, length-bytes, cycles-bytes}
use Rattle.rom.specs.Writing as Writing
use Rattle.rom.specs.Writing.{fitting, writing}
use Rattle.isa.specs.declared.Instruction.{Instruction}
use Rattle.isa.proofs.Exact.{and_left, and_right, back, exact, timed}
use Rattle.abi.specs.Forms.{Named, numbers_of, named, kept}
use Rattle.abi.specs.Answers.{packed, packed_named, read_number, form_of, a_of, b_of, size_of, packed_bytes, count_of, first_of, second_of, write_number, writing_by, writing_of}
use Rattle.abi.specs.RoundTrip.{Gives, ReadThenWrite, WriteThenRead}
use Rattle.abi.proofs.Inverse as Inverse
use Rattle.abi.proofs.Inverse.{by_form, inverse}
use Rattle.abi.proofs.Kept.{named-kept}

-- ---- each part stands in its own place
module _ (f a b size cycles : ℕ) (hf : f < 256) (ha : a < 256) (hb : b < 65536) (hs : size < 256) where
  form-out : form_of (packed 0 0 f a b size cycles) ≡ f
  form-out = omega arith

  a-out : a_of (packed 0 0 f a b size cycles) ≡ a
  a-out = omega arith

  b-out : b_of (packed 0 0 f a b size cycles) ≡ b
  b-out = omega arith

  size-out : size_of (packed 0 0 f a b size cycles) ≡ size
  size-out = omega arith

  no-fault : packed 0 0 f a b size cycles % 2 ^ 16 ≡ 0
  no-fault = omega arith

-- ---- what two bytes read as
module _ (x y : ℕ) (small : y < 256) where
  -- the bytes x, y, of which the first n are written
  abbrev first : ℕ → Writing.Answer
  first n = record { number = 0; bytes = take n (x ∷ y ∷ []) }

  abbrev Back : ℕ → Type 0
  Back r = writing_of (form_of r) (a_of r) (b_of r) ≡ first (size_of r)

  module _ (i : Instruction) (reads : Reads x y i) where
    abbrev n : Named
    n = numbers_of i

    fits : Inverse.fitting n ≡ true
    fits = (by_form i reads.fields).fits

    form-fits : n.form < 256
    form-fits = ltb-true n.form 256 (and_left (ltb n.form 256) (ltb n.a 256 && ltb n.b 65536) fits)

    operands : ltb n.a 256 && ltb n.b 65536 ≡ true
    operands = and_right (ltb n.form 256) (ltb n.a 256 && ltb n.b 65536) fits

    a-fits : n.a < 256
    a-fits = ltb-true n.a 256 (and_left (ltb n.a 256) (ltb n.b 65536) operands)

    b-fits : n.b < 65536
    b-fits = ltb-true n.b 65536 (and_right (ltb n.a 256) (ltb n.b 65536) operands)

    counted : length (bytes_of i) ≡ length_of x
    counted = (by_form i reads.fields).sized ∙ sym (ap (λ (c : Columns). c.bytes) ((timed x).read y i small reads))

    size_fits : length_of x < 256
    size_fits = rw (ap (λ (c : Columns). c.bytes) ((timed x).read y i small reads)) (omega (arith, (by_form i reads.fields).short))

    written : writing i ≡ first (length (bytes_of i))
    written = rw reads.fields (ap (λ (s : List ℕ). record { number = 0; bytes = s }) (sym reads.bytes))

    abbrev r : ℕ
    r = packed_named n (length_of x) (cycles_of x)

    gives : Gives r n
    gives =
        record {
          read = no-fault n.form n.a n.b (length_of x) (cycles_of x) form-fits a-fits b-fits size_fits;
          form = form-out n.form n.a n.b (length_of x) (cycles_of x) form-fits a-fits b-fits size_fits;
          a = a-out n.form n.a n.b (length_of x) (cycles_of x) form-fits a-fits b-fits size_fits;
          b = b-out n.form n.a n.b (length_of x) (cycles_of x) form-fits a-fits b-fits size_fits;
        }

    as_long : size_of r ≡ length (bytes_of i)
    as_long = size-out n.form n.a n.b (length_of x) (cycles_of x) form-fits a-fits b-fits size_fits ∙ sym counted

    named-there : writing_of (form_of r) (a_of r) (b_of r) ≡ writing_of n.form n.a n.b
    named-there = λ k. writing_of (gives.form k) (gives.a k) (gives.b k)

    written_back : Back r
    written_back =
        named-there ∙ ap writing_by (inverse i reads.fields) ∙ written
        ∙ ap first (sym as_long)

  -- by the tests of a mask and an address, and by what the decoder answers: only what was read has neither refusal nor fault
  through : (s t : Bool) (d : Option Instruction) → Reading x y d → read_number (pick s (pick t (with_timing (length_of x) (cycles_of x) d) (refused 5)) (refused 1)) % 2 ^ 16 ≡ 0
      → Back (read_number (pick s (pick t (with_timing (length_of x) (cycles_of x) d) (refused 5)) (refused 1)))
  through true true (Some i) r h = written_back i r
  through true true None r h = absurd (omega arith)
  through true false d r h = absurd (omega arith)
  through false t d r h = absurd (omega arith)

-- what stands at an address, by its bytes
fetched : (mask : List ℕ) (a : ℕ) → fetching mask a
    ≡ pick (sized mask) (pick (ltb a addresses) (with_timing (length_of (byte_at mask a)) (cycles_of (byte_at mask a)) (decoded (byte_at mask a) (byte_at mask (a + 1)))) (refused 5)) (refused 1)
fetched mask a = rw (read-bytes mask a, length-bytes mask a, cycles-bytes mask a) refl

pub read-then-write : ReadThenWrite
read-then-write mask address m w bytes e h f = f ∙ ap write_number there
  where
    x : ℕ
    x = byte_at mask address

    y : ℕ
    y = byte_at mask (address + 1)

    small : y < 256
    small = byte_small mask (address + 1) bytes

    there : Back x y small m
    there =
        let m-is = e ∙ ap read_number (fetched mask address) in
        subst (Back x y small) (sym m-is) (through x y small (sized mask) (ltb address addresses) (decoded x y) (exact x y small) (rw m-is at h))

-- ---- what is written
-- past the map's end nothing is read
first_below : (x y : ℕ) (i : Instruction) → decoded x y ≡ Some i → x < 256
unfolding decoded opcodes
first_below x y i e = go (ltb x 256) refl
  where
    go : (t : Bool) → ltb x 256 ≡ t → x < 256
    go true h = ltb-true x 256 h
    go false h =
        let p : get_or opcodes x undefined ≡ undefined = get_or-eq_default opcodes undefined (ltb-false x 256 h) in
        let q : None ≡ Some i = sym (ap (λ (e : Entry). complete e y) p) ∙ e in
        absurd (let z : ◌≡◌ {A = ℕ} 0 1 = cc in omega arith)

-- a list of two or less, by its places
two-at-most : (s : List ℕ) → length s < 3 → take (length s) (get_or s 0 0 ∷ get_or s 1 0 ∷ []) ≡ s
two-at-most [] h = refl
two-at-most (x ∷ []) h = refl
two-at-most (x ∷ y ∷ []) h = refl
two-at-most (x ∷ y ∷ z ∷ s) h = absurd (omega arith)

module _ (w count x y : ℕ) (e : w ≡ packed_bytes 0 count x y) (hc : count < 3) (hx : x < 256) where
  count-out : count_of w ≡ count
  count-out = omega arith

  x-out : first_of w ≡ x
  x-out = omega arith

  y-out : second_of w ≡ y
  y-out = omega arith

-- where a mask has the bytes of an instruction in range, that instruction stands
module _ (i : Instruction) (ok : in_range i ≡ true) where
  abbrev s : List ℕ
  s = bytes_of i

  short : length s < 3
  short = omega (arith, (by_form i ok).sized, (by_form i ok).short)

  x_fits : get_or s 0 0 < 256
  x_fits = first_below (get_or s 0 0) (get_or s 1 0) i (back (get_or s 0 0) (get_or s 1 0) i (record { fields = ok; bytes = two-at-most s short }))

  counts : (w : ℕ) → w ≡ packed_bytes 0 (length s) (get_or s 0 0) (get_or s 1 0) → count_of w ≡ length s
  counts w e = count-out w (length s) (get_or s 0 0) (get_or s 1 0) e short x_fits

  stands : (w x y : ℕ) → w ≡ packed_bytes 0 (length s) (get_or s 0 0) (get_or s 1 0) → take (count_of w) (x ∷ y ∷ []) ≡ take (count_of w) (first_of w ∷ second_of w ∷ []) → Reads x y i
  stands w x y e h =
      let n = counts w e in
      let p : first_of w ≡ get_or s 0 0 = x-out w (length s) (get_or s 0 0) (get_or s 1 0) e short x_fits in
      let q : second_of w ≡ get_or s 1 0 = y-out w (length s) (get_or s 0 0) (get_or s 1 0) e short x_fits in
      let there : take (length s) (x ∷ y ∷ []) ≡ take (length s) (get_or s 0 0 ∷ get_or s 1 0 ∷ []) = rw (n, p, q) at h in
      record { fields = ok; bytes = there ∙ two-at-most s short }

pub write-then-read : WriteThenRead
write-then-read form a b w mask address r e free size bytes inside holds f = by_name (named form a b) refl
  where
    x : ℕ
    x = byte_at mask address

    y : ℕ
    y = byte_at mask (address + 1)

    small : y < 256
    small = byte_small mask (address + 1) bytes

    by-range : (i : Instruction) (t : Bool) → named form a b ≡ Some i → in_range i ≡ t → w ≡ write_number (fitting t (bytes_of i)) → Gives r (kept form a b) × (size_of r ≡ count_of w)
    by-range i false m ok g = absurd (omega arith)
    by-range i true m ok g =
        let reads = stands i ok w x y g holds in
        let read : r ≡ packed_named (numbers_of i) (length_of x) (cycles_of x) =
        f ∙ ap read_number (fetched mask address)
        ∙ (λ k. read_number (pick (size k) (pick (lt-ltb address addresses inside k) (with_timing (length_of x) (cycles_of x) (back x y i reads k)) (refused 5)) (refused 1))) in
        (rw (read, ← named-kept form a b i m) (gives x y small i reads), ap size_of read ∙ as_long x y small i reads ∙ sym (counts i ok w g))

    by_name : (d : Option Instruction) → named form a b ≡ d → Gives r (kept form a b) × (size_of r ≡ count_of w)
    by_name None m = absurd (omega (arith, e ∙ ap (λ (d : Option Instruction). write_number (writing_by d)) m))
    by_name (Some i) m = by-range i (in_range i) m refl (e ∙ ap (λ (d : Option Instruction). write_number (writing_by d)) m)

-- Parsing is exact: the inputs of a script with a good format, written back one after the other, are the script's bytes. A record of known
-- kind and of its length is written as the bytes that it stands in, and each record starts where the one before ends. Assumes nothing.
use Prim.Native.Nat.{ℕ, zero, suc, ◌+◌, ◌<◌, ◌≤◌}
use native.Mathlib.Omega.{arith}
use mathlib.Core.Path.{◌≡◌, refl, sym, ap, ap₂, ◌∙◌}
use mathlib.Core.List.{List, [], ◌∷◌, ◌++◌, map}
use lib.Dec.{eqb}
use lib.ListN.{length, drop, drop_of_length-le}
use lib.Seq.{drop-cons}
use borrow.Author.Tests.{ne_eqb}
use Rattle.std.specs.Prelude.{Some, None}
use Rattle.isa.specs.Choice.{pick}
use Rattle.rom.specs.Fetching.{Bytes}
use Rattle.machine.specs.Events.{Input, power, named, event_of}
use Rattle.machine.specs.Report.{places}
use Rattle.records.specs.Records.{word_at, size_at, kind_at, payload_at, offsets_from, offsets}
use Rattle.script.specs.Format.{size_of, options_at, filled, input_at, inputs, written, written_all}
use Rattle.script.specs.Check.{format_at, first, checked}
use Rattle.script.specs.Whole.{ParsesBack}
use Rattle.records.proofs.Offsets.{each}
use Rattle.records.proofs.Formats.{Whole, whole, same_size, unknown-size}
use Rattle.records.proofs.Written.{byte, load, head, two}
use Rattle.script.proofs.Checks.{accepted}
use Rattle.script.proofs.Accepts.{good-here, good-after}

module _ (s : List ℕ) (at : ℕ) where
  abbrev here : ℕ → ℕ
  here k = byte s at k

  -- n bytes from the offset on are what stands there
  bytes_drop : (n k : ℕ) → at + (k + n) ≤ length s → places n here k ++ drop (at + (k + n)) s ≡ drop (at + k) s
  bytes_drop zero k h = ap (λ (i : ℕ). drop i s) (end k)
    where
      end : (k : ℕ) → at + (k + 0) ≡ at + k
      end k = omega arith
  bytes_drop (suc n) k h =
      ap (λ (l : List ℕ). here k ∷ l)
      (ap (λ (i : ℕ). places n here (suc k) ++ drop i s) (shift n k) ∙ bytes_drop n (suc k) (omega arith) ∙ ap (λ (i : ℕ). drop i s) (next k))
      ∙ sym (drop-cons s (at + k) 0 (omega arith))
    where
      shift : (n k : ℕ) → at + (k + suc n) ≡ at + (suc k + n)
      shift n k = omega arith

      next : (k : ℕ) → at + suc k ≡ suc (at + k)
      next k = omega arith

  module _ (b : Bytes s) where
    -- what a kind names here
    abbrev by_kind : ℕ → Input
    by_kind kind =
        pick (eqb kind 1) (power (options_at s at) (filled (payload_at s at 5)))
        (named (event_of kind (word_at s (at + 4)) (payload_at s at 0) (payload_at s at 1) (payload_at s at 2)))

    over : (kind : ℕ) → 6 < kind → size_of (by_kind kind) ≡ None
    unfolding event_of
    over kind h =
        rw (
          ne_eqb kind 1 (λ e. omega arith),
          ne_eqb kind 2 (λ e. omega arith),
          ne_eqb kind 3 (λ e. omega arith),
          ne_eqb kind 4 (λ e. omega arith),
          ne_eqb kind 5 (λ e. omega arith),
          ne_eqb kind 6 (λ e. omega arith),
        ) refl

    -- where a size is the record's, what is written of that size is as long as the record
    by_size : {l : List ℕ} (n : ℕ) → Some n ≡ Some (size_at s at) → (size_at s at ≡ n → l ≡ places (4 + n) here 0) → l ≡ places (4 + size_at s at) here 0
    by_size n e f = f (sym (same_size e)) ∙ ap (λ (n : ℕ). places (4 + n) here 0) (same_size e)

    -- it is written as the bytes that it stands in, if the record has its size
    back : (kind : ℕ) → kind_at s at ≡ kind → size_of (by_kind kind) ≡ Some (size_at s at) → written (by_kind kind) ≡ places (4 + size_at s at) here 0
    unfolding event_of written
    back zero k e = absurd (unknown-size e)
    back (suc zero) k e =
        by_size 6 e
        (λ z. head s at b _ z k ∙ six (load s at 0 4 refl) (load s at 1 5 refl) (load s at 2 6 refl) (load s at 3 7 refl) (load s at 4 8 refl) (load s at 5 9 refl))
      where
        six : {a b c d e f a' b' c' d' e' f' : ℕ} → a ≡ a' → b ≡ b' → c ≡ c' → d ≡ d' → e ≡ e' → f ≡ f'
            → here 0 ∷ here 1 ∷ here 2 ∷ here 3 ∷ a ∷ b ∷ c ∷ d ∷ e ∷ f ∷ []
            ≡ here 0 ∷ here 1 ∷ here 2 ∷ here 3 ∷ a' ∷ b' ∷ c' ∷ d' ∷ e' ∷ f' ∷ []
        six p q r t u v = cc
    back (suc (suc zero)) k e = by_size 2 e (λ z. head s at b _ z k ∙ ap (λ (l : List ℕ). here 0 ∷ here 1 ∷ here 2 ∷ here 3 ∷ l) (two s at b))
    back (suc (suc (suc zero))) k e = by_size 3 e (λ z. head s at b _ z k ∙ three (load s at 0 4 refl) (load s at 1 5 refl) (load s at 2 6 refl))
      where
        three : {a b c a' b' c' : ℕ} → a ≡ a' → b ≡ b' → c ≡ c'
            → here 0 ∷ here 1 ∷ here 2 ∷ here 3 ∷ a ∷ b ∷ c ∷ [] ≡ here 0 ∷ here 1 ∷ here 2 ∷ here 3 ∷ a' ∷ b' ∷ c' ∷ []
        three p q r = cc
    back (suc (suc (suc (suc zero)))) k e =
        by_size 1 e (λ z. head s at b _ z k ∙ ap (λ (x : ℕ). here 0 ∷ here 1 ∷ here 2 ∷ here 3 ∷ x ∷ []) (load s at 0 4 refl))
    back (suc (suc (suc (suc (suc zero))))) k e = by_size 2 e (λ z. head s at b _ z k ∙ ap (λ (l : List ℕ). here 0 ∷ here 1 ∷ here 2 ∷ here 3 ∷ l) (two s at b))
    back (suc (suc (suc (suc (suc (suc zero)))))) k e = by_size 0 e (λ z. head s at b [] z k)
    back (suc (suc (suc (suc (suc (suc (suc kind))))))) k e = absurd (unknown-size (sym (over (suc (suc (suc (suc (suc (suc (suc kind))))))) (omega arith)) ∙ e))

    -- a record written back, and the bytes after it
    record-back : Whole (size_of (input_at s at)) s at → written (input_at s at) ++ drop (at + 4 + size_at s at) s ≡ drop at s
    unfolding input_at
    record-back w =
        ap₂ (λ (l : List ℕ) (i : ℕ). l ++ drop i s) (back (kind_at s at) refl w.right-size) (ends (size_at s at))
        ∙ bytes_drop (4 + size_at s at) 0 (omega (arith, w.inside))
        ∙ ap (λ (i : ℕ). drop i s) start
      where
        ends : (n : ℕ) → at + 4 + n ≡ at + (0 + (4 + n))
        ends n = omega arith

        start : at + 0 ≡ at
        start = omega arith

-- all records from an offset on
module _ (s : List ℕ) (b : Bytes s) where
  rest_back : (at : ℕ) → (first (format_at s) (offsets_from s at)).number ≡ 0 → written_all (map (input_at s) (offsets_from s at)) ≡ drop at s
  unfolding written_all format_at
  rest_back =
      each s (λ (at : ℕ) (l : List ℕ). (first (format_at s) (offsets_from s at)).number ≡ 0 → written_all (map (input_at s) l) ≡ drop at s)
      (λ at h e. sym (drop_of_length-le s h))
      (λ at h back e.
      ap (λ (l : List ℕ). written (input_at s at) ++ l) (back (good-after (format_at s) s at h e))
      ∙ record-back s at b (whole (size_of (input_at s at)) s at (good-here (format_at s) s at h e)))

  pub exact : (first (format_at s) (offsets s)).number ≡ 0 → written_all (inputs s) ≡ s
  unfolding inputs
  exact e = rest_back 0 e

  -- an accepted script is its inputs, written
  pub written_back : (mask : List ℕ) (room : ℕ) → (checked mask s room).number ≡ 0 → written_all (inputs s) ≡ s
  written_back mask room e = exact (accepted mask s room e).format

pub parses-back : ParsesBack
parses-back = written_back

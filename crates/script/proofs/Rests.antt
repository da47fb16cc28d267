-- The reports from an offset on, one record after the other; and the buffer while they are written: the reports so far, those to come
-- and the bytes after the last are always the same whole. Assumes nothing.
use Prim.Native.Nat.{ℕ, ◌+◌, ◌<◌, ◌≤◌}
use native.Mathlib.Nat.{zero-add}
use native.Mathlib.Omega.{arith}
use mathlib.Core.Path.{◌≡◌, refl, sym, ap, ap₂, ◌∙◌}
use mathlib.Core.Bool.{true}
use mathlib.Core.List.{List, [], ◌++◌, map, append_assoc}
use lib.ListN.{length, take, drop, length-append, length-drop, take-append-drop}
use lib.Seq.{take_at, drop_at, drop-drop, length-take-le}
use borrow.Author.Tests.{eq-eqb, ne_eqb, lt-ltb, le-ltb}
use Rattle.cpu.specs.Range.{valid}
use Rattle.machine.specs.Machine.{state_of}
use Rattle.machine.specs.Power.{blank}
use Rattle.machine.specs.Report.{reported, reporting, report}
use Rattle.machine.specs.declared.Machine.{Machine}
use Rattle.records.specs.Records.{size_at, offsets_from}
use Rattle.script.specs.Format.{input_at, inputs}
use Rattle.script.specs.Check.{format_at}
use Rattle.script.specs.Reports.{next, reports, reports_of, progress, passed, stepped}
use Rattle.records.proofs.Offsets.{from_end, from_next}

-- the reports of the records from an offset on
abbrev pub rest : List ℕ → List ℕ → ℕ → Machine → List ℕ
rest mask s at m = reports mask (map (input_at s) (offsets_from s at)) m

pub rest_all : (mask s : List ℕ) → rest mask s 0 blank ≡ reports_of mask s
unfolding inputs
rest_all mask s = refl

module _ (mask s : List ℕ) (at : ℕ) (m : Machine) where
  pub rest_end : length s ≤ at → rest mask s at m ≡ []
  unfolding reports
  rest_end h = rw (from_end s at h) refl

  pub rest-next : at < length s → rest mask s at m ≡ reported (next mask (input_at s at) m) ++ rest mask s (at + 4 + size_at s at) (next mask (input_at s at) m)
  unfolding reports
  rest-next h = rw (from_next s at h) refl

  -- a step at a record that is well formed, at another one, and past the script's end
  pub stepped-in : at < length s → format_at s at ≡ 0 → stepped mask s at m ≡ passed mask s at m
  unfolding stepped
  stepped-in h e = rw (lt-ltb at (length s) h, e) refl

  pub stepped-bad : at < length s → (format_at s at ≡ 0 → ⊥) → stepped mask s at m ≡ progress (format_at s at) at m
  unfolding stepped
  stepped-bad h n = rw (lt-ltb at (length s) h, ne_eqb (format_at s at) 0 n) refl

  pub stepped-end : length s ≤ at → stepped mask s at m ≡ progress 0 at m
  unfolding stepped
  stepped-end h = rw (le-ltb at (length s) h) refl

-- what a query leaves where nothing is refused
pub report-good : (m : Machine) (out : List ℕ) → length out ≡ 48 → valid (state_of m) ≡ true → report m out ≡ reporting 0 (reported m)
unfolding report
report-good m out l v = rw (eq-eqb (length out) 48 l, v) refl

-- ---- the buffer
-- with n bytes written and r to come
abbrev pub whole : List ℕ → ℕ → List ℕ → List ℕ
whole out n r = take n out ++ (r ++ drop (n + length r) out)

-- one report more is written
pub whole-more : (out p r : List ℕ) (n : ℕ) → length p ≡ 48 → n + 48 ≤ length out
    → whole (take n out ++ (p ++ drop (n + 48) out)) (n + 48) r ≡ whole out n (p ++ r)
whole-more out p r n l h =
    ap₂ (λ (a b : List ℕ). a ++ (r ++ b)) front back
    ∙ append_assoc (take n out) p (r ++ drop (n + length (p ++ r)) out)
    ∙ ap (λ (b : List ℕ). take n out ++ b) (sym (append_assoc p r (drop (n + length (p ++ r)) out)))
  where
    joined_length : length (take n out ++ p) ≡ n + 48
    joined_length = omega (arith, length-append (take n out) p, length-take-le n out (omega arith))

    whole-list : take n out ++ (p ++ drop (n + 48) out) ≡ (take n out ++ p) ++ drop (n + 48) out
    whole-list = sym (append_assoc (take n out) p (drop (n + 48) out))

    front : take (n + 48) (take n out ++ (p ++ drop (n + 48) out)) ≡ take n out ++ p
    front = ap (take (n + 48)) whole-list ∙ take_at (take n out ++ p) (drop (n + 48) out) (n + 48) joined_length

    sum : n + 48 + length r ≡ n + length (p ++ r)
    sum = omega (arith, length-append p r)

    back : drop (n + 48 + length r) (take n out ++ (p ++ drop (n + 48) out)) ≡ drop (n + length (p ++ r)) out
    back =
        sym (drop-drop (length r) (n + 48) (take n out ++ (p ++ drop (n + 48) out)))
        ∙ ap (λ (l : List ℕ). drop (length r) l) (ap (drop (n + 48)) whole-list ∙ drop_at (take n out ++ p) (drop (n + 48) out) (n + 48) joined_length)
        ∙ drop-drop (length r) (n + 48) out
        ∙ ap (λ (k : ℕ). drop k out) sum

-- the buffer keeps its length
pub put-length : (out p : List ℕ) (n : ℕ) → length p ≡ 48 → n + 48 ≤ length out → length (take n out ++ (p ++ drop (n + 48) out)) ≡ length out
put-length out p n l h =
    omega (arith, length-append (take n out) (p ++ drop (n + 48) out), length-append p (drop (n + 48) out), length-take-le n out (omega arith), length-drop (n + 48) out)

pub whole-none : (out : List ℕ) (n : ℕ) → whole out n [] ≡ out
whole-none out n = ap (λ (k : ℕ). take n out ++ drop k out) (zero-end n) ∙ take-append-drop n out
  where
    zero-end : (n : ℕ) → n + 0 ≡ n
    zero-end n = omega arith

pub whole-first : (out r : List ℕ) → whole out 0 r ≡ r ++ drop (length r) out
whole-first out r = ap (λ (k : ℕ). r ++ drop k out) (zero-add (length r))

-- The rule of lengths and cycles gives document 01's list: the list is eleven runs of one entry each, by one test that antt computes, and a first
-- byte in a run has the run's entry, by one law. Assumes nothing.
use Prim.Native.Nat.{ℕ, zero, suc, ◌+◌, ◌-◌, ◌*◌, ◌/◌, ◌%◌, ◌<◌, ◌≤◌}
use native.Mathlib.Nat.{le_of_suc-le-suc, not-suc-le-zero, zero-add, suc-add}
use native.Mathlib.Omega.{arith}
use mathlib.Core.Path.{◌≡◌, refl, sym, ap, ◌∙◌}
use mathlib.Core.List.{List, [], ◌∷◌}
use lib.ListN.{get_or}
use Rattle.isa.specs.Reading.{opcodes}
use Rattle.isa.specs.Timing.{columns_of, entries, length_of, cycles_of}
use Rattle.isa.proofs.List.{length_at_entry, cycles_at_entry}

-- so many first bytes in a row that have one entry
pub record Run : Type 0 where
  pub count : ℕ
  pub entry : ℕ

abbrev run : ℕ → ℕ → Run
run n e = record { count = n; entry = e }

-- from 00h on; then 35h, DAA, HALT; from 38h; a second byte; SOUND; READ; MOV of a pair; MOV A,XH; branches, JMP, CALL
abbrev pub runs : List Run
runs =
    run 0x35 0x11
    ∷ run 1 0x00 ∷ run 1 0x11 ∷ run 1 0x22
    ∷ run 8 0x11
    ∷ run 8 0x22 ∷ run 4 0x11 ∷ run 4 0x12
    ∷ run 0x20 0x22
    ∷ run 0x10 0x11
    ∷ run 0x80 0x22
    ∷ []

-- the entries of some runs, one after the other
abbrev repeated : ℕ → ℕ → List ℕ → List ℕ
repeated zero e l = l
repeated (suc n) e l = e ∷ repeated n e l

abbrev listed : List Run → List ℕ
listed [] = []
listed (r ∷ rs) = repeated r.count r.entry (listed rs)

tested : listed runs ≡ entries
unfolding entries columns_of opcodes
tested = refl

-- run k, and where it starts
abbrev pub at : List Run → ℕ → Run
at rs k = get_or rs k (run 0 0)

abbrev pub start : List Run → ℕ → ℕ
start [] k = 0
start (r ∷ rs) zero = 0
start (r ∷ rs) (suc k) = r.count + start rs k

inside : (n e : ℕ) (l : List ℕ) (a : ℕ) → a < n → e ≡ get_or (repeated n e l) a 0
inside zero e l a h = absurd (not-suc-le-zero h)
inside (suc n) e l zero h = refl
inside (suc n) e l (suc a) h = inside n e l a (le_of_suc-le-suc h)

beyond : (n e : ℕ) (l : List ℕ) (a : ℕ) → get_or l a 0 ≡ get_or (repeated n e l) (n + a) 0
beyond zero e l a = ap (λ (m : ℕ). get_or l m 0) (sym (zero-add a))
beyond (suc n) e l a = beyond n e l a ∙ ap (λ (m : ℕ). get_or (repeated (suc n) e l) m 0) (sym (suc-add n a))

in-runs : (rs : List Run) (k a : ℕ) → a < (at rs k).count → (at rs k).entry ≡ get_or (listed rs) (start rs k + a) 0
in-runs [] k a h = absurd (not-suc-le-zero h)
in-runs (r ∷ rs) zero a h = inside r.count r.entry (listed rs) a h ∙ ap (λ (m : ℕ). get_or (listed (r ∷ rs)) m 0) (sym (zero-add a))
in-runs (r ∷ rs) (suc k) a h =
    let e : r.count + (start rs k + a) ≡ r.count + start rs k + a = omega arith in
    in-runs rs k a h ∙ beyond r.count r.entry (listed rs) (start rs k + a) ∙ ap (λ (m : ℕ). get_or (listed (r ∷ rs)) m 0) e

pub in-run : (k a : ℕ) → start runs k ≤ a → a < start runs k + (at runs k).count → (at runs k).entry ≡ get_or entries a 0
in-run k a l h =
    let e : start runs k + (a - start runs k) ≡ a = omega arith in
    in-runs runs k (a - start runs k) (omega arith) ∙ ap (λ (m : ℕ). get_or (listed runs) m 0) e ∙ ap (λ (l : List ℕ). get_or l a 0) tested

-- what the entry of a run says of its first bytes, taken apart
pub record Timed (a b n : ℕ) : Type 0 where
  pub bytes : b ≡ length_of a
  pub cycles : n ≡ cycles_of a
  pub listed : 16 * b + n ≡ get_or entries a 0

pub timed-run : (k a b n : ℕ) → start runs k ≤ a → a < start runs k + (at runs k).count → n < 16 → 16 * b + n ≡ (at runs k).entry → Timed a b n
timed-run k a b n l h s e =
    let listed : 16 * b + n ≡ get_or entries a 0 = e ∙ in-run k a l h in
    let high : b ≡ get_or entries a 0 / 16 = omega (arith, listed, s) in
    let low : n ≡ get_or entries a 0 % 16 = omega (arith, listed, s) in
    record { bytes = high ∙ length_at_entry a; cycles = low ∙ cycles_at_entry a; listed = listed }

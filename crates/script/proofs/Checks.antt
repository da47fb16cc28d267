-- The whole check, one test after the other: a stage whose test fails gives the answer, and the next one decides where it holds. A script
-- that is not refused has passed every test. Assumes nothing.
use Prim.Native.Nat.{ℕ, ◌+◌, ◌*◌, ◌<◌, ◌≤◌}
use native.Mathlib.Omega.{arith}
use mathlib.Core.Path.{◌≡◌, refl, sym, ap, ◌∙◌}
use mathlib.Core.Bool.{Bool, true, false}
use mathlib.Core.List.{List}
use lib.Dec.{leb, eqb}
use lib.ListN.{length}
use borrow.Author.Tests.{eq-eqb, ne_eqb, le-leb, eqb-true, eqb-false, leb-true}
use Rattle.rom.specs.Fetching.{sized}
use Rattle.isa.specs.Choice.{pick}
use Rattle.records.specs.Records.{size_at, kind_at, offsets_from, offsets}
use Rattle.std.specs.Prelude.{Result, Err}
use Rattle.refusals.proofs.Numbers.{not_zero}
use Rattle.script.specs.declared.Refused.{Refused}
use Rattle.script.specs.Check.{told, refused, fine, unless, first_refused, first, checked, format_at, value_at, choice_at, Checked}
use Rattle.records.proofs.Offsets.{from_end, from_next}

-- ---- the first offset at which a rule gives a number
module _ (rule : ℕ → ℕ) (s : List ℕ) (at : ℕ) where
  pub first-end : length s ≤ at → first rule (offsets_from s at) ≡ fine
  unfolding first
  first-end h = rw (from_end s at h) refl

  pub first-bad : at < length s → (rule at ≡ 0 → ⊥) → first rule (offsets_from s at) ≡ refused (rule at) at
  unfolding first
  first-bad h z = rw (from_next s at h, ne_eqb (rule at) 0 z) refl

  pub first_good : at < length s → rule at ≡ 0 → first rule (offsets_from s at) ≡ first rule (offsets_from s (at + 4 + size_at s at))
  unfolding first
  first_good h z = rw (from_next s at h, eq-eqb (rule at) 0 z) refl

-- ---- the stages
number : {a b : Checked} → a ≡ b → a.number ≡ b.number
number e = ap (λ (k : Checked). k.number) e

stop : (a b : Checked) → (a.number ≡ 0 → ⊥) → first_refused a b ≡ a
stop a b h = rw (ne_eqb a.number 0 h) refl

pass : (a b : Checked) → a.number ≡ 0 → first_refused a b ≡ b
pass a b h = rw (eq-eqb a.number 0 h) refl

-- an error is the answer, and after an `Ok` the stages that follow give it
pub stopped : {r : Result Unit Refused} {a : Checked} (e : Refused) (b : Checked) → r ≡ Err e → told (Err e) ≡ a → told r ≡ first_refused a b
stopped {a = a} e b p q = ap told p ∙ q ∙ sym (stop a b (λ z. not_zero e.refusal (number q ∙ z)))

pub thens : {k a b : Checked} → fine ≡ a → k ≡ b → k ≡ first_refused a b
thens {a = a} {b = b} p q = q ∙ sym (pass a b (sym (number p)))

module _ (mask s : List ℕ) (room : ℕ) where
  abbrev pub after4 : Checked
  after4 = unless (leb (48 * length (offsets s)) room) 9

  abbrev pub after3 : Checked
  after3 = first_refused (first (choice_at s) (offsets s)) after4

  abbrev pub after8 : Checked
  after8 = first_refused (first (value_at s) (offsets s)) after3

  abbrev pub after7 : Checked
  after7 = first_refused (unless (eqb (kind_at s 0) 1) 8) after8

  abbrev pub after6 : Checked
  after6 = first_refused (first (format_at s) (offsets s)) after7

  abbrev pub after1 : Checked
  after1 = first_refused (unless (leb (length s) 65535) 6) after6

  pub pass9 : 48 * length (offsets s) ≤ room → after4 ≡ fine
  pass9 h = rw (le-leb (48 * length (offsets s)) room h) refl

-- ---- a script that is not refused
pub record Accepted (mask s : List ℕ) (room : ℕ) : Type 0 where
  pub mask_size : sized mask ≡ true
  pub script-size : length s ≤ 65535
  pub format : (first (format_at s) (offsets s)).number ≡ 0
  pub start : kind_at s 0 ≡ 1
  pub values : (first (value_at s) (offsets s)).number ≡ 0
  pub choices : (first (choice_at s) (offsets s)).number ≡ 0
  pub fits : 48 * length (offsets s) ≤ room

both : (a b : Checked) → (first_refused a b).number ≡ 0 → (a.number ≡ 0) × (b.number ≡ 0)
both a b h = go (eqb a.number 0) refl h
  where
    go : (t : Bool) → eqb a.number 0 ≡ t → (pick t b a).number ≡ 0 → (a.number ≡ 0) × (b.number ≡ 0)
    go true e h = (eqb-true a.number 0 e, h)
    go false e h = absurd (eqb-false a.number 0 e h)

met : (t : Bool) (n : ℕ) → (n ≡ 0 → ⊥) → (unless t n).number ≡ 0 → t ≡ true
met true n z h = refl
met false n z h = absurd (z h)

pub accepted : (mask s : List ℕ) (room : ℕ) → (checked mask s room).number ≡ 0 → Accepted mask s room
unfolding checked
accepted mask s room e =
    let p1 = both (unless (sized mask) 1) (after1 mask s room) e in
    let p6 = both (unless (leb (length s) 65535) 6) (after6 mask s room) p1.1 in
    let p7 = both (first (format_at s) (offsets s)) (after7 mask s room) p6.1 in
    let p8 = both (unless (eqb (kind_at s 0) 1) 8) (after8 mask s room) p7.1 in
    let p3 = both (first (value_at s) (offsets s)) (after3 mask s room) p8.1 in
    let p4 = both (first (choice_at s) (offsets s)) (after4 mask s room) p3.1 in
    record {
      mask_size = met _ 1 (λ z. omega arith) p1.0;
      script-size = leb-true (length s) 65535 (met _ 6 (λ z. omega arith) p6.0);
      format = p7.0;
      start = eqb-true (kind_at s 0) 1 (met _ 8 (λ z. omega arith) p8.0);
      values = p3.0;
      choices = p4.0;
      fits = leb-true (48 * length (offsets s)) room (met _ 9 (λ z. omega arith) p4.1);
    }

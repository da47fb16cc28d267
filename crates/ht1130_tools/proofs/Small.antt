-- The offset of a script's answer fits two bytes: a record starts inside its script, and a script over 65,535 bytes is refused at offset 0.
-- Assumes nothing.
use Prim.Native.Nat.{ℕ, ◌+◌, ◌*◌, ◌≤◌}
use native.Mathlib.Omega.{arith}
use mathlib.Core.Path.{◌≡◌, refl, sym, ap, subst}
use mathlib.Core.Bool.{Bool, true, false}
use mathlib.Core.List.{List}
use lib.Dec.{leb, eqb}
use lib.ListN.{length}
use borrow.Author.Tests.{leb-true}
use Rattle.isa.specs.Choice.{pick}
use Rattle.rom.specs.Fetching.{sized}
use Rattle.records.specs.Records.{size_at, kind_at, offsets_from, offsets}
use Rattle.records.proofs.Offsets.{each}
use Rattle.script.specs.Check.{refused, fine, unless, first_refused, first, format_at, value_at, choice_at, Checked, checked}
use Rattle.script.specs.Reports.{Applied, applied, leaving}

record Within (n : ℕ) (k : Checked) : Type 0 where
  bound : k.offset ≤ n

picked : (n : ℕ) (t : Bool) (a b : Checked) → Within n a → Within n b → Within n (pick t a b)
picked n true a b p q = p
picked n false a b p q = q

first-inside : (rule : ℕ → ℕ) (s : List ℕ) → Within (length s) (first rule (offsets s))
unfolding first
first-inside rule s =
    each s (λ (at : ℕ) (l : List ℕ). Within (length s) (first rule l)) (λ at h. record { bound = omega arith })
    (λ at h p. picked (length s) (eqb (rule at) 0) (first rule (offsets_from s (at + 4 + size_at s at))) (refused (rule at) at) p (record { bound = omega (arith, h) }))
    0

either : (n : ℕ) (a b : Checked) → Within n a → Within n b → Within n (first_refused a b)
either n a b p q = picked n (eqb a.number 0) b a q p

tested : (n : ℕ) (t : Bool) (k : ℕ) → Within n (unless t k)
tested n t k = picked n t fine (refused k 0) (record { bound = omega arith }) (record { bound = omega arith })

-- past the test of its length a script has at most 65,535 bytes
bounded : (s : List ℕ) (k : Checked) → (length s ≤ 65535 → Within 65535 k) → Within 65535 (first_refused (unless (leb (length s) 65535) 6) k)
bounded s k h = go (leb (length s) 65535) refl
  where
    go : (t : Bool) → leb (length s) 65535 ≡ t → Within 65535 (first_refused (unless t 6) k)
    go true e = h (leb-true (length s) 65535 e)
    go false e = record { bound = omega arith }

rest : (s : List ℕ) (room n : ℕ) → length s ≤ n
    → Within n
    (first_refused (first (format_at s) (offsets s))
    (first_refused (unless (eqb (kind_at s 0) 1) 8)
    (first_refused (first (value_at s) (offsets s))
    (first_refused (first (choice_at s) (offsets s))
    (unless (leb (48 * length (offsets s)) room) 9)))))
rest s room n h =
    either n _ _ (in-script (format_at s)) (either n _ _ (tested n (eqb (kind_at s 0) 1) 8) (either n _ _ (in-script (value_at s)) (either n _ _ (in-script (choice_at s)) (tested n (leb (48 * length (offsets s)) room) 9))))
  where
    in-script : (rule : ℕ → ℕ) → Within n (first rule (offsets s))
    in-script rule = let p = (first-inside rule s).bound in record { bound = omega (arith, p, h) }

pub small : (mask s : List ℕ) (room : ℕ) → (checked mask s room).offset ≤ 65535
unfolding checked
small mask s room = (either 65535 _ _ (tested 65535 (sized mask) 1) (bounded s _ (λ h. rest s room 65535 h))).bound

-- an answer that the check computes, and one that a whole script does
pub small_checked : (mask s : List ℕ) (room : ℕ) (k : Checked) → k ≡ checked mask s room → k.offset ≤ 65535
small_checked mask s room k e = subst (λ (n : ℕ). n ≤ 65535) (sym (ap (λ (x : Checked). x.offset) e)) (small mask s room)

pub small_applied : (mask s old new : List ℕ) (k : Checked) → leaving k new ≡ applied mask s old → k.offset ≤ 65535
unfolding applied
small_applied mask s old new k e = subst (λ (n : ℕ). n ≤ 65535) (sym (ap (λ (a : Applied). a.answer.offset) e)) (small mask s (length old))

-- The bytes of a report, one by one. Assumes nothing.
use Prim.Native.Nat.{ℕ, zero, suc, ◌+◌, ◌<◌}
use native.Mathlib.Nat.{add-zero, add-suc, suc-add, zero-add, le_of_suc-le-suc, not-suc-le-zero}
use mathlib.Core.Path.{◌≡◌, refl, sym, ap, ◌∙◌}
use lib.ListN.{length, get_or}
use Rattle.machine.specs.declared.Machine.{Machine}
use Rattle.machine.specs.Report.{places, reported}

places-at : (n : ℕ) (f : ℕ → ℕ) (s j : ℕ) → j < n → get_or (places n f s) j 0 ≡ f (s + j)
places-at zero f s j h = absurd (not-suc-le-zero h)
places-at (suc n) f s zero h = ap f (sym (add-zero s))
places-at (suc n) f s (suc j) h = places-at n f (suc s) j (le_of_suc-le-suc h) ∙ ap f (suc-add s j ∙ sym (add-suc s j))

pub report-length : (m : Machine) → length (reported m) ≡ 48
report-length m = refl

pub display-at : (f : ℕ → ℕ) (s : ℕ) → s < 32 → f s ≡ get_or (places 32 f 0) s 0
display-at f s h = ap f (sym (zero-add s)) ∙ sym (places-at 32 f 0 s h)

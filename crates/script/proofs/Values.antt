-- The tests on a record's values, as the definition has them. Assumes nothing.
use Prim.Native.Nat.{ℕ, zero, suc, ◌<◌, ◌≤◌}
use native.Mathlib.Omega.{arith}
use mathlib.Core.Path.{◌≡◌, refl}
use mathlib.Core.Bool.{true, false}
use lib.Dec.{ltb}
use lib.ListN.{replicate}
use borrow.Author.Tests.{lt-ltb, le-ltb}
use Rattle.cpu.specs.Range.{nibbles}

-- a test that failed, as the definition has it
pub under : {x : ℕ} → x ≤ 15 → ltb x 16 ≡ true
under {x} h = lt-ltb x 16 (omega arith)

-- an image of one nibble alone
pub filled-good : (n x : ℕ) → x ≤ 15 → nibbles (replicate n x) ≡ true
unfolding nibbles
filled-good zero x h = refl
filled-good (suc n) x h = rw (under h) (filled-good n x h)

pub filled-bad : (n x : ℕ) → 15 < x → nibbles (replicate (suc n) x) ≡ false
unfolding nibbles
filled-bad n x h = rw (le-ltb x 16 h) refl

use Prim.Native.Nat.{ℕ, ◌+◌, ◌<◌, ◌≤◌}
use mathlib.Core.Path.{◌≡◌}
use mathlib.Core.List.{List}
use lib.Bits.{bit_and}
use lib.ListN.{length, take}
use Rattle.datapath.specs.Memory.{loaded}
use Rattle.machine.specs.Report.{places}
use Rattle.machine.proofs.report.put_display.Given as goal

-- the nibbles to come to, by what is shown of one
abbrev pub target : List ℕ → (ℕ → ℕ) → List ℕ
target memory g = places 32 (λ s. g (loaded memory (record { 0 = 0xe0 + s }))) 0

abbrev pub Shows : ℕ → (ℕ → ℕ) → Type 0
Shows lit g = (x : ℕ) → x < 256 → bit_and x lit ≡ g x

abbrev pub invariant-loop-s : goal.invariant-loop-s
invariant-loop-s l = (l.s ≤ 32) × (length l.byte-items ≡ 32) × ((g : ℕ → ℕ) → Shows l.lit g → take l.s l.byte-items ≡ take l.s (target l.memory g))

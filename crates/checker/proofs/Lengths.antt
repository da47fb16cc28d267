-- Where `check_mask` refuses nothing a mask has its length. Assumes nothing.
use Prim.Native.Nat.{ℕ}
use mathlib.Core.Path.{◌≡◌, refl}
use mathlib.Core.Bool.{Bool, true, false}
use mathlib.Core.List.{List}
use Rattle.isa.specs.Choice.{pick}
use Rattle.rom.specs.Fetching.{sized}

pub mask-sized : (mask : List ℕ) → ◌≡◌ {A = ℕ} 0 (pick (sized mask) 0 1) → sized mask ≡ true
mask-sized mask = go (sized mask)
  where
    go : (b : Bool) → ◌≡◌ {A = ℕ} 0 (pick b 0 1) → b ≡ true
    go true e = refl
    go false e = cc

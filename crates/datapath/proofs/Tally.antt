-- Laws of the count of strays: what is counted in two parts is counted at once. Assumes nothing.
use Prim.Native.Nat.{ℕ, zero, suc, ◌+◌}
use mathlib.Core.Path.{◌≡◌, sym, ap, ◌∙◌}
use mathlib.Core.List.{List, [], ◌∷◌, ◌++◌}
use native.Mathlib.Nat.{add_assoc, add-zero, zero-add, suc-add}
use lib.Dec.{ltb}
use Rattle.isa.specs.Choice.{pick}
use Rattle.isa.specs.declared.DataAddress.{DataAddress}
use Rattle.datapath.specs.Alu.{flag}
use Rattle.datapath.specs.Memory.{in_gap, strays, tallied}

-- a, and then b more
pub tallied-add : (count a b : ℕ) → tallied (tallied count a) b ≡ tallied count (a + b)
unfolding tallied
tallied-add count zero b = ap (tallied count) (sym (zero-add b))
tallied-add count (suc a) b = tallied-add (pick (ltb count 65535) (count + 1) count) a b ∙ ap (tallied count) (sym (suc-add a b))

strays-append : (l m : List DataAddress) → strays l + strays m ≡ strays (l ++ m)
unfolding strays
strays-append [] m = zero-add (strays m)
strays-append (a ∷ l) m = add_assoc (flag (in_gap a)) (strays l) (strays m) ∙ ap (λ (n : ℕ). flag (in_gap a) + n) (strays-append l m)

-- one access, and one list after the other
pub tallied_one : (count : ℕ) (a : DataAddress) → tallied count (flag (in_gap a)) ≡ tallied count (strays (a ∷ []))
unfolding strays
tallied_one count a = ap (tallied count) (sym (add-zero (flag (in_gap a))))

pub tallied-append : (count : ℕ) (l m : List DataAddress) → tallied (tallied count (strays l)) (strays m) ≡ tallied count (strays (l ++ m))
tallied-append count l m = tallied-add count (strays l) (strays m) ∙ ap (tallied count) (strays-append l m)

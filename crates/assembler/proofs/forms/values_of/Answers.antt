-- `assembler::forms::values_of` meets its contract. Assumes nothing.
use Rattle.std.proofs.Common.{arith, lit<, ◌^◌, ◌≤◌}
use native.Mathlib.Nat.{pow-le-pow_right}
use Rattle.assembler.proofs.forms.values_of.Goals as goal

pub pow-requires : goal.pow-requires
pow-requires c =
    let d : c.from.result ≤ 3 = omega (arith, c.requires, c.from.ensures) in
    let p : 16 ^ c.from.result ≤ 16 ^ 3 = pow-le-pow_right (lit< tt) d in
    omega (arith, p)

-- `script::hex::hex_line` meets its contract: each character is the line's. Assumes nothing.
use Prim.Native.Nat.{ℕ}
use mathlib.Core.Path.{◌≡◌, refl}
use native.Mathlib.Omega.{arith}
use lib.ListN.{length, get_or}
use borrow.Author.Rules.{rules}
use Rattle.script.specs.Hex.{hex_line}
use Rattle.script.proofs.Hexes.{line-length, all_called}
use Rattle.script.proofs.hex.hex_line.Goals as goal

pub returns : goal.returns
returns c =
    let n : length c.args.report ≡ 48 = search rules in
    all_called _ (λ f. f.0.now ≡ c.args.report) (λ (i : ℕ). get_or (hex_line c.args.report) i 0) (λ p i y q e h. search (rules, e)) c.from_fn.result 97 _ refl
    c.from_fn.ensures.items (hex_line c.args.report) (omega (arith, line-length c.args.report)) (λ i. refl)

-- `script::apply::put_report` meets its contract: the part that is lent has 48 bytes and comes back as the report. Assumes nothing.
use Prim.Native.Nat.{ℕ, ◌+◌, ◌-◌, ◌≤◌}
use mathlib.Core.Path.{◌≡◌, refl, ap₂, ◌∙◌}
use mathlib.Core.List.{List, ◌++◌}
use native.Mathlib.Omega.{arith}
use lib.Dec.{eqb}
use lib.ListN.{length, take}
use Rattle.isa.specs.Choice.{pick}
use borrow.Author.Tests.{eq-eqb}
use borrow.Rule.Slice.PartMut.{mid_of, mid_len, Post-is}
use borrow.Author.Rules.{rules}
use Rattle.script.proofs.apply.put_report.Goals as goal

-- the part has 48 bytes
whole : (at : ℕ) (out : List ℕ) → at + 48 ≤ length out → length (mid_of at (at + 48 - at) out) ≡ 48
whole at out h = mid_len at (at + 48) out h ∙ omega arith

-- so it is written
into : (at : ℕ) (out r : List ℕ) {ys : List ℕ} → at + 48 ≤ length out
    → ys ≡ pick (eqb (length (mid_of at (at + 48 - at) out)) 48) r (mid_of at (at + 48 - at) out) → ys ≡ r
into at out r h e = e ∙ rw (eq-eqb _ 48 (whole at out h)) refl

pub returns : goal.returns
returns c t =
    ap₂ (λ (ys zs : List ℕ). take c.args.at c.args.out.now ++ (ys ++ zs))
    (into c.args.at c.args.out.now _ (search rules) (c.write_report.ensures t))
    (Post-is c.args.at (c.args.at + 48) c.args.out.now (omega arith))

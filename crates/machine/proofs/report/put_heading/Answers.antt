-- `machine::report::put_heading` meets its contract: a heading has 16 bytes. Assumes nothing.
use Prim.Native.Nat.{ℕ}
use mathlib.Core.Path.{sym, ap, ◌∙◌}
use mathlib.Core.List.{List}
use native.Mathlib.Omega.{arith}
use lib.ListN.{length}
use lib.Seq.{length-take-le}
use Rattle.machine.proofs.report.put_heading.Goals as goal

pub copy_from_slice-requires : goal.copy_from_slice-requires
copy_from_slice-requires c = length-take-le 16 c.args.out.now (omega (arith, c.requires)) ∙ sym (ap (λ (l : List ℕ). length l) c.heading.ensures)

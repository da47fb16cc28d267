-- `assembler::passes::mark` meets its contract. Assumes nothing.
use Prim.Native.Nat.{ℕ, ◌+◌, ◌-◌}
use mathlib.Core.Path.{◌≡◌, sym, ap, ap₂, ◌∙◌}
use mathlib.Core.Bool.{Bool, true}
use mathlib.Core.List.{List, ◌++◌, append_assoc}
use native.Mathlib.Omega.{arith}
use borrow.Rule.Slice.PartMut.{Post-is, mid_len, mid_of}
use lib.ListN.{drop, length, length-replicate, replicate, take}
use lib.Seq.{sets-eq}
use Rattle.assembler.proofs.passes.mark.Goals as goal

pub returns : goal.returns
returns c =
    let used = c.args.used.now in
    let at = c.args.at in
    let end = at + c.args.size in
    let n = length-replicate {A = Bool} c.args.size true in
    let m : length (mid_of at (end - at) used) ≡ c.args.size = mid_len at end used c.requires ∙ omega arith in
    let f = c.fill.ensures.after (λ y h. h) ∙ ap (λ (k : ℕ). replicate k true) m in
    ap₂ (λ (ys rest : List Bool). take at used ++ (ys ++ rest)) f (Post-is at end used (omega arith) ∙ ap (λ (k : ℕ). drop (at + k) used) (sym n))
    ∙ sym (append_assoc (take at used) _ _) ∙ sym (sets-eq (replicate c.args.size true) used at (omega (arith, n, c.requires)))

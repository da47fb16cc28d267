-- `checker::check::pack` meets its contract: the flags of an address are its part of the flags. Assumes nothing.
use Prim.Native.Nat.{◌+◌, ◌*◌, ◌<◌}
use native.Mathlib.Omega.{arith}
use mathlib.Core.Path.{◌∙◌}
use mathlib.Core.List.{[]}
use lib.ListN.{length, get_or, length-set}
use lib.Seq.{get_or-set_same, get_or-set_other}
use Rattle.std.proofs.Common.{below_more}
use Rattle.checker.proofs.Chunks.{flags-at}
use Rattle.checker.proofs.check.pack.Goals as goal

pub loop-address-preserved : goal.loop-address-preserved
loop-address-preserved c =
    let at = c.loop-address.address in
    let marks = c.loop-address.marks in
    let f = flags-at _ c.args.seen.now c.as_chunks.ensures.front c.as_chunks.ensures.front_len at c.loop-address-test.true in
    let size = c.loop-address.invariant.0 in
    let inside : at < length marks = omega (arith, size, c.loop-address-test.true, c.as_chunks.ensures.front_len) in
    let part = get_or c.as_chunks.result.0.now at [] in
    let mark = get_or part 0 0 + get_or part 1 0 * 2 + get_or part 2 0 * 4 in (
      length-set marks at mark ∙ size,
      below_more _ _ (λ k h. get_or-set_other marks at k mark 0 (λ e. omega arith) ∙ c.loop-address.invariant.1 k h)
          (get_or-set_same marks at mark 0 inside ∙ omega (arith, f.0, f.1, f.2)),
    )

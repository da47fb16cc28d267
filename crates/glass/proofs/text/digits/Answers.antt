-- `glass::text::digits` meets its contract.
use Rattle.std.proofs.Common.{◌/◌, ◌^◌, ◌<◌, arith, add-one}
use lib.Dec.{lit<}
use native.Mathlib.Nat.{mod-lt}
use Rattle.glass.proofs.Texts.{more, wider, narrow}
use Rattle.glass.proofs.text.digits.Goals as goal

pub digit-text-requires-clause-room : goal.digit-text-requires-clause-room
digit-text-requires-clause-room c = narrow c.loop-after.text c.loop-after.after 3 (omega arith) c.loop-after.invariant.1

pub loop-after-preserved : goal.loop-after-preserved
loop-after-preserved c =
    let x = c.args.figure in
    let k : c.numeral.result < 10 = rw c.numeral.ensures (mod-lt (x.size / 10 ^ c.loop-after.after) (lit< tt)) in
    rw (add-one c.loop-after.after) (
      more x.size x.places _ _ _ _ _ c.numeral.ensures c.pointed.ensures c.loop-after.invariant.0 c.digit-text.ensures,
      wider _ _ _ _ _ c.loop-after.invariant.1 k c.digit-text.ensures,
    )

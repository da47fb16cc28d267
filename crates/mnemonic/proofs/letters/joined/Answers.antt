-- `mnemonic::letters::joined` meets its contract: two writes over zeros. Assumes nothing.
use mathlib.Core.Path.{sym}
use native.Mathlib.Omega.{arith}
use lib.ListN.{length-append}
use Rattle.mnemonic.proofs.Padding.{written}
use Rattle.mnemonic.proofs.letters.joined.Goals as goal

pub returns : goal.returns
returns c =
    record {
      bytes = written 16 _ _ _ _ c.copy_from_slice.ensures.after c.copy_from_slice-2.ensures.after c.requires;
      count = sym (length-append c.args.front.now c.args.back.now);
      fits = omega arith;
    }

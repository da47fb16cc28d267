-- `assembler::assemble::assemble` meets its contract. Assumes nothing.
use mathlib.Core.Path.{◌≡◌, refl}
use borrow.Author.Tests.{eq-eqb, le-ltb, lt-ltb, ne_eqb}
use lib.ListN.{length}
use Rattle.assembler.specs.Forms.{rom_size}
use Rattle.assembler.specs.Program.{answer_to, answered, assembled, program}
use Rattle.assembler.proofs.Judging.{answered-as, refusing}
use Rattle.assembler.proofs.assemble.assemble.Goals as goal

-- the result is not 4,096 bytes
pub returns-then-out-ne-MASK : goal.returns-then-out-ne-MASK
unfolding answered
returns-then-out-ne-MASK c = refusing (answered c.args.text.now c.args.out.now) c.args.out.now _ 2 refl
    (rw (ne_eqb (length c.args.out.now) rom_size c.if-out-ne-MASK.true) refl)

-- the text is too long
pub returns-then-text-gt65535 : goal.returns-then-text-gt65535
unfolding answered assembled
returns-then-text-gt65535 c = refusing (answered c.args.text.now c.args.out.now) c.args.out.now _ 12 refl
    (rw (eq-eqb (length c.args.out.now) rom_size c.if-out-ne-MASK.false, lt-ltb 65535 (length c.args.text.now) c.if-text-gt65535.true) refl)

pub returns : goal.returns
unfolding answered assembled
returns c = let e : answered c.args.text.now c.args.out.now ≡ answer_to (program c.args.text.now)
    = rw (
      eq-eqb (length c.args.out.now) rom_size
          c.if-out-ne-MASK.false,
      le-ltb 65535
          (length c.args.text.now) c.if-text-gt65535.false,
    ) refl in
    answered-as e c.judged.ensures

-- `assembler::lines::heading` meets its contract. What a turn does stands in Lining. Assumes nothing.
use mathlib.Core.Path.{sym, ◌∙◌}
use native.Mathlib.Omega.{arith}
use Rattle.operand.proofs.Lexing.{lexed}
use Rattle.assembler.proofs.Lining.{head-long, head-moves, head-on, headed, heads, key-small}
use Rattle.assembler.proofs.lines.heading.Goals as goal

pub returns-in_default : goal.returns-in_default
returns-in_default c = headed c.loop-number.invariant (lexed _ _ c.loop-number.invariant.within c.token-t.ensures) (sym c.leading.ensures.number ∙ c.in_default.is)

pub returns-then-count-eq-LONGEST : goal.returns-then-count-eq-LONGEST
returns-then-count-eq-LONGEST c = head-long c.loop-number.invariant (lexed _ _ c.loop-number.invariant.within c.token-t.ensures)
    (sym c.leading.ensures.number ∙ c.in-Some.is) c.if-count-eq-LONGEST.true

pub overflow_mul-key : goal.overflow_mul-key
overflow_mul-key c = omega (arith, key-small c.loop-number.invariant (omega (arith, c.loop-number.invariant.most)))

pub overflow_add-key : goal.overflow_add-key
overflow_add-key c = omega (arith, c.in-Some.ensures.small, key-small c.loop-number.invariant (omega (arith, c.loop-number.invariant.most)))

pub loop-number-smaller : goal.loop-number-smaller
loop-number-smaller c = let x = lexed c.args.text.now c.loop-number.i c.loop-number.invariant.within c.token-t.ensures in
    omega (arith, x.within, head-moves c.loop-number.invariant x (sym c.leading.ensures.number ∙ c.in-Some.is))

pub loop-number-preserved : goal.loop-number-preserved
loop-number-preserved c = head-on c.loop-number.invariant (lexed _ _ c.loop-number.invariant.within c.token-t.ensures)
    (sym c.leading.ensures.number ∙ c.in-Some.is) (omega (arith, c.loop-number.invariant.most))

pub loop-number-init : goal.loop-number-init
loop-number-init c = heads c.requires

pub overflow_add-count : goal.overflow_add-count
overflow_add-count c = omega (arith, c.loop-number.invariant.most)

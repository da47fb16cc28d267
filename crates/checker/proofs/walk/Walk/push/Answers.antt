-- `checker::walk::Walk::push` meets its contract: the two ways are the definition's two cases, and a code that is not found yet has a place in the
-- queue. Assumes nothing.
use Rattle.reach.specs.Walk.{work}
use Rattle.reach.proofs.Count.{push-new, push-old, room-left}
use Rattle.checker.proofs.walk.Walk.push.Goals as goal

pub returns-then-self-at-ne0-clause-found : goal.returns-then-self-at-ne0-clause-found
returns-then-self-at-ne0-clause-found c =
    push-old (work c.args.self.now.seen c.args.self.now.queue c.args.tail) c.args.code c.if-self-at-ne0.true

pub bounds-self-end : goal.bounds-self-end
bounds-self-end c =
    room-left c.args.self.now.seen c.args.tail c.args.code c.requires.room c.requires.code_lt_pairs c.if-self-at-ne0.false

pub returns-clause-found : goal.returns-clause-found
returns-clause-found c =
    push-new (work c.args.self.now.seen c.args.self.now.queue c.args.tail) c.args.code c.if-self-at-ne0.false

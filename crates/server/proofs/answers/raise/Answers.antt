-- Each way through the comparison of the heads. Assumes nothing.
use Rattle.server.proofs.Raising.{raise-higher, raise-other}
use Rattle.server.proofs.answers.raise.Goals as goal

pub returns-then-below : goal.returns-then-below
returns-then-below c =
    raise-higher c.args.memory.now c.args.candidate.now c.rest.ensures c.head_at-latest.ensures c.head_at-next.ensures c.below.ensures
    c.if-below.true c.put.ensures

pub returns-else-below : goal.returns-else-below
returns-else-below c =
    raise-other c.args.memory.now c.args.candidate.now c.rest.ensures c.head_at-latest.ensures c.head_at-next.ensures c.below.ensures
    c.if-below.false

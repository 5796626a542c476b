-- One law for each arm. Assumes nothing.
use Rattle.server.proofs.Taking.{barred-reader, barred-clock, barred-stamp, barred-reply}
use Rattle.server.proofs.take.barred.Goals as goal

pub returns-in-Collect : goal.returns-in-Collect
returns-in-Collect c packet label = barred-reader c.args.passed.head packet c.requires c.in-Collect.is

pub returns-in-Clock : goal.returns-in-Clock
returns-in-Clock c packet label = rw c.from.ensures (barred-clock c.args.passed.head packet c.requires c.in-Clock.is)

pub returns-in-Store : goal.returns-in-Store
returns-in-Store c packet label = barred-stamp c.args.passed.head packet c.requires c.in-Store.is label c.foreign.ensures

pub returns-in-ClockReply : goal.returns-in-ClockReply
returns-in-ClockReply c packet label = barred-reply c.args.passed.head packet c.requires c.in-ClockReply.is

use Rattle.std.proofs.Common.{arith}
use Rattle.cluster.specs.Config.{shelf}
use Rattle.wire.proofs.Lists.{list-took, list_stops, list_breaks}
use Rattle.wire.proofs.parts.candidates_field.Goals as goal

pub overflow_cast-servers : goal.overflow_cast-servers
unfolding shelf
overflow_cast-servers c = omega (arith, c.servers.ensures)

pub returns-in_err-n : goal.returns-in_err-n
returns-in_err-n c = rw c.from_residual.ensures (list_stops (shelf c.args.t) c.servers.result c.servers.ensures c.in_err-n.ensures)

pub returns-in_err-c2 : goal.returns-in_err-c2
returns-in_err-c2 c =
    rw c.from_residual-in_err-c2.ensures
    (list_breaks (shelf c.args.t) c.servers.result c.servers.ensures c.in_ok-n.ensures c.in_err-c2.ensures)

pub returns : goal.returns
returns c = list-took (shelf c.args.t) c.servers.result c.servers.ensures c.in_ok-n.ensures c.in_ok-c2.ensures

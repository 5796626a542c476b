-- It is document 01's number of servers. Nothing is assumed.
use Rattle.std.proofs.Common.{arith}
use Rattle.cluster.specs.Config.{shelf}
use Rattle.decide.proofs.sizes.servers.Goals as goal

pub returns : goal.returns
unfolding shelf
returns c = (c.servers.ensures, omega (arith, c.servers.ensures))

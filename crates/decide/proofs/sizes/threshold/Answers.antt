-- It is document 01's number of fragments that give a content back. Nothing is assumed.
use Rattle.std.proofs.Common.{arith}
use Rattle.cluster.specs.Config.{shelf}
use Rattle.decide.proofs.sizes.threshold.Goals as goal

pub returns : goal.returns
unfolding shelf
returns c = (c.threshold.ensures, omega (arith, c.threshold.ensures))

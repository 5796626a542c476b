-- By the ranges. Assumes nothing.
use Rattle.std.proofs.Common.{refl, arith}
use Rattle.drill.specs.Area.{server_at_def}
use Rattle.drill.proofs.servers.server_at.Goals as goal

pub returns : goal.returns
unfolding server_at_def
returns c = (refl, omega arith)

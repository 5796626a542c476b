-- By the ranges. Assumes nothing.
use Rattle.std.proofs.Common.{refl, arith}
use Rattle.drill.specs.Area.{client_at_def}
use Rattle.drill.proofs.area.client_at.Goals as goal

pub returns : goal.returns
unfolding client_at_def
returns c = (refl, omega arith)

-- Past the small state. Assumes nothing.
use Rattle.std.proofs.Common.{arith}
use Rattle.drill.proofs.Lending.{kept-place}
use Rattle.drill.proofs.area.kept_at.Goals as goal

pub returns : goal.returns
returns c = (kept-place c.args.client c.client_at.ensures.0, omega arith)

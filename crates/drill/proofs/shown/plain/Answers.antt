-- By the answer. Assumes nothing.
use Rattle.std.proofs.Common.{refl}
use Rattle.drill.specs.Steps.{shown_as}
use Rattle.drill.proofs.shown.plain.Goals as goal

pub returns : goal.returns
unfolding shown_as
returns c = rw c.from.ensures refl

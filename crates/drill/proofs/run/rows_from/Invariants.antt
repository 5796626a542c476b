-- The rows of the lines before the place stand in the output. Assumes nothing.
use Rattle.std.proofs.Common.{◌-◌, length}
use Rattle.drill.proofs.Running.{Going}
use Rattle.drill.proofs.run.rows_from.Given as goal

abbrev pub invariant-loop-at : goal.invariant-loop-at
invariant-loop-at l = Going l.fn.t l.fn.sheet l.fn.out l.fn.from l.out l.work l.at l.n l.begun l.done

abbrev pub decreases-loop-at : goal.decreases-loop-at
decreases-loop-at l = length l.fn.sheet - l.at

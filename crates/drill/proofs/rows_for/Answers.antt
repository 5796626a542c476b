-- By the test. Assumes nothing.
use Rattle.std.proofs.Common.{arith}
use Rattle.std.proofs.lemmas.Grind.{common_steps}
use Rattle.drill.specs.Listing.{rows_for_def}
use Rattle.drill.proofs.rows_for.Goals as goal

pub returns : goal.returns
unfolding rows_for_def
returns c = grind (arith, common_steps)

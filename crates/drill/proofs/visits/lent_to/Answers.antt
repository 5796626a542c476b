-- Zeros above client 8. Assumes nothing.
use Rattle.std.proofs.Common.{refl}
use Rattle.cluster.specs.Ranges.{top_writer}
use Rattle.drill.specs.Steps.{drill_shelf, lent_to}
use Rattle.drill.proofs.Stepping.{is_in, is-out}
use Rattle.drill.proofs.Visiting.{inside}
use Rattle.drill.proofs.visits.lent_to.Goals as goal

pub returns-then-outside : goal.returns-then-outside
unfolding drill_shelf lent_to
returns-then-outside c = rw (is-out 1 top_writer c.args.client c.outside.ensures c.if-outside.true) refl

pub returns : goal.returns
unfolding drill_shelf lent_to
returns c = rw (c.server_keys.ensures, inside 1 top_writer c.args.client (is_in 1 top_writer c.args.client c.outside.ensures c.if-outside.false)) refl

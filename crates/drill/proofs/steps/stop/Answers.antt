-- Refused, or the client's small state changes. Assumes nothing.
use Rattle.std.proofs.Common.{[]}
use Rattle.cluster.specs.Ranges.{top_client}
use Rattle.drill.proofs.Answers.{shown-back}
use Rattle.drill.proofs.Stepping.{is_in, is-out, stop-stays, stop_moves}
use Rattle.drill.proofs.steps.stop.Goals as goal

pub returns-then-outside : goal.returns-then-outside
returns-then-outside c =
    stop-stays c.args.t c.args.client c.requires.0 c.args.work.now (is-out 1 top_client c.args.client c.outside.ensures c.if-outside.true)
    (shown-back 5 [])

pub returns : goal.returns
returns c =
    stop_moves c.args.t c.args.client c.requires.0 c.args.work.now (is_in 1 top_client c.args.client c.outside.ensures c.if-outside.false) _
    c.give_up.ensures

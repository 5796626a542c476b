-- No client, or its round. Assumes nothing.
use Rattle.std.proofs.Common.{ap}
use Rattle.cluster.specs.Ranges.{top_client}
use Rattle.protocol.specs.declared.Call.{Call}
use Rattle.drill.proofs.Turning.{round_none, round_some}
use Rattle.drill.proofs.Stepping.{is_in, is-out}
use Rattle.drill.proofs.steps.round_of.Goals as goal

pub returns-then-outside : goal.returns-then-outside
returns-then-outside c = round_none c.args.work.now c.args.client (is-out 1 top_client c.args.client c.outside.ensures c.if-outside.true)

pub returns : goal.returns
returns c =
    rw c.from.ensures (round_some c.args.work.now c.args.client (is_in 1 top_client c.args.client c.outside.ensures c.if-outside.false)
    (ap (λ (z : Call). z.tally.round) c.call_of.ensures))

-- Refused, or a beginning on the client's slot. Assumes nothing.
use Rattle.std.proofs.Common.{refl}
use Rattle.cluster.specs.Ranges.{top_client}
use Rattle.drill.proofs.Stepping.{is_in, is-out, read_stays, read_moves}
use Rattle.drill.proofs.steps.read.Goals as goal

pub returns-then-outside : goal.returns-then-outside
returns-then-outside c =
    read_stays c.args.t c.args.client c.requires.0 c.args.work.now (is-out 1 top_client c.args.client c.outside.ensures c.if-outside.true) refl

pub returns : goal.returns
returns c =
    read_moves c.args.t c.args.client c.requires.0 c.args.work.now (is_in 1 top_client c.args.client c.outside.ensures c.if-outside.false) _
    c.begin_read.ensures

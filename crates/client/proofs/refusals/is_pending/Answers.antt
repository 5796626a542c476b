-- The number has a round. Nothing is assumed.
use Rattle.std.proofs.Common.{◌∙◌, ap}
use Rattle.std.specs.Option.{is_some}
use Rattle.client.proofs.Tests.{hand-told}
use Rattle.client.proofs.refusals.is_pending.Goals as goal

pub returns : goal.returns
returns c = c.is_some.ensures ∙ ap is_some c.of.ensures.value ∙ hand-told c.args.call

-- The number's round awaits what the state does. Nothing is assumed.
use Rattle.std.proofs.Common.{◌∙◌, ap}
use Rattle.client.specs.Steps.{awaited_by}
use Rattle.client.proofs.Tests.{awaited-told}
use Rattle.client.proofs.refusals.pending.Goals as goal

pub returns-clause-kind : goal.returns-clause-kind
returns-clause-kind c = ap awaited_by c.of.ensures.value ∙ awaited-told c.args.call

-- The first test that applies gives the refusal. Nothing is assumed.
use Rattle.std.proofs.Common.{◌∙◌, sym, ap, refl}
use Rattle.cluster.specs.Config.{shelf}
use Rattle.cluster.specs.Refusals.{number_told}
use Rattle.protocol.specs.Client.{abort_refusal_def}
use Rattle.client.proofs.Tests.{hand_refused}
use Rattle.client.proofs.refusals.round_to_abort.Goals as goal

pub returns-then-outside-clause-refusal : goal.returns-then-outside-clause-refusal
unfolding abort_refusal_def shelf
returns-then-outside-clause-refusal c = rw (sym c.outside.ensures ∙ c.if-outside.true) refl

pub returns-then-bad_client-clause-refusal : goal.returns-then-bad_client-clause-refusal
unfolding abort_refusal_def shelf
returns-then-bad_client-clause-refusal c = rw (sym c.outside.ensures ∙ c.if-outside.false, rw c.pending-pending.ensures.kind at (sym c.bad_client.ensures ∙ c.if-bad_client.true)) refl

pub returns-clause-refusal : goal.returns-clause-refusal
unfolding abort_refusal_def shelf
returns-clause-refusal c =
    ap number_told c.ok_or.ensures.value ∙ hand_refused c.pending-pending.result
    ∙ rw (sym c.outside.ensures ∙ c.if-outside.false, rw c.pending-pending.ensures.kind at (sym c.bad_client.ensures ∙ c.if-bad_client.false), c.pending-pending.ensures.kind) refl

-- Kept bytes of another length, the refusals before the packet's head, or the reply. Nothing is assumed.
use Rattle.std.proofs.Common.{◌≡◌, ◌∙◌, sym, true, false, rules}
use Rattle.std.specs.Prelude.{Err}
use Rattle.cluster.specs.declared.Refusal.TheVariants as refusals
use Rattle.cluster.specs.Config.{shelf}
use Rattle.protocol.specs.Client.{bad_faults}
use Rattle.client.proofs.TakeTests.{take-faults, take-reader, take-length, taken_in, takes-refused}
use Rattle.client.proofs.taking.take_in.Goals as goal

pub returns-then-kept-ne-KEPT : goal.returns-then-kept-ne-KEPT
returns-then-kept-ne-KEPT c =
    let a = c.args in
    sym (take-length a.party.t a.party.client a.writers.now a.keys.now a.call a.kept.now a.reply.now a.out.now c.if-kept-ne-KEPT.true)

pub returns-then-outside : goal.returns-then-outside
unfolding shelf
returns-then-outside c =
    let a = c.args in
    let w : bad_faults (shelf a.party.t) ≡ true = sym c.outside.ensures ∙ c.if-outside.true in
    taken_in a.party.t a.party.client a.writers.now a.keys.now a.call a.kept.now a.reply.now a.out.now (Err refusals.Faults) a.kept.now a.out.now
    (search rules) c.if-kept-ne-KEPT.false
    (takes-refused a.party.t a.party.client a.writers.now a.keys.now a.call a.kept.now a.reply.now a.out.now refusals.Faults
    (take-faults a.party.t a.party.client a.writers.now a.keys.now a.call a.kept.now a.reply.now a.out.now w))

pub returns-then-bad_client : goal.returns-then-bad_client
unfolding shelf
returns-then-bad_client c =
    let a = c.args in
    let w : bad_faults (shelf a.party.t) ≡ false = sym c.outside.ensures ∙ c.if-outside.false in
    let v = rw c.pending.ensures.kind at (sym c.bad_client.ensures ∙ c.if-bad_client.true) in
    taken_in a.party.t a.party.client a.writers.now a.keys.now a.call a.kept.now a.reply.now a.out.now (Err refusals.Client) a.kept.now a.out.now
    (search rules) c.if-kept-ne-KEPT.false
    (takes-refused a.party.t a.party.client a.writers.now a.keys.now a.call a.kept.now a.reply.now a.out.now refusals.Client
    (take-reader a.party.t a.party.client a.writers.now a.keys.now a.call a.kept.now a.reply.now a.out.now w v))

pub take_reply-requires : goal.take_reply-requires
unfolding shelf
take_reply-requires c = (
  sym c.outside.ensures ∙ c.if-outside.false,
  (rw c.pending.ensures.kind at (sym c.bad_client.ensures ∙ c.if-bad_client.false), c.if-kept-ne-KEPT.false),
)

pub returns : goal.returns
returns c =
    let a = c.args in
    taken_in a.party.t a.party.client a.writers.now a.keys.now a.call a.kept.now a.reply.now a.out.now c.take_reply.result _ _ (search rules)
    c.if-kept-ne-KEPT.false c.take_reply.ensures

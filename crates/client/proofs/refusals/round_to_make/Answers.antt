-- The first test that applies gives the refusal. Nothing is assumed.
use Rattle.std.proofs.Common.{◌≡◌, ◌∙◌, sym, refl, ap, ℕ, arith}
use Rattle.std.proofs.lemmas.Result.{err_from_is_err_and}
use lib.Dec.{eqb}
use borrow.Author.Tests.{lt-ltb, le-ltb}
use Rattle.cluster.specs.declared.Refusal.TheVariants as refusals
use Rattle.cluster.specs.Config.{shelf}
use Rattle.cluster.specs.Ranges.{packet_room}
use Rattle.protocol.specs.declared.rounds.Round.{Round}
use Rattle.protocol.specs.Client.{make_refusal_def}
use Rattle.protocol.specs.ClientBytes.{awaited}
use Rattle.client.specs.Steps.{awaited_by}
use Rattle.client.proofs.Tests.{same_err, awaits_some}
use Rattle.client.proofs.refusals.round_to_make.Goals as goal

pub returns-then-outside-clause-refusal : goal.returns-then-outside-clause-refusal
unfolding make_refusal_def shelf
returns-then-outside-clause-refusal c = rw (sym c.outside.ensures ∙ c.if-outside.true) refl

pub returns-then-outside-2-clause-refusal : goal.returns-then-outside-2-clause-refusal
unfolding make_refusal_def shelf
returns-then-outside-2-clause-refusal c = rw (sym c.outside.ensures ∙ c.if-outside.false, rw c.servers.ensures at (sym c.outside-2.ensures ∙ c.if-outside-2.true)) refl

pub returns-then-bad_client-clause-refusal : goal.returns-then-bad_client-clause-refusal
unfolding make_refusal_def shelf
returns-then-bad_client-clause-refusal c = rw (sym c.outside.ensures ∙ c.if-outside.false, rw c.servers.ensures at (sym c.outside-2.ensures ∙ c.if-outside-2.false), rw c.pending-pending.ensures.kind at (sym c.bad_client.ensures ∙ c.if-bad_client.true)) refl

pub returns-in_err-round-clause-refusal : goal.returns-in_err-round-clause-refusal
unfolding make_refusal_def shelf
returns-in_err-round-clause-refusal c =
    let p = err_from_is_err_and c.from_residual.result c.from_residual.ensures.1 in
    let e = same_err {T = Round} _ refusals.Hand (rw c.in_err-round.ensures.ok_part at c.in_err-round.ensures.value) in
    let z : awaited c.args.call ≡ 0 = sym c.pending-pending.ensures.kind ∙ ap awaited_by c.in_err-round.ensures.ok_part in
    rw (p.1, p.2, e, sym c.outside.ensures ∙ c.if-outside.false, rw c.servers.ensures at (sym c.outside-2.ensures ∙ c.if-outside-2.false), rw c.pending-pending.ensures.kind at (sym c.bad_client.ensures ∙ c.if-bad_client.false), z) refl

pub returns-then-room-lt-PACKET_ROOM-clause-refusal : goal.returns-then-room-lt-PACKET_ROOM-clause-refusal
unfolding make_refusal_def shelf
returns-then-room-lt-PACKET_ROOM-clause-refusal c = rw (sym c.outside.ensures ∙ c.if-outside.false, rw c.servers.ensures at (sym c.outside-2.ensures ∙ c.if-outside-2.false), rw c.pending-pending.ensures.kind at (sym c.bad_client.ensures ∙ c.if-bad_client.false), ap (λ (k : ℕ). eqb k 0) (sym c.pending-pending.ensures.kind ∙ ap awaited_by c.in_ok-round.ensures.ok_part) ∙ awaits_some c.in_ok-round.round, lt-ltb c.args.room packet_room (omega arith)) refl

pub returns-clause-refusal : goal.returns-clause-refusal
unfolding make_refusal_def shelf
returns-clause-refusal c = rw (sym c.outside.ensures ∙ c.if-outside.false, rw c.servers.ensures at (sym c.outside-2.ensures ∙ c.if-outside-2.false), rw c.pending-pending.ensures.kind at (sym c.bad_client.ensures ∙ c.if-bad_client.false), ap (λ (k : ℕ). eqb k 0) (sym c.pending-pending.ensures.kind ∙ ap awaited_by c.in_ok-round.ensures.ok_part) ∙ awaits_some c.in_ok-round.round, le-ltb c.args.room packet_room (omega arith)) refl

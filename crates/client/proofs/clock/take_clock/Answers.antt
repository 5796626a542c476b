-- The highest number, the refusals, and then the end of the round or the call with one more reply. Nothing is assumed.
use Rattle.std.proofs.Common.{◌≡◌, ◌∙◌, refl, ap, List, [], drop, arith, ℕ}
use Rattle.std.proofs.lemmas.Result.{err_from_is_err_and}
use Rattle.cluster.specs.Config.{shelf}
use Rattle.protocol.specs.declared.Call.{Call}
use Rattle.protocol.specs.declared.Label.{Label}
use Rattle.protocol.specs.Client.{higher}
use Rattle.protocol.specs.Packet.{head_size}
use Rattle.protocol.specs.Primitives.{real}
use Rattle.protocol.specs.Values.{label_of}
use Rattle.protocol.specs.View.{stamp_at_def}
use Rattle.wire.specs.Places.{body_at, body_label}
use Rattle.client.specs.Rounds.{ends}
use Rattle.client.proofs.TakenReplies.{body_at_lem}
use Rattle.client.proofs.ReadyRanges.{ready-faults, ready-client, ready-server}
use Rattle.client.proofs.Clocked.{clock-long, clock-refused, clock-below, clock-noted, clock-ended}
use Rattle.client.proofs.Tallies.{ends_by}
use Rattle.client.proofs.clock.take_clock.Goals as goal

pub higher-high-requires : goal.higher-high-requires
unfolding body_at body_label
higher-high-requires c =
    let a = c.args in
    let p = c.requires in
    let told : a.passed.label ≡ label_of (stamp_at_def (drop head_size a.reply.now)) =
    p.1.1.1.label ∙ ap body_label (body_at_lem a.party.t a.party.client [] (λ i. []) a.call [] [] a.reply.now a.passed.head p.0 1 p.1.0 refl) in (
      rw c.rest-body.ensures (omega (
        arith,
        clock-long a.party.t a.party.client a.call a.reply.now a.passed.head p.0
            (λ k. (c.type_inv.reply k).fits) p.1.0,
      )),
      rw c.rest-body.ensures (ap (λ (l : Label). l.number) told),
    )

pub note_reply-noted-requires : goal.note_reply-noted-requires
note_reply-noted-requires c =
    let a = c.args in (
      (ready-faults a.party.t a.party.client a.call a.reply.now a.passed.head c.requires.0).1,
      rw c.from.ensures (ready-server a.party.t a.party.client a.call a.reply.now a.passed.head c.requires.0),
    )

pub is_full-ends-requires : goal.is_full-ends-requires
is_full-ends-requires c = let a = c.args in (ready-faults a.party.t a.party.client a.call a.reply.now a.passed.head c.requires.0).1

pub returns-in_err-clock_refusal : goal.returns-in_err-clock_refusal
returns-in_err-clock_refusal c =
    let a = c.args in
    let p = c.requires in
    let y = p.0 in
    let high_is : c.higher-high.result ≡ higher real a.writers.now a.call.high (stamp_at_def (drop head_size a.reply.now)) =
    c.higher-high.ensures ∙ ap (λ (d : List ℕ). higher real a.writers.now a.call.high (stamp_at_def d)) c.rest-body.ensures in
    let ended : ends (shelf a.party.t) a.call a.passed.head.server ≡ c.is_full-ends.result =
    ends_by a.party.t a.call a.passed.head.server _ (ap (λ (z : Call). z.tally) (rw c.from.ensures at c.note_reply-noted.ensures)) _ _ c.is_full-ends.ensures refl in
    let p = err_from_is_err_and c.from_residual.result c.from_residual.ensures.1 in
    λ output l. rw (p.1, p.2) (clock-refused a.party.t a.party.client a.call a.reply.now a.passed.head y a.writers.now a.keys.now a.kept.now output
    c.requires.1.0 c.in_err-clock_refusal.field-0.0 a.room c.higher-high.result (rw ended c.in_err-clock_refusal.ensures) high_is l)

pub end_clock-requires : goal.end_clock-requires
end_clock-requires c =
    let a = c.args in
    let p = c.requires in
    let y = p.0 in
    let high_is : c.higher-high.result ≡ higher real a.writers.now a.call.high (stamp_at_def (drop head_size a.reply.now)) =
    c.higher-high.ensures ∙ ap (λ (d : List ℕ). higher real a.writers.now a.call.high (stamp_at_def d)) c.rest-body.ensures in
    let ended : ends (shelf a.party.t) a.call a.passed.head.server ≡ c.is_full-ends.result =
    ends_by a.party.t a.call a.passed.head.server _ (ap (λ (z : Call). z.tally) (rw c.from.ensures at c.note_reply-noted.ensures)) _ _ c.is_full-ends.ensures refl in
    let f = ready-faults a.party.t a.party.client a.call a.reply.now a.passed.head y in
    let b = clock-below a.party.t a.party.client a.call a.reply.now a.passed.head y a.writers.now a.keys.now a.kept.now [] p.1.0 a.room
    c.higher-high.result (rw ended c.in_ok-clock_refusal.ensures) high_is (ended ∙ c.if-ends.true) in
    (f.0, (f.1, ((ready-client a.party.t a.party.client a.call a.reply.now a.passed.head y).1, (p.1.1.0, b))))

pub returns-then-ends : goal.returns-then-ends
returns-then-ends c =
    let a = c.args in
    let p = c.requires in
    let y = p.0 in
    let high_is : c.higher-high.result ≡ higher real a.writers.now a.call.high (stamp_at_def (drop head_size a.reply.now)) =
    c.higher-high.ensures ∙ ap (λ (d : List ℕ). higher real a.writers.now a.call.high (stamp_at_def d)) c.rest-body.ensures in
    let ended : ends (shelf a.party.t) a.call a.passed.head.server ≡ c.is_full-ends.result =
    ends_by a.party.t a.call a.passed.head.server _ (ap (λ (z : Call). z.tally) (rw c.from.ensures at c.note_reply-noted.ensures)) _ _ c.is_full-ends.ensures refl in
    λ output l. rw (c.end_clock.ensures.0, c.end_clock.ensures.1)
    (clock-ended a.party.t a.party.client a.call a.reply.now a.passed.head y a.writers.now a.keys.now a.kept.now output p.1.0 a.room
    c.higher-high.result (rw ended c.in_ok-clock_refusal.ensures) high_is l (ended ∙ c.if-ends.true))

pub returns : goal.returns
returns c =
    let a = c.args in
    let p = c.requires in
    let y = p.0 in
    let high_is : c.higher-high.result ≡ higher real a.writers.now a.call.high (stamp_at_def (drop head_size a.reply.now)) =
    c.higher-high.ensures ∙ ap (λ (d : List ℕ). higher real a.writers.now a.call.high (stamp_at_def d)) c.rest-body.ensures in
    let ended : ends (shelf a.party.t) a.call a.passed.head.server ≡ c.is_full-ends.result =
    ends_by a.party.t a.call a.passed.head.server _ (ap (λ (z : Call). z.tally) (rw c.from.ensures at c.note_reply-noted.ensures)) _ _ c.is_full-ends.ensures refl in
    λ output l. rw (c.more.ensures, c.note_reply-noted.ensures, c.from.ensures)
    (clock-noted a.party.t a.party.client a.call a.reply.now a.passed.head y a.writers.now a.keys.now a.kept.now output p.1.0 a.room
    c.higher-high.result (rw ended c.in_ok-clock_refusal.ensures) high_is l (ended ∙ c.if-ends.false))

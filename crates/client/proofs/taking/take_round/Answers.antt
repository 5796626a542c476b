-- A refusal of the output's room, or the step of the round. Nothing is assumed.
use Rattle.std.proofs.Common.{◌≡◌, ◌∙◌, ◌≤◌, sym, ap, length, drop, arith, rules}
use mathlib.Core.Bool.{true≢false}
use Rattle.cluster.specs.Ranges.{most_servers, content_room}
use Rattle.cluster.specs.declared.Refusal.TheVariants as refusals
use Rattle.protocol.specs.declared.rounds.Round.TheVariants as round
use Rattle.protocol.specs.Kinds.{round_number, code_number}
use Rattle.protocol.specs.Packet.{head_size}
use Rattle.protocol.specs.View.{candidate_slot}
use Rattle.client.proofs.Tests.{past-clock}
use Rattle.client.proofs.TakeTests.{round_short, takes-refused, collect-length}
use Rattle.client.proofs.ReadyRanges.{ready-faults, ready-server, store-number, store-code}
use Rattle.client.proofs.RoundsTaken.{takes-store, takes-complete, takes-collect, takes-repair}
use Rattle.client.proofs.taking.take_round.Goals as goal

pub returns-then-out-lt-CONTENT_ROOM : goal.returns-then-out-lt-CONTENT_ROOM
returns-then-out-lt-CONTENT_ROOM c =
    let a = c.args in
    let past = past-clock a.round (λ (e : a.round ≡ round.Clock). absurd (true≢false (sym c.if-ne.true ∙ rw e at c.ne.ensures))) in
    takes-refused a.party.t a.party.client a.writers.now a.keys.now a.call a.kept.now a.reply.now a.out.now refusals.Room
    (round_short a.party.t a.party.client a.writers.now a.keys.now a.call a.kept.now a.reply.now a.out.now a.passed.head c.requires.0
    (λ z. past (c.requires.1.0 ∙ z)) (omega (arith, c.if-out-lt-CONTENT_ROOM.true)))

pub overflow_cast-passed : goal.overflow_cast-passed
overflow_cast-passed c =
    let a = c.args in
    let told = store-number a.party.t a.party.client a.call a.reply.now a.passed.head c.requires.0 (sym c.requires.1.0 ∙ ap round_number c.in-Store.is)
    a.passed.label a.passed.number c.requires.1.1.1 in
    omega (arith, told, c.type_inv.reply head_size)

pub unwrap-code-requires : goal.unwrap-code-requires
unwrap-code-requires c =
    let a = c.args in
    let e = sym c.requires.1.0 ∙ ap round_number c.in-Store.is in
    store-code a.party.t a.party.client a.call a.reply.now a.passed.head c.requires.0 e a.passed.number
    (store-number a.party.t a.party.client a.call a.reply.now a.passed.head c.requires.0 e a.passed.label a.passed.number c.requires.1.1.1)
    c.of.result c.of.ensures.number

pub take_store-requires : goal.take_store-requires
take_store-requires c =
    let a = c.args in (
      (ready-faults a.party.t a.party.client a.call a.reply.now a.passed.head c.requires.0).1,
      rw c.from-server.ensures (ready-server a.party.t a.party.client a.call a.reply.now a.passed.head c.requires.0),
    )

pub returns-in-Store : goal.returns-in-Store
returns-in-Store c =
    let a = c.args in
    let e = sym c.requires.1.0 ∙ ap round_number c.in-Store.is in
    let room : content_room ≤ length a.out.now = search rules in
    let code : code_number c.unwrap-code.result ≡ a.passed.number = rw c.unwrap-code.ensures at c.of.ensures.number in
    takes-store a.party.t a.party.client a.writers.now a.keys.now a.call a.kept.now a.reply.now a.out.now a.passed.head c.requires.0 room e
    (code_number c.unwrap-code.result)
    (code ∙ store-number a.party.t a.party.client a.call a.reply.now a.passed.head c.requires.0 e a.passed.label a.passed.number c.requires.1.1.1)
    c.take_store.result (rw c.from-server.ensures at c.take_store.ensures)

pub take_complete-requires : goal.take_complete-requires
take_complete-requires c =
    let a = c.args in (
      (ready-faults a.party.t a.party.client a.call a.reply.now a.passed.head c.requires.0).1,
      rw c.from-server.ensures (ready-server a.party.t a.party.client a.call a.reply.now a.passed.head c.requires.0),
    )

pub returns-in-Complete : goal.returns-in-Complete
returns-in-Complete c =
    let a = c.args in
    let room : content_room ≤ length a.out.now = search rules in
    takes-complete a.party.t a.party.client a.writers.now a.keys.now a.call a.kept.now a.reply.now a.out.now a.passed.head c.requires.0 room
    (sym c.requires.1.0 ∙ ap round_number c.in-Complete.is) c.take_complete.result (rw c.from-server.ensures at c.take_complete.ensures)

pub take_collect-requires : goal.take_collect-requires
take_collect-requires c =
    let a = c.args in
    let p = c.requires in
    let r : (1 ≤ c.from-server.result) × (c.from-server.result ≤ most_servers) =
    rw c.from-server.ensures (ready-server a.party.t a.party.client a.call a.reply.now a.passed.head p.0) in
    let l : length (drop head_size a.reply.now) ≤ candidate_slot = collect-length a.party.t a.party.client a.call a.reply.now a.passed.head p.0
    (λ k. (c.type_inv.reply k).fits) (sym p.1.0 ∙ ap round_number c.in-Collect.is) in
    ((ready-faults a.party.t a.party.client a.call a.reply.now a.passed.head p.0).1, (r.0, (r.1, (p.1.1.0, rw c.rest-body.ensures l))))

pub returns-in-Collect : goal.returns-in-Collect
returns-in-Collect c =
    let a = c.args in
    let p = c.requires in
    let room : content_room ≤ length a.out.now = search rules in
    takes-collect a.party.t a.party.client a.writers.now a.keys.now a.call a.kept.now a.reply.now a.out.now a.passed.head p.0 room
    (sym p.1.0 ∙ ap round_number c.in-Collect.is) (λ k. (c.type_inv.reply k).fits) _ c.rest-body.ensures c.take_collect.result
    (rw c.from-server.ensures at c.take_collect.ensures.0) _ (rw c.from-server.ensures at c.take_collect.ensures.1)

pub take_repair-requires : goal.take_repair-requires
take_repair-requires c =
    let a = c.args in
    let room : content_room ≤ length a.out.now = search rules in
    let r : (1 ≤ c.from-server.result) × (c.from-server.result ≤ most_servers) =
    rw c.from-server.ensures (ready-server a.party.t a.party.client a.call a.reply.now a.passed.head c.requires.0) in
    ((ready-faults a.party.t a.party.client a.call a.reply.now a.passed.head c.requires.0).1, (r.0, (r.1, room)))

pub returns-in-Repair : goal.returns-in-Repair
returns-in-Repair c =
    let a = c.args in
    let room : content_room ≤ length a.out.now = search rules in
    takes-repair a.party.t a.party.client a.writers.now a.keys.now a.call a.kept.now a.reply.now a.out.now a.passed.head c.requires.0 room
    (sym c.requires.1.0 ∙ ap round_number c.in-Repair.is) c.take_repair.result
    (rw c.from-server.ensures at c.take_repair.ensures.0) _ (rw c.from-server.ensures at c.take_repair.ensures.1)

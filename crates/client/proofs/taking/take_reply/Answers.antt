-- A packet of another layout, the refusals of its head, or its round's step. Nothing is assumed.
use Rattle.std.proofs.Common.{sym, refl}
use Rattle.std.proofs.lemmas.Result.{err_from_is_err_and}
use Rattle.cluster.specs.declared.Refusal.TheVariants as refusals
use Rattle.wire.specs.declared.packet.Passed.{Passed}
use Rattle.client.proofs.TakeTests.{take_broken, take_head, takes-refused}
use Rattle.client.proofs.Tests.{same_err}
use Rattle.client.proofs.ReadyRanges.{server_range}
use Rattle.erasure.proofs.Refused.{refused-number}
use Rattle.client.proofs.taking.take_reply.Goals as goal

pub returns-in_err-passed : goal.returns-in_err-passed
returns-in_err-passed c =
    let a = c.args in
    let p = err_from_is_err_and c.from_residual.result c.from_residual.ensures.1 in
    let e = same_err {T = Passed} _ refusals.Layout (rw c.in_err-passed.ensures.ok_part at c.in_err-passed.ensures.value) in
    rw (p.1, p.2, e) (takes-refused a.party.t a.party.client a.writers.now a.keys.now a.call a.kept.now a.reply.now a.out.now refusals.Layout
    (take_broken a.party.t a.party.client a.writers.now a.keys.now a.call a.kept.now a.reply.now a.out.now c.requires.0 c.requires.1.0
    (rw c.in_err-passed.ensures.ok_part at c.read_packet.ensures)))

pub round_to_take-requires : goal.round_to_take-requires
round_to_take-requires c =
    let (read, kind) = rw c.in_ok-passed.ensures.ok_part at c.read_packet.ensures in
    let r = server_range c.args.reply.now c.in_ok-passed.passed.head read.packet in
    (r.0, r.1, kind)

pub returns-in_err-round : goal.returns-in_err-round
returns-in_err-round c =
    let a = c.args in
    let p = err_from_is_err_and c.from_residual-in_err-round.result c.from_residual-in_err-round.ensures.1 in
    let (read, kind) = rw c.in_ok-passed.ensures.ok_part at c.read_packet.ensures in
    rw (p.1, p.2) (takes-refused a.party.t a.party.client a.writers.now a.keys.now a.call a.kept.now a.reply.now a.out.now
    c.in_err-round.field-0.0
    (take_head a.party.t a.party.client a.writers.now a.keys.now a.call a.kept.now a.reply.now a.out.now c.requires.0 c.requires.1.0
    c.in_ok-passed.passed.head read.packet _ c.in_err-round.ensures.refusal (refused-number c.in_err-round.field-0.0)))

pub take_round-requires : goal.take_round-requires
take_round-requires c =
    let (read, kind) = rw c.in_ok-passed.ensures.ok_part at c.read_packet.ensures in (
      record { decoded = read.packet; faults = c.requires.0; reader = c.requires.1.0; awaited = sym c.in_ok-round.ensures.refusal },
      (c.in_ok-round.ensures.round c.in_ok-round.round refl, (c.requires.1.1, read)),
    )

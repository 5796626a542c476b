-- One law for each way through the refusals, and the answer. Assumes nothing.
use Rattle.std.proofs.Common.{refl, sym, ◌∙◌}
use Rattle.std.proofs.lemmas.Result.{err_from_is_err_and}
use Rattle.server.proofs.Unraising.{ok_or-err, ok_or-ok}
use Rattle.erasure.proofs.Refused.{refused-number}
use Rattle.server.proofs.Taking.{take-size, take_broken, take_unread, take-refused, take_sent, take-answered, server_least}
use Rattle.server.proofs.take.take.Goals as goal

pub returns-then-memory-ne-MEMORY : goal.returns-then-memory-ne-MEMORY
returns-then-memory-ne-MEMORY c =
    take-size c.args.memory.now c.args.key.now c.args.packet.now c.args.out.now c.if-memory-ne-MEMORY.true refl

pub returns-in_err-opened : goal.returns-in_err-opened
returns-in_err-opened c =
    let p = err_from_is_err_and c.from_residual.result c.from_residual.ensures.1 in
    let q = ok_or-err _ _ c.«open».result _ _ (sym c.ok_or.ensures.value ∙ c.in_err-opened.was) c.«open».ensures in
    rw (p.1, p.2, q.1)
    (take_broken c.args.memory.now c.args.key.now c.args.packet.now c.args.out.now c.if-memory-ne-MEMORY.false q.0 refl)

pub returns-in_err-passed : goal.returns-in_err-passed
returns-in_err-passed c =
    let o = ok_or-ok _ _ c.«open».result _ _ (sym c.ok_or.ensures.value ∙ c.in_ok-opened.was) c.«open».ensures in
    let p = err_from_is_err_and c.from_residual-in_err-passed.result c.from_residual-in_err-passed.ensures.1 in
    let q = ok_or-err _ _ c.read_packet.result _ _ (sym c.ok_or-2.ensures.value ∙ c.in_err-passed.was) c.read_packet.ensures in
    rw (p.1, p.2, q.1)
    (take_unread c.args.memory.now c.args.key.now c.args.packet.now c.args.out.now c.if-memory-ne-MEMORY.false o q.0 refl)

pub returns-in_err-accept : goal.returns-in_err-accept
returns-in_err-accept c =
    let o = ok_or-ok _ _ c.«open».result _ _ (sym c.ok_or.ensures.value ∙ c.in_ok-opened.was) c.«open».ensures in
    let r = ok_or-ok _ _ c.read_packet.result _ _ (sym c.ok_or-2.ensures.value ∙ c.in_ok-passed.was) c.read_packet.ensures in
    let p = err_from_is_err_and c.from_residual-in_err-accept.result c.from_residual-in_err-accept.ensures.1 in
    rw (p.1, p.2)
    (take-refused c.args.memory.now c.args.key.now c.args.packet.now c.args.out.now c.if-memory-ne-MEMORY.false o _ r.0.packet
    (c.in_err-accept.ensures c.args.packet.now r.0.label) (refused-number _) refl)

pub answer-requires-clause-server : goal.answer-requires-clause-server
answer-requires-clause-server c =
    server_least (ok_or-ok _ _ c.«open».result _ _ (sym c.ok_or.ensures.value ∙ c.in_ok-opened.was) c.«open».ensures)

pub answer-requires-clause-sent : goal.answer-requires-clause-sent
answer-requires-clause-sent c =
    let o = ok_or-ok _ _ c.«open».result _ _ (sym c.ok_or.ensures.value ∙ c.in_ok-opened.was) c.«open».ensures in
    let r = ok_or-ok _ _ c.read_packet.result _ _ (sym c.ok_or-2.ensures.value ∙ c.in_ok-passed.was) c.read_packet.ensures in
    take_sent c.args.memory.now c.args.key.now c.args.packet.now c.args.out.now c.if-memory-ne-MEMORY.false o _ r.0.packet
    (c.in_ok-accept.ensures c.args.packet.now r.0.label) refl

pub returns : goal.returns
returns c =
    let o = ok_or-ok _ _ c.«open».result _ _ (sym c.ok_or.ensures.value ∙ c.in_ok-opened.was) c.«open».ensures in
    let r = ok_or-ok _ _ c.read_packet.result _ _ (sym c.ok_or-2.ensures.value ∙ c.in_ok-passed.was) c.read_packet.ensures in
    take-answered c.args.memory.now c.args.key.now c.args.packet.now c.args.out.now c.if-memory-ne-MEMORY.false o _ r.0.packet
    (c.in_ok-accept.ensures c.args.packet.now r.0.label) refl c.answer.ensures

-- Held, full, or kept: each way is one law. Assumes nothing.
use Rattle.std.proofs.Common.{arith, ◌∙◌, sym}
use Rattle.server.proofs.Storing.{answer-held, answer_full, answer-kept}
use Rattle.server.proofs.store.store.Goals as goal

pub returns-then-is_some : goal.returns-then-is_some
returns-then-is_some c key o own dec k room =
    answer-held o.bytes c.args.packet.now (λ i. (c.type_inv.packet i).fits) c.args.out.now c.args.head key o own dec k
    room c.rest-write.ensures c.find.result c.find.ensures (sym c.is_some.ensures ∙ c.if-is_some.true) c.store_reply.ensures

pub returns-then-opened-ge-CAPACITY : goal.returns-then-opened-ge-CAPACITY
returns-then-opened-ge-CAPACITY c key o own dec k room =
    answer_full o.bytes c.args.packet.now (λ i. (c.type_inv.packet i).fits) c.args.out.now c.args.head key o own dec k
    room c.rest-write.ensures c.find.result c.find.ensures (sym c.is_some.ensures ∙ c.if-is_some.false) (omega arith)
    c.store_reply-then-opened-ge-CAPACITY.ensures

pub returns : goal.returns
returns c key o own dec k room =
    answer-kept o.bytes c.args.packet.now (λ i. (c.type_inv.packet i).fits) c.args.out.now c.args.head key o own dec k
    room c.rest-write.ensures c.find.result c.find.ensures (sym c.is_some.ensures ∙ c.if-is_some.false) (omega arith) c.keep_write.ensures
    c.store_reply-2.ensures

-- Nothing held, or the share of the write that was found. Assumes nothing.
use Rattle.server.proofs.Held.{held-nothing, held_share}
use Rattle.server.proofs.filter.reply_held.Goals as goal

pub returns-in_default : goal.returns-in_default
returns-in_default c =
    held-nothing c.args.memory.now (λ i. (c.type_inv.memory i).fits) c.args.head c.args.opened c.args.stamp c.args.out.now
    c.held_head-nothing.ensures c.find.result c.find.ensures c.in_default.is c.reply.ensures

pub returns : goal.returns
returns c =
    held_share c.args.memory.now (λ i. (c.type_inv.memory i).fits) c.args.head c.args.opened c.args.stamp c.args.out.now
    c.held_head-nothing.ensures c.find.result c.find.ensures c.in-Some.is c.held_head.ensures c.share_bytes.ensures
    c.reply_head.ensures c.make_packet.ensures

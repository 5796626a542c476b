-- The packet's candidate, and a reply without a body. Assumes nothing.
use Rattle.server.proofs.Repairing.{repair-answers}
use Rattle.server.proofs.repair.repair.Goals as goal

pub returns : goal.returns
returns c =
    repair-answers c.args.memory.now c.args.key c.args.packet.now (λ i. (c.type_inv.packet i).fits) c.args.out.now c.args.head c.args.opened
    c.rest.ensures c.raise_valid.ensures c.reply.ensures

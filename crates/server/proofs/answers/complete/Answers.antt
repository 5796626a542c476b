-- The candidate of the packet over the latest one, and a reply without a body. Assumes nothing.
use Rattle.server.proofs.Raising.{complete-answers}
use Rattle.server.proofs.answers.complete.Goals as goal

pub returns : goal.returns
returns c =
    complete-answers c.args.memory.now c.args.packet.now (λ i. (c.type_inv.packet i).fits) c.args.out.now c.args.head c.rest.ensures
    c.raise.ensures c.reply.ensures

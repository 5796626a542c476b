-- The bytes of the latest stamp, as the body of the reply. Assumes nothing.
use Rattle.server.proofs.Replies.{clock-answers}
use Rattle.server.proofs.answers.clock.Goals as goal

pub returns : goal.returns
returns c = clock-answers c.args.memory.now c.args.out.now c.args.head c.part-stamp.ensures c.reply.ensures

-- The bytes of the latest candidate, as the body of the reply. Assumes nothing.
use Rattle.server.proofs.Replies.{collect-answers}
use Rattle.server.proofs.answers.collect.Goals as goal

pub returns : goal.returns
returns c =
    collect-answers c.args.memory.now c.args.out.now c.args.head c.candidate_size.ensures c.part-candidate.ensures c.reply.ensures

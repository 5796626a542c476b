-- By the history, else by the tag, for which the key is prepared. Assumes nothing.
use Rattle.server.proofs.Testing.{valid-history, valid-tag}
use Rattle.server.proofs.valid.valid.Goals as goal

pub returns-then-by_history : goal.returns-then-by_history
returns-then-by_history c =
    rw c.if-by_history.true
    (valid-history c.args.memory.now c.args.key c.args.opened c.args.candidate.now c.digest_nonce-digest.ensures c.by_history.ensures
    c.if-by_history.true)

pub returns-else-by_history : goal.returns-else-by_history
returns-else-by_history c =
    valid-tag c.args.memory.now c.args.key c.args.opened c.args.candidate.now c.digest_nonce-digest.ensures c.by_history.ensures
    c.if-by_history.false c.prepare.ensures c.by_tag.ensures

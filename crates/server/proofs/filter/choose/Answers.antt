-- The highest candidate by the history, then by its tag, then the walk over those below it. Assumes nothing.
use Rattle.std.proofs.Common.{arith}
use Rattle.server.proofs.Trying.{highest_none, highest-held, highest-tagged, then-under}
use Rattle.server.proofs.filter.choose.Goals as goal

pub returns-in_err-rank : goal.returns-in_err-rank
returns-in_err-rank c =
    rw c.from_residual.ensures
    (highest_none c.args.memory.now c.args.key c.args.opened c.args.list.now c.args.count (omega arith) (λ i. (c.type_inv.list i).fits)
    c.next_rank.ensures c.in_err-rank.was)

pub returns-then-by_history : goal.returns-then-by_history
returns-then-by_history c =
    highest-held c.args.memory.now c.args.key c.args.opened c.args.list.now c.args.count (omega arith) (λ i. (c.type_inv.list i).fits)
    c.next_rank.ensures c.in_ok-rank.was c.slot_with-i.ensures c.slot-candidate.ensures c.digest_nonce-digest.ensures c.by_history.ensures
    c.if-by_history.true

pub returns-then-by_tag : goal.returns-then-by_tag
returns-then-by_tag c =
    highest-tagged c.args.memory.now c.args.key c.args.opened c.args.list.now c.args.count (omega arith) (λ i. (c.type_inv.list i).fits)
    c.next_rank.ensures c.in_ok-rank.was c.slot_with-i.ensures c.slot-candidate.ensures c.digest_nonce-digest.ensures c.by_history.ensures
    c.if-by_history.false c.prepare-prepared.ensures c.by_tag.ensures c.if-by_tag.true

pub returns : goal.returns
returns c =
    then-under c.args.memory.now c.args.key c.args.opened c.args.list.now c.args.count (omega arith) (λ i. (c.type_inv.list i).fits)
    c.next_rank.ensures c.in_ok-rank.was c.slot_with-i.ensures c.slot-candidate.ensures c.digest_nonce-digest.ensures c.by_history.ensures
    c.if-by_history.false c.prepare-prepared.ensures c.by_tag.ensures c.if-by_tag.false c.choose_under.result c.choose_under.ensures

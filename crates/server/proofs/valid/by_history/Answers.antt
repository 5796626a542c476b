-- Nothing found, or the nonce digest compared at its place. Assumes nothing.
use Rattle.server.proofs.Testing.{history_none, history-found}
use Rattle.server.proofs.valid.by_history.Goals as goal

pub returns-in_default : goal.returns-in_default
returns-in_default c = history_none c.args.memory.now c.args.opened c.args.candidate.now c.args.digest c.find.ensures c.in_default.is

pub returns : goal.returns
returns c =
    history-found c.args.memory.now c.args.opened c.args.candidate.now c.args.digest c.find.ensures c.in-Some.is c.rest.ensures c.rest-2.ensures
    c.nonce_digest-found.ensures c.same.ensures

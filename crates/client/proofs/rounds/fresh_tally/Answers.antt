-- The round's number, or 0; no reply has come. Nothing is assumed.
use Rattle.std.proofs.Common.{rules}
use Rattle.protocol.specs.ClientBytes.{fresh}
use Rattle.client.proofs.rounds.fresh_tally.Goals as goal

pub returns-in-Some : goal.returns-in-Some
unfolding fresh
returns-in-Some c = search rules

pub returns-in-None : goal.returns-in-None
unfolding fresh
returns-in-None c = search rules

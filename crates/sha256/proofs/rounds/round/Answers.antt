-- A round is the definition's: each sum wraps as `⊞` does.
use Rattle.sha256.specs.Sha256.{◌⊞◌, round_of_def}
use Rattle.sha256.proofs.rounds.round.Goals as goal

pub returns : goal.returns
unfolding ◌⊞◌ round_of_def
returns c = cc

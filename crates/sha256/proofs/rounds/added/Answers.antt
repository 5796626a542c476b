-- Each word is the definition's sum.
use Rattle.sha256.specs.Sha256.{◌⊞◌, add_work}
use Rattle.sha256.proofs.rounds.added.Goals as goal

pub returns : goal.returns
unfolding ◌⊞◌ add_work
returns c = cc

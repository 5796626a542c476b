-- The word is the definition's sum of four.
use Rattle.sha256.specs.Sha256.{◌⊞◌}
use Rattle.sha256.specs.Steps.{later_word}
use Rattle.sha256.proofs.turns.later.Goals as goal

pub returns : goal.returns
unfolding ◌⊞◌ later_word
returns c = cc

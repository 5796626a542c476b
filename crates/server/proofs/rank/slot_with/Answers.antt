-- By the definition. Assumes nothing.
use Rattle.std.proofs.Common.{refl}
use Rattle.server.specs.Ranks.{slot_with_def}
use Rattle.server.proofs.rank.slot_with.Goals as goal

pub returns : goal.returns
unfolding slot_with_def
returns c = refl

-- The stamp is read from its place on. Nothing is assumed.
use Rattle.std.proofs.Common.{◌∙◌, ap, List, ℕ}
use Rattle.protocol.specs.Values.{rank}
use Rattle.protocol.specs.View.{stamp_at_def}
use Rattle.decide.specs.Steps.{rank_at}
use Rattle.decide.proofs.sizes.rank_at.Goals as goal

pub returns : goal.returns
unfolding rank_at
returns c = c.rank_at.ensures ∙ ap (λ (x : List ℕ). rank (stamp_at_def x)) c.rest.ensures

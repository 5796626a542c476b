-- The stamp stands at the start of the chosen candidate. Nothing is assumed.
use Rattle.std.proofs.Common.{refl}
use Rattle.protocol.specs.View.{chosen_of, candidate_at}
use Rattle.client.proofs.kept.chosen_label.Goals as goal

pub returns : goal.returns
unfolding chosen_of candidate_at
returns c = rw (c.label_at.ensures, c.part.ensures) refl

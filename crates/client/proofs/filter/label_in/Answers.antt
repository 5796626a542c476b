-- The stamp stands at the start of the candidate's slot. Nothing is assumed.
use Rattle.std.proofs.Common.{refl}
use borrow.Author.Tests.{lt-ltb}
use Rattle.protocol.specs.View.{candidates_in, candidate_at}
use Rattle.client.proofs.filter.label_in.Goals as goal

pub returns : goal.returns
unfolding candidates_in candidate_at
returns c = rw (c.label_at.ensures, c.part.ensures, lt-ltb c.args.i 13 c.requires) refl

-- The slots are borrowed whole. Nothing is assumed.
use Rattle.std.proofs.Common.{◌∙◌, refl}
use Rattle.cluster.specs.Config.{shelf}
use Rattle.decide.specs.Steps.{slot_held}
use Rattle.decide.proofs.Places.{part_of, candidate_in_lem}
use Rattle.decide.proofs.Replies.{slot_lent}
use Rattle.decide.proofs.reply.names_at.Goals as goal

pub returns : goal.returns
unfolding slot_held
returns c = c.names.ensures ∙ rw (slot_lent, part_of, candidate_in_lem (shelf c.args.t) c.args.kept.now c.args.i c.requires.1) refl

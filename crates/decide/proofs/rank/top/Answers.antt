-- The highest rank is raised slot by slot. Nothing is assumed.
use Rattle.std.proofs.Common.{refl, add-one}
use Rattle.decide.specs.Steps.{top_rank, top_at}
use Rattle.decide.proofs.rank.top.Goals as goal

pub loop-i-init : goal.loop-i-init
unfolding top_at top_rank
loop-i-init c = refl

pub loop-i-preserved : goal.loop-i-preserved
unfolding top_at top_rank
loop-i-preserved c = rw (add-one, ← c.loop-i.invariant) c.raised-key.ensures

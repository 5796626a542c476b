-- The best of the slots passed, with one more. Assumes nothing.
use Rattle.std.proofs.Common.{refl, ◌∙◌}
use Rattle.server.specs.Ranks.{next_rank_def}
use Rattle.server.proofs.Ranking.{next-higher, next-same}
use Rattle.server.proofs.rank.next_rank.Goals as goal
use Rattle.server.proofs.rank.next_rank.Goals.{then-rank-bound, else-rank-bound}

pub loop-i-init : goal.loop-i-init
unfolding next_rank_def
loop-i-init c = refl

pub loop-i-preserved : goal.loop-i-preserved
loop-i-preserved c =
    elim c.if-rank-bound.branch [
      | then-rank-bound w ↦ w.best-is ∙ next-higher _ _ _ _ c.loop-i.invariant c.rank_at-rank.ensures w.if-rank-bound.true w.max-best.ensures
      | else-rank-bound w ↦ w.best-is ∙ next-same _ _ _ _ c.loop-i.invariant c.rank_at-rank.ensures w.if-rank-bound.false
    ]

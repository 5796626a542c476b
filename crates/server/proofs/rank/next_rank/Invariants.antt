-- The best of the slots passed. Assumes nothing.
use Rattle.std.proofs.Common.{◌≡◌}
use Rattle.cluster.specs.Config.{shelf}
use Rattle.server.specs.Ranks.{next_rank_def}
use Rattle.server.proofs.rank.next_rank.Given as goal

abbrev pub invariant-loop-i : goal.invariant-loop-i
invariant-loop-i l = l.best ≡ next_rank_def (shelf l.t) l.list l.i l.bound

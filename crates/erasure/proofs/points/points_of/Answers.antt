use Rattle.std.proofs.Common.{ap, arith, get_or, ◌-◌, ℕ}
use Rattle.cluster.specs.Config.{point_of}
use Rattle.erasure.proofs.Fill.{filled_more}
use Rattle.erasure.proofs.points.points_of.Goals as goal

pub loop-j-preserved : goal.loop-j-preserved
unfolding point_of
loop-j-preserved c = filled_more c.loop-j.invariant (omega arith) _ (ap (λ (i : ℕ). get_or c.args.points.now (i - 1) 0) c.from.ensures)

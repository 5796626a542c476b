use Rattle.std.proofs.Common.{refl, arith}
use Rattle.erasure.proofs.Fill.{filled_more}
use Rattle.erasure.proofs.runs.runs_at.Goals as goal

pub loop-j-preserved : goal.loop-j-preserved
loop-j-preserved c = filled_more c.loop-j.invariant (omega arith) _ refl

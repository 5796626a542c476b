use Rattle.std.proofs.Common.{arith}
use Rattle.hmac.proofs.Laws.{masked_none, masked_more}
use Rattle.hmac.proofs.masked.Goals as goal

pub loop-i-init : goal.loop-i-init
loop-i-init c = masked_none _

pub loop-i-preserved : goal.loop-i-preserved
loop-i-preserved c =
    let at = c.loop-i in masked_more c.args.key at.out c.args.x at.i (omega arith) at.invariant

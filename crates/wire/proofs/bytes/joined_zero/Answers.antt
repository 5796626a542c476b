use Rattle.std.proofs.Common.{◌∙◌, arith}
use Rattle.wire.proofs.Joined.{zeros_more}
use Rattle.wire.proofs.bytes.joined_zero.Goals as goal

pub loop-b-preserved : goal.loop-b-preserved
loop-b-preserved c = c.loop-b.invariant ∙ zeros_more c.args.s.now c.loop-b.b-index c.loop-b.all (omega arith)

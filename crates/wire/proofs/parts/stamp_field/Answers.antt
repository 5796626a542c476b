use Rattle.std.proofs.Common.{arith}
use Rattle.cluster.specs.Ranges.{top_writer}
use Rattle.format.proofs.Leaves.{stops_first, stops_second, stops-via}
use Rattle.protocol.specs.Packet.{stamp_f}
use Rattle.wire.proofs.Heads.{byte_range}
use Rattle.wire.proofs.Through.{stamp-took}
use Rattle.wire.proofs.parts.stamp_field.Goals as goal

pub returns-in_err-number : goal.returns-in_err-number
unfolding stamp_f
returns-in_err-number c = rw c.from_residual.ensures (stops-via _ _ _ (stops_first _ _ c.in_err-number.ensures))

pub returns-in_err-writer : goal.returns-in_err-writer
unfolding stamp_f
returns-in_err-writer c =
    rw c.from_residual-in_err-writer.ensures
    (stops-via _ _ _ (stops_second _ _ c.in_ok-number.ensures.leaves (stops_first _ _ c.in_err-writer.ensures)))

pub returns-in_err-c3 : goal.returns-in_err-c3
unfolding stamp_f
returns-in_err-c3 c =
    rw c.from_residual-in_err-c3.ensures
    (stops-via _ _ _
    (stops_second _ _ c.in_ok-number.ensures.leaves (stops_second _ _ c.in_ok-writer.ensures.leaves c.in_err-c3.ensures)))

pub overflow_cast-label : goal.overflow_cast-label
overflow_cast-label c = omega (arith, (byte_range 1 top_writer c.in_ok-writer.ensures).1)

pub returns : goal.returns
returns c = stamp-took c.in_ok-number.ensures c.in_ok-writer.ensures c.in_ok-c3.ensures

use Rattle.cluster.specs.Config.{shelf}
use Rattle.format.proofs.Leaves.{stops_first, stops_second, stops-via}
use Rattle.protocol.specs.Packet.{write_f}
use Rattle.wire.proofs.Through.{write-took}
use Rattle.wire.proofs.parts.write_field.Goals as goal

pub returns-in_err-label : goal.returns-in_err-label
unfolding write_f
returns-in_err-label c = rw c.from_residual.ensures (stops-via _ _ _ (stops_first _ _ c.in_err-label.ensures))

pub returns-in_err-n : goal.returns-in_err-n
unfolding write_f
returns-in_err-n c =
    rw c.from_residual-in_err-n.ensures (stops-via _ _ _ (stops_second _ _ c.in_ok-label.ensures.took.leaves c.in_err-n.ensures))

pub returns : goal.returns
returns c = write-took (shelf c.args.t) c.in_ok-label.ensures c.in_ok-n.ensures

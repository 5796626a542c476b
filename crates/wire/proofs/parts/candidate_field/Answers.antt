use Rattle.cluster.specs.Config.{shelf}
use Rattle.format.proofs.Leaves.{stops_first, stops_second, stops-via}
use Rattle.protocol.specs.Packet.{candidate_f}
use Rattle.wire.proofs.Through.{candidate-took}
use Rattle.wire.proofs.parts.candidate_field.Goals as goal

pub returns-in_err-label : goal.returns-in_err-label
unfolding candidate_f
returns-in_err-label c = rw c.from_residual.ensures (stops-via _ _ _ (stops_first _ _ c.in_err-label.ensures))

pub returns-in_err-c2 : goal.returns-in_err-c2
unfolding candidate_f
returns-in_err-c2 c =
    rw c.from_residual-in_err-c2.ensures
    (stops-via _ _ _ (stops_second _ _ c.in_ok-label.ensures.took.leaves (stops_first _ _ c.in_err-c2.ensures)))

pub returns-in_err-c3 : goal.returns-in_err-c3
unfolding candidate_f
returns-in_err-c3 c =
    rw c.from_residual-in_err-c3.ensures
    (stops-via _ _ _
    (stops_second _ _ c.in_ok-label.ensures.took.leaves
    (stops_second _ _ c.in_ok-c2.ensures.leaves (rw c.tags_size.ensures at c.in_err-c3.ensures))))

pub returns : goal.returns
returns c =
    candidate-took (shelf c.args.t) c.in_ok-label.ensures c.in_ok-c2.ensures (rw c.tags_size.ensures at c.in_ok-c3.ensures)

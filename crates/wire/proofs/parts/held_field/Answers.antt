use Rattle.std.proofs.Common.{arith}
use Rattle.cluster.specs.Config.{shelf}
use Rattle.format.proofs.Leaves.{stops_first, stops-via}
use Rattle.protocol.specs.Packet.{held_f}
use Rattle.wire.proofs.Optional.{held_absent, held_present, held-flag_stops, held-share_stops}
use Rattle.wire.proofs.parts.held_field.Goals as goal

pub returns-in_err-label : goal.returns-in_err-label
unfolding held_f
returns-in_err-label c = rw c.from_residual.ensures (stops-via _ _ _ (stops_first _ _ c.in_err-label.ensures))

pub returns-in_err-flag : goal.returns-in_err-flag
returns-in_err-flag c =
    rw c.from_residual-in_err-flag.ensures
    (held-flag_stops (shelf c.args.t) c.in_ok-label.ensures c.held_most.result c.held_most.ensures c.in_err-flag.ensures)

pub returns-then-flag-eq0 : goal.returns-then-flag-eq0
returns-then-flag-eq0 c =
    held_absent (shelf c.args.t) c.in_ok-label.ensures c.held_most.result c.held_most.ensures c.in_ok-flag.ensures (omega arith)

pub returns-in_err-c3 : goal.returns-in_err-c3
returns-in_err-c3 c =
    rw c.from_residual-in_err-c3.ensures
    (held-share_stops (shelf c.args.t) c.in_ok-label.ensures c.held_most.result c.held_most.ensures c.in_ok-flag.ensures c.if-flag-eq0.false
    c.in_err-c3.ensures)

pub returns : goal.returns
returns c =
    held_present (shelf c.args.t) c.in_ok-label.ensures c.held_most.result c.held_most.ensures c.in_ok-flag.ensures c.if-flag-eq0.false
    c.in_ok-c3.ensures

-- The walk over the stored writes breaks at a place where there is none and at a stamp that stands before it. Assumes nothing.
use Rattle.std.proofs.Common.{arith}
use Rattle.cluster.specs.Config.{shelf}
use Rattle.format.proofs.Leaves.{stops_first, stops_second, stops-via}
use Rattle.protocol.specs.Packet.{write_f}
use Rattle.wire.proofs.Through.{write-took}
use Rattle.server.proofs.Once.{check_none, check-end, check-stop, check-held, check_more, last-rank}
use Rattle.server.proofs.memory.check_writes.Goals as goal

pub loop-i-init : goal.loop-i-init
loop-i-init c = check_none _ _ _ c.requires.0 c.requires.1

pub returns-in_err-label : goal.returns-in_err-label
unfolding write_f
returns-in_err-label c =
    rw c.from_residual.ensures
    (check-stop _ c.loop-i.invariant (omega arith) (stops-via _ _ _ (stops_first _ _ c.in_err-label.ensures)))

pub returns-in_err-next : goal.returns-in_err-next
unfolding write_f
returns-in_err-next c =
    rw c.from_residual-in_err-next.ensures
    (check-stop _ c.loop-i.invariant (omega arith)
    (stops-via _ _ _ (stops_second _ _ c.in_ok-label.ensures.took.leaves c.in_err-next.ensures)))

pub repeats-requires : goal.repeats-requires
repeats-requires c = last-rank _ c.in_ok-label.ensures.label c.rank_of-key.ensures

pub returns-then-repeats : goal.returns-then-repeats
returns-then-repeats c =
    let w = write-took (shelf c.args.t) c.in_ok-label.ensures c.in_ok-next.ensures in
    check-held _ c.loop-i.invariant (omega arith) w.took.leaves _ c.repeats.ensures c.if-repeats.true

pub loop-i-preserved : goal.loop-i-preserved
loop-i-preserved c =
    let w = write-took (shelf c.args.t) c.in_ok-label.ensures c.in_ok-next.ensures in
    check_more _ c.loop-i.invariant (omega arith) w.took.leaves (λ i. (c.type_inv.memory i).fits) (last-rank _ w.label c.rank_of-key.ensures)
    c.raised.ensures _ c.repeats.ensures c.if-repeats.false

pub returns : goal.returns
returns c = check-end _ c.loop-i.invariant _ (omega arith)

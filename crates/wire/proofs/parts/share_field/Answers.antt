use Rattle.std.proofs.Common.{ℕ, ◌-◌, ap, arith}
use Rattle.cluster.specs.Config.{shelf}
use Rattle.format.proofs.Leaves.{stops_first, stops-via}
use Rattle.protocol.specs.Packet.{share_f, share_size_def}
use Rattle.wire.proofs.Through.{share-joined, share_short}
use Rattle.wire.proofs.parts.share_field.Goals as goal

pub returns-in_err-n : goal.returns-in_err-n
unfolding share_f
returns-in_err-n c = rw c.from_residual.ensures (stops-via _ _ _ (stops_first _ _ c.in_err-n.ensures))

pub overflow_sub-size : goal.overflow_sub-size
unfolding share_size_def
overflow_sub-size c = omega (arith, c.share_size-size.ensures)

pub returns-in_err-c2 : goal.returns-in_err-c2
returns-in_err-c2 c =
    rw c.from_residual-in_err-c2.ensures
    (share_short (shelf c.args.t) c.in_ok-n.ensures (ap (λ (k : ℕ). k - 2) c.share_size-size.ensures) c.in_err-c2.ensures)

pub returns : goal.returns
returns c = share-joined (shelf c.args.t) c.in_ok-n.ensures (ap (λ (k : ℕ). k - 2) c.share_size-size.ensures) c.in_ok-c2.ensures

use Rattle.std.proofs.Common.{◌≡◌, ◌+◌, arith}
use Rattle.cluster.specs.Config.{shelf}
use Rattle.erasure.proofs.refusals.lengths_refusal.Goals as goal

pub size-requires : goal.size-requires
unfolding shelf
size-requires c =
    let k : c.threshold_of.result ≡ c.args.t + 1 = c.threshold_of.ensures in
    (omega arith, omega arith, omega arith)

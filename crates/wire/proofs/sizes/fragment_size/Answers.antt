use Rattle.std.proofs.Common.{◌∙◌, arith}
use Rattle.cluster.specs.Config.{shelf}
use Rattle.erasure.specs.Fragments.{fragment_size_def}
use Rattle.erasure.proofs.Laws.{ceiled}
use Rattle.wire.proofs.sizes.fragment_size.Goals as goal

pub returns-in_default : goal.returns-in_default
unfolding shelf fragment_size_def
returns-in_default c = c.div_ceil-in_default.ensures ∙ rw c.threshold.ensures (ceiled (shelf c.args.t).threshold c.args.n (omega arith))

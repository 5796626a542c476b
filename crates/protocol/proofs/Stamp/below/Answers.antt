-- The ranks are compared, which order stamps as their numbers and writers do.
use Rattle.std.proofs.Common.{nat_lt, sym, arith, ◌∙◌}
use Rattle.protocol.proofs.Ranks.{below-rank}
use Rattle.protocol.proofs.Stamp.below.Goals as goal

pub returns : goal.returns
returns c =
    let a = c.args in
    (λ i. nat_lt (c.rank_of.ensures i) (c.rank_of-2.ensures i)) ∙ sym (below-rank a.self a.other (omega arith) (omega arith))

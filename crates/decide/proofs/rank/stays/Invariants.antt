-- So many of the slots passed hold a lower reply.
use Rattle.std.proofs.Common.{◌≡◌}
use Rattle.cluster.specs.Config.{shelf}
use Rattle.protocol.specs.Rules.{count_to}
use Rattle.protocol.specs.View.{marked, replies_in}
use Rattle.decide.specs.Steps.{ranks_below}
use Rattle.decide.proofs.rank.stays.Given as goal

abbrev pub invariant-loop-j : goal.invariant-loop-j
invariant-loop-j l =
    l.n ≡ count_to l.j (ranks_below (marked l.replied.marks) (replies_in (shelf l.replied.t) l.replied.marks l.kept) l.key)

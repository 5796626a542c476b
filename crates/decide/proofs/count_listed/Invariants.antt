-- So many of the slots passed are listed.
use Rattle.std.proofs.Common.{◌≡◌}
use Rattle.cluster.specs.Config.{shelf}
use Rattle.protocol.specs.Rules.{count_to}
use Rattle.protocol.specs.View.{candidates_in}
use Rattle.decide.specs.Listing.{enters}
use Rattle.decide.proofs.count_listed.Given as goal

abbrev pub invariant-loop-i : goal.invariant-loop-i
invariant-loop-i l = l.n ≡ count_to l.i (enters (candidates_in (shelf l.t) l.kept))

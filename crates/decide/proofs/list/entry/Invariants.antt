-- No slot passed holds a twin.
use Rattle.std.proofs.Common.{◌≡◌, ℕ, suc, ◌<◌, false}
use Rattle.cluster.specs.Config.{shelf}
use Rattle.protocol.specs.Values.{same_candidate}
use Rattle.protocol.specs.View.{candidates_in}
use Rattle.decide.proofs.list.entry.Given as goal

abbrev pub invariant-loop-j : goal.invariant-loop-j
invariant-loop-j l =
    (k : ℕ) → k < l.j → same_candidate (candidates_in (shelf l.t) l.kept (suc l.i)) (candidates_in (shelf l.t) l.kept (suc k)) ≡ false

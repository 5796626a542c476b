-- None of the bound in hand or higher is valid, whatever key was prepared. Assumes nothing.
use Rattle.std.proofs.Common.{◌≡◌, ℕ, List}
use Rattle.hmac.specs.PreparedKey.{prepared_of}
use Rattle.server.specs.Filter.{NoneFrom}
use Rattle.server.proofs.filter.choose_under.Given as goal

abbrev pub invariant-loop-rank : goal.invariant-loop-rank
invariant-loop-rank l =
    (key : List ℕ) → l.prepared ≡ prepared_of key → NoneFrom l.memory key l.opened l.list l.count l.fn.bound
    → NoneFrom l.memory key l.opened l.list l.count l.bound

abbrev pub decreases-loop-rank : goal.decreases-loop-rank
decreases-loop-rank l = l.bound

-- No slot passed leads.
use Rattle.std.proofs.Common.{◌≡◌}
use Rattle.decide.specs.Steps.{leader_at}
use Rattle.decide.proofs.leading.leader.Given as goal

abbrev pub invariant-loop-b : goal.invariant-loop-b
invariant-loop-b l = leader_at l.sought.replied.t l.sought.replied.marks l.kept l.sought.slot l.b ≡ 0

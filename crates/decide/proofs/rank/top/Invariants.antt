-- The key is the highest rank of the slots passed.
use Rattle.std.proofs.Common.{◌≡◌}
use Rattle.decide.specs.Steps.{top_at}
use Rattle.decide.proofs.rank.top.Given as goal

abbrev pub invariant-loop-i : goal.invariant-loop-i
invariant-loop-i l = l.key ≡ top_at l.replied.t l.replied.marks l.kept l.i

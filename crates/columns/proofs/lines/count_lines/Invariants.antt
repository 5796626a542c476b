use Rattle.std.proofs.Common.{◌-◌, length}
use Rattle.columns.proofs.Split.{Counted}
use Rattle.columns.proofs.lines.count_lines.Given as goal

-- n lines stood before the place
abbrev pub invariant-loop-at : goal.invariant-loop-at
invariant-loop-at l = Counted l.text l.at l.n

abbrev pub decreases-loop-at : goal.decreases-loop-at
decreases-loop-at l = length l.text - l.at

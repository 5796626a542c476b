-- No more stores are kept than were sent. Assumes nothing.
use Rattle.std.proofs.Common.{◌<◌}
use Rattle.vectors.proofs.cards.fill.Given as goal

abbrev pub invariant-loop-number : goal.invariant-loop-number
invariant-loop-number l = l.kept < l.number

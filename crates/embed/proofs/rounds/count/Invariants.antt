-- So many of the servers passed are marked.
use Rattle.std.proofs.Common.{◌≡◌}
use Rattle.protocol.specs.Rules.{count_to}
use Rattle.protocol.specs.View.{marked}
use Rattle.embed.proofs.rounds.count.Given as goal

abbrev pub invariant-loop-mark : goal.invariant-loop-mark
invariant-loop-mark l = l.sum ≡ count_to l.mark-index (marked l.fn.marks)

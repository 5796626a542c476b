-- The bits of the servers passed are summed up.
use Rattle.std.proofs.Common.{◌≡◌}
use Rattle.protocol.specs.View.{marked}
use Rattle.embed.specs.Rounds.{bits_to}
use Rattle.embed.proofs.rounds.bits.Given as goal

abbrev pub invariant-loop-i : goal.invariant-loop-i
invariant-loop-i l = l.sum ≡ bits_to l.i (marked l.fn.marks)

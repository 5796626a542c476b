use Rattle.std.proofs.Common.{◌≡◌, length}
use Rattle.erasure.specs.Choice.{picked}
use Rattle.erasure.specs.Chosen.{Holds}
use Rattle.erasure.proofs.choice.select.Given as goal

abbrev pub invariant-loop-i : goal.invariant-loop-i
invariant-loop-i l = record { chosen : Holds l.k l.servers (picked l.k l.servers l.i) l.c; many : length (picked l.k l.servers l.i) ≡ l.c.count }

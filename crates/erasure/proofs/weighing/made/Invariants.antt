use Rattle.std.proofs.Common.{◌*◌, replicate}
use Rattle.erasure.specs.Lanes.{RunWritten}
use Rattle.erasure.specs.Weights.{rows_room}
use Rattle.erasure.proofs.RowsMade.{made_at}
use Rattle.erasure.proofs.weighing.made.Given as goal

abbrev pub invariant-loop-i : goal.invariant-loop-i
invariant-loop-i l = RunWritten (replicate rows_room 0) l.out 0 (l.i * l.k) (made_at l.k l.a l.places l.points)

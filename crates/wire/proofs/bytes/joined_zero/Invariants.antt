-- What is joined so far is 0 and the rest is all zero exactly when all bytes are.
use Rattle.std.proofs.Common.{◌≡◌, ◌&&◌, eqb, drop}
use Rattle.format.specs.Format.{zeros}
use Rattle.wire.proofs.bytes.joined_zero.Given as goal

abbrev pub invariant-loop-b : goal.invariant-loop-b
invariant-loop-b l = zeros l.s ≡ eqb l.all 0 && zeros (drop l.b-index l.s)

-- The chunks before what is left are zero.
use Rattle.std.proofs.Common.{◌≡◌, length}
use Rattle.format.specs.Format.{zeros}
use Rattle.wire.proofs.bytes.all_zero.Given as goal

abbrev pub invariant-loop-chunk : goal.invariant-loop-chunk
invariant-loop-chunk l = zeros l.s ≡ zeros l.left

abbrev pub decreases-loop-chunk : goal.decreases-loop-chunk
decreases-loop-chunk l = length l.left

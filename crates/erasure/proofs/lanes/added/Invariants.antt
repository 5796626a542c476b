use Rattle.std.proofs.Common.{◌≡◌, get_or}
use Rattle.std.specs.Int.Bits.{bit_xor, bit_and}
use Rattle.erasure.specs.Lanes.{lane}
use Rattle.erasure.proofs.Fill.{Filled}
use Rattle.erasure.proofs.lanes.added.Given as goal

abbrev pub invariant-loop-i : goal.invariant-loop-i
invariant-loop-i l = Filled 0 (λ j v. v ≡ bit_xor (get_or l.sum j 0) (bit_and (get_or l.x j 0) l.m)) lane l.i l.out

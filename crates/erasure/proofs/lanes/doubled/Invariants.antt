use Rattle.std.proofs.Common.{◌≡◌, get_or}
use Rattle.gf256.specs.Gf.{xtime}
use Rattle.erasure.specs.Lanes.{lane}
use Rattle.erasure.proofs.Fill.{Filled}
use Rattle.erasure.proofs.lanes.doubled.Given as goal

abbrev pub invariant-loop-i : goal.invariant-loop-i
invariant-loop-i l = Filled 0 (λ j v. v ≡ xtime (get_or l.x j 0)) lane l.i l.out

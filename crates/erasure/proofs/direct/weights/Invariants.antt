use Rattle.std.proofs.Common.{◌≡◌}
use Rattle.erasure.specs.System.{width, direct_at}
use Rattle.erasure.proofs.Fill.{Filled}
use Rattle.erasure.proofs.direct.weights.Given as goal

abbrev pub invariant-loop-j : goal.invariant-loop-j
invariant-loop-j l = Filled 0 (λ i v. v ≡ direct_at l.k l.points l.z i) width l.j l.out

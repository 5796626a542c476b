use Rattle.std.proofs.Common.{◌≡◌, get_or}
use Rattle.cluster.specs.Config.{point_of}
use Rattle.erasure.specs.System.{width}
use Rattle.erasure.proofs.Fill.{Filled}
use Rattle.erasure.proofs.points.points_of.Given as goal

abbrev pub invariant-loop-j : goal.invariant-loop-j
invariant-loop-j l = Filled 0 (λ i v. v ≡ point_of l.points (get_or l.servers i 0)) width l.j l.out

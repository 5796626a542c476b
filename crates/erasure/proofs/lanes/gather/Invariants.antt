use Rattle.std.proofs.Common.{◌+◌, []}
use Rattle.erasure.specs.System.{width}
use Rattle.erasure.specs.Lanes.{byte_at, Lane}
use Rattle.erasure.proofs.Fill.{Filled}
use Rattle.erasure.proofs.lanes.gather.Given as goal

abbrev pub invariant-loop-j : goal.invariant-loop-j
invariant-loop-j l = Filled [] (λ m x. Lane x (λ i. byte_at l.src l.starts (l.q + i) m)) width l.j l.out

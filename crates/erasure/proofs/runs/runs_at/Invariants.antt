use Rattle.std.proofs.Common.{◌≡◌, ◌*◌, get_or}
use Rattle.erasure.specs.System.{width}
use Rattle.erasure.proofs.Fill.{Filled}
use Rattle.erasure.proofs.runs.runs_at.Given as goal

abbrev pub invariant-loop-j : goal.invariant-loop-j
invariant-loop-j l = Filled 0 (λ i v. v ≡ get_or l.at i 0 * l.f) width l.j l.out

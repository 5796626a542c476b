use Rattle.std.proofs.Common.{◌≡◌, ◌<◌, ℕ, [], get_or}
use Rattle.gf256.specs.Gf.{power}
use Rattle.erasure.specs.System.{width}
use Rattle.erasure.proofs.Fill.{Filled}
use Rattle.erasure.proofs.system.begin.Given as goal

abbrev pub invariant-loop-r : goal.invariant-loop-r
invariant-loop-r l = Filled [] (λ i row. (c : ℕ) → c < l.k → get_or row c 0 ≡ power (get_or l.xs i 0) c) width l.r l.a

use Rattle.std.proofs.Common.{◌≡◌, ℕ, ◌+◌, ◌<◌, length, get_or}
use Rattle.gf256.proofs.Tables.{logs}
use Rattle.gf256.proofs.logarithms.logs.Given as goal

-- the first k logarithms stand in their places
abbrev pub invariant-loop-k : goal.invariant-loop-k
invariant-loop-k l = record {
  size : length l.out ≡ 256;
  first : get_or l.out 0 0 ≡ 0;
  each : (j : ℕ) → j < l.k → get_or l.out (j + 1) 0 ≡ get_or logs j 0;
}

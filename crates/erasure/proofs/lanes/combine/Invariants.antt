use Rattle.std.proofs.Common.{◌≡◌, ◌*◌, length, get_or, min}
use Rattle.erasure.specs.System.{width}
use Rattle.erasure.specs.Lanes.{lane, sum_at, RunWritten}
use Rattle.erasure.proofs.lanes.combine.Given as goal

abbrev pub invariant-loop-i : goal.invariant-loop-i
invariant-loop-i l = record {
  room : length l.lanes ≡ width;
  written : RunWritten l.initial.out l.out 0 (min (l.i * lane) (length l.initial.out)) (sum_at l.k (λ j. get_or l.weights j 0) l.src l.starts);
}

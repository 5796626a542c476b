use Rattle.std.proofs.Common.{◌≡◌, ◌≤◌, ℕ, [], get_or}
use Rattle.erasure.specs.System.{width, RowTurned}
use Rattle.erasure.proofs.Fill.{Filled}
use Rattle.erasure.proofs.system.turn.Given as goal

abbrev pub invariant-loop-r : goal.invariant-loop-r
invariant-loop-r l = record {
  turned : Filled [] (λ j row. RowTurned (get_or l.initial.out j []) l.pivot l.d l.p row) width l.r l.out;
  left : (j : ℕ) → l.r ≤ j → get_or l.out j [] ≡ get_or l.initial.out j [];
}

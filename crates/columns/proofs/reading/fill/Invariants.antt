use Rattle.std.proofs.Common.{◌≡◌, ℕ, ◌<◌, get_or}
use Rattle.columns.specs.Reads.{or_zero}
use Rattle.columns.proofs.Columnwise.{column_in}
use Rattle.columns.proofs.reading.fill.Given as goal

-- the first j values are those of their columns
abbrev pub invariant-loop-j : goal.invariant-loop-j
invariant-loop-j l = (k : ℕ) → k < l.j → get_or l.values k 0 ≡ or_zero (column_in l.line k)

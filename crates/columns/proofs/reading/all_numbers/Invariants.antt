use Rattle.std.proofs.Common.{◌≡◌, ℕ, ◌<◌, true}
use Rattle.columns.specs.Reads.{is_read}
use Rattle.columns.proofs.Columnwise.{column_in}
use Rattle.columns.proofs.reading.all_numbers.Given as goal

-- the first j columns hold numbers
abbrev pub invariant-loop-j : goal.invariant-loop-j
invariant-loop-j l = (k : ℕ) → k < l.j → is_read (column_in l.line k) ≡ true

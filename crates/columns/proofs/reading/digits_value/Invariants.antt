use Rattle.std.proofs.Common.{◌≡◌, ◌<◌, drop}
use Rattle.columns.specs.Columns.{digits}
use Rattle.columns.proofs.Numbers.{tens}
use Rattle.columns.proofs.reading.digits_value.Given as goal

-- what is left to read stays the same over digits, whose value is below 10 to the power of their places
abbrev pub invariant-loop-b : goal.invariant-loop-b
invariant-loop-b l = record { left : digits 0 l.s ≡ digits l.v (drop l.b-index l.s); small : l.v < tens l.b-index }

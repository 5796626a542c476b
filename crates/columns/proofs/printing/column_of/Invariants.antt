use Rattle.columns.proofs.Printed.{Printing}
use Rattle.columns.proofs.printing.column_of.Given as goal

-- the last digits stand from place i on
abbrev pub invariant-loop-i : goal.invariant-loop-i
invariant-loop-i l = Printing l.v l.i l.rest l.column

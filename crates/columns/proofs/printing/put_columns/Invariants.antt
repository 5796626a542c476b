use Rattle.columns.proofs.Printed.{PutTo}
use Rattle.columns.proofs.printing.put_columns.Given as goal

-- the columns of the first j values stand from the place on
abbrev pub invariant-loop-j : goal.invariant-loop-j
invariant-loop-j l = PutTo l.fn.out l.at l.values l.out l.j

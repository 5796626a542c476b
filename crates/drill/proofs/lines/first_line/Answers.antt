-- Its numbers, and the test of their form. Assumes nothing.
use Rattle.std.proofs.Common.{sym}
use Rattle.drill.proofs.Parsed.{no_text, first_text}
use Rattle.drill.proofs.lines.first_line.Goals as goal

pub returns-in_err-l : goal.returns-in_err-l
returns-in_err-l c = rw c.from_residual.ensures (sym (no_text _ (sym c.in_err-l.ensures)))

pub returns : goal.returns
returns c = rw c.then_some.ensures (first_text _ _ (sym c.in_ok-l.ensures) c.is_first.ensures)

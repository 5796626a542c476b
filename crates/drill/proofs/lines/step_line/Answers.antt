-- Its number, its numbers, and the test of their form. Assumes nothing.
use Rattle.std.proofs.Common.{sym}
use Rattle.drill.proofs.Parsed.{last-number, no_step_text, step_text}
use Rattle.drill.proofs.lines.step_line.Goals as goal

pub returns-then-n-ge-TOP_NUMBER : goal.returns-then-n-ge-TOP_NUMBER
returns-then-n-ge-TOP_NUMBER c = sym (last-number _ _ c.if-n-ge-TOP_NUMBER.true)

pub returns-in_err-l : goal.returns-in_err-l
returns-in_err-l c = rw c.from_residual.ensures (sym (no_step_text _ _ c.if-n-ge-TOP_NUMBER.false (sym c.in_err-l.ensures)))

pub returns : goal.returns
returns c = rw c.then_some.ensures (step_text _ _ c.if-n-ge-TOP_NUMBER.false _ (sym c.in_ok-l.ensures) c.is_step.ensures)

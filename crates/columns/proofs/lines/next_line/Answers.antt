-- One place past the line's end, or the end of the text.
use Rattle.columns.proofs.Split.{next_here, next_none}
use Rattle.columns.proofs.lines.next_line.Goals as goal

pub returns-then-end-text : goal.returns-then-end-text
returns-then-end-text c =
    let e = c.line_end-end.ensures in rw e (next_here c.args.text.now c.args.at (rw e at c.if-end-text.true))

pub returns-else-end-text : goal.returns-else-end-text
returns-else-end-text c = let e = c.line_end-end.ensures in next_none c.args.text.now c.args.at (rw e at c.if-end-text.false)

-- One line after another, and no more of them than characters.
use Rattle.std.proofs.Common.{arith}
use Rattle.columns.proofs.Split.{counted_more, counted-room, counted_all, next-later}
use Rattle.columns.proofs.lines.count_lines.Goals as goal

pub overflow_add-n : goal.overflow_add-n
overflow_add-n c =
    let h = counted-room c.args.text.now c.loop-at.at c.loop-at.n c.loop-at.invariant (omega arith) in omega arith

pub loop-at-smaller : goal.loop-at-smaller
loop-at-smaller c =
    let h = next-later c.args.text.now c.loop-at.at (omega arith) in
    let r = c.next_line-at.ensures in
    omega arith

pub loop-at-preserved : goal.loop-at-preserved
loop-at-preserved c =
    rw c.next_line-at.ensures (counted_more c.args.text.now c.loop-at.at c.loop-at.n c.loop-at.invariant (omega arith))

pub returns : goal.returns
returns c = counted_all c.args.text.now c.loop-at.at c.loop-at.n c.loop-at.invariant (omega arith)

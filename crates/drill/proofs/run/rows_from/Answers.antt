-- Line after line. Assumes nothing.
use Rattle.std.proofs.Common.{sym, arith}
use Rattle.columns.proofs.Split.{next-later}
use Rattle.drill.proofs.Running.{going_none, going_all, going_last, going_more, row_room, line-number, line_form}
use Rattle.drill.proofs.run.rows_from.Goals as goal

pub loop-at-init : goal.loop-at-init
loop-at-init c = going_none _ _ _ _ _ c.requires.0.1 c.requires.1.0 c.requires.1.1

pub put_last-requires : goal.put_last-requires
put_last-requires c = row_room _ _ _ _ _ _ _ _ _ _ c.loop-at.invariant c.loop-at-test.true

pub returns-in_default : goal.returns-in_default
returns-in_default c = rw c.put_last.ensures.1 (going_last _ _ _ _ _ _ _ _ _ _ c.loop-at.invariant c.loop-at-test.true (sym c.in_default.ensures) c.put_last.ensures.0)

pub one_line-requires : goal.one_line-requires
one_line-requires c =
    let h = line-number _ _ _ (sym c.in-Some.ensures) in (
      ((c.requires.0.0, c.loop-at.invariant.stands.size), omega arith),
      (line_form _ _ _ (sym c.in-Some.ensures), row_room _ _ _ _ _ _ _ _ _ _ c.loop-at.invariant c.loop-at-test.true),
    )

pub loop-at-smaller : goal.loop-at-smaller
loop-at-smaller c = let h = next-later _ _ c.loop-at-test.true in omega arith

pub loop-at-preserved : goal.loop-at-preserved
loop-at-preserved c =
    rw c.next_line-at.ensures (going_more _ _ _ _ _ _ _ _ _ _ c.loop-at.invariant c.loop-at-test.true (sym c.in-Some.ensures) c.one_line.ensures)

pub returns : goal.returns
returns c = going_all _ _ _ _ _ _ _ _ _ _ c.loop-at.invariant (omega arith)

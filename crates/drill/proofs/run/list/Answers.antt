-- By the first line. Assumes nothing.
use lib.Dec.{eqb}
use borrow.Author.Tests.{eqb-true, eqb-false}
use Rattle.std.proofs.Common.{◌≡◌, ℕ, ◌<◌, false, length, sym, arith}
use Rattle.cluster.specs.Ranges.{top_faults}
use Rattle.columns.proofs.Split.{next-later}
use Rattle.drill.proofs.Listed.{lists_none, lists-117, lists-103, lists-rows, first-room, rows-room}
use Rattle.drill.proofs.Stepping.{is_in, is-out}
use Rattle.drill.proofs.run.list.Goals as goal

not-empty : (n : ℕ) → false ≡ eqb n 0 → 0 < n
not-empty n e = omega (arith, eqb-false n 0 (sym e))

pub returns-then-is_empty : goal.returns-then-is_empty
returns-then-is_empty c = lists_none _ _ (eqb-true _ 0 (sym c.if-is_empty.ensures))

pub put_last-requires : goal.put_last-requires
put_last-requires c = first-room c.args.sheet.now _ c.requires.1

pub returns-in_default : goal.returns-in_default
returns-in_default c =
    let h = not-empty (length c.args.sheet.now) c.if-is_empty.ensures in
    rw c.put_last.ensures.1 (lists-117 _ _ h (sym c.in_default.ensures) c.put_last.ensures.0)

pub put_last-requires-then-outside : goal.put_last-requires-then-outside
put_last-requires-then-outside c = first-room c.args.sheet.now _ c.requires.1

pub returns-then-outside : goal.returns-then-outside
returns-then-outside c =
    let h = not-empty (length c.args.sheet.now) c.if-is_empty.ensures in
    rw c.put_last-then-outside.ensures.1 (lists-103 _ _ h _ (sym c.in-Some.ensures)
    (is-out 1 top_faults c.in-Some.l.client c.outside.ensures c.if-outside.true) c.put_last-then-outside.ensures.0)

pub rows_from-requires : goal.rows_from-requires
rows_from-requires c =
    let h = not-empty (length c.args.sheet.now) c.if-is_empty.ensures in (
      (is_in 1 top_faults c.in-Some.l.client c.outside.ensures c.if-outside.false, c.blank_servers.ensures),
      (rw c.next_line.ensures (next-later _ 0 h).1, rw c.next_line.ensures (rows-room _ _ c.requires.1 h)),
    )

pub returns : goal.returns
returns c =
    let h = not-empty (length c.args.sheet.now) c.if-is_empty.ensures in
    lists-rows _ _ h _ (sym c.in-Some.ensures) (is_in 1 top_faults c.in-Some.l.client c.outside.ensures c.if-outside.false) (rw c.next_line.ensures at c.rows_from.ensures)

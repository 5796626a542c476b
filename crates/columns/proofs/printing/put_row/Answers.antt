-- By the room that there is; the columns, and the end of the row past them.
use Rattle.std.proofs.Common.{length, arith}
use Rattle.columns.proofs.Printed.{no_room, put-newline, room_short, room_fits}
use Rattle.columns.proofs.printing.put_row.Goals as goal
use Rattle.columns.proofs.printing.put_row.Goals.{then-out-at-via-then-out-at, then-out-at-via-else-out-at+then-out-at-2}

pub returns-then-out-at : goal.returns-then-out-at
returns-then-out-at c =
    let a = c.args in
    elim c.then-out-at.branch [
      | then-out-at-via-then-out-at w ↦ no_room a.out.now a.at a.values.now (omega arith)
      | then-out-at-via-else-out-at+then-out-at-2 w ↦
          no_room a.out.now a.at a.values.now
          (room_short (length a.out.now) a.at (length a.values.now) w.if-out-at.false w.if-out-at-2.true)
    ]

pub returns : goal.returns
returns c =
    let a = c.args in
    let fits = room_fits (length a.out.now) a.at (length a.values.now) c.if-out-at.false c.if-out-at-2.false in
    put-newline a.out.now a.at a.values.now fits c.put_columns.ensures

-- A head is written as its kind, client, server and t, and its call's number.
use Rattle.std.proofs.Common.{arith}
use Rattle.wire.proofs.Put.{no-head, head-placed}
use Rattle.wire.proofs.make.put_head.Goals as goal
use Rattle.wire.proofs.make.put_head.Goals.{then-out-at-via-then-out-at, then-out-at-via-else-out-at+then-out-at-lt-HEAD}

pub returns-then-out-at : goal.returns-then-out-at
returns-then-out-at c =
    let a = c.args in
    elim c.then-out-at.branch [
      | then-out-at-via-then-out-at w ↦ no-head a.head a.out.now a.at (omega arith)
      | then-out-at-via-else-out-at+then-out-at-lt-HEAD w ↦ no-head a.head a.out.now a.at (omega arith)
    ]

pub returns : goal.returns
returns c = let a = c.args in head-placed a.head a.out.now a.at (omega arith) c.put-a.ensures c.put_number4.ensures

use Rattle.std.proofs.Common.{arith}
use Rattle.wire.proofs.Put.{wrote-placed, none-placed}
use Rattle.wire.proofs.make.put.Goals as goal
use Rattle.wire.proofs.make.put.Goals.{then-out-at-via-then-out-at, then-out-at-via-else-out-at+then-out-at-2}

pub returns-then-out-at : goal.returns-then-out-at
returns-then-out-at c =
    let a = c.args in
    elim c.then-out-at.branch [
      | then-out-at-via-then-out-at w ↦ none-placed a.out.now a.at a.bytes.now (omega arith)
      | then-out-at-via-else-out-at+then-out-at-2 w ↦ none-placed a.out.now a.at a.bytes.now (omega arith)
    ]

pub returns : goal.returns
returns c = wrote-placed c.copy.ensures (omega arith)

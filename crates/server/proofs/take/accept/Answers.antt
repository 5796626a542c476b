-- One law for each number. Assumes nothing.
use Rattle.std.proofs.Common.{arith}
use Rattle.server.proofs.Taking.{other-t, other-server, is-barred, short, let_in}
use Rattle.server.proofs.take.accept.Goals as goal
use Rattle.server.proofs.take.accept.Goals.{then-head-opened-via-then-head-opened, then-head-opened-via-else-head-opened+then-head-opened-2}

pub returns-then-head-opened : goal.returns-then-head-opened
returns-then-head-opened c packet label =
    elim c.then-head-opened.branch [
      | then-head-opened-via-then-head-opened w ↦
          other-t c.args.passed.head c.args.opened packet c.args.room w.if-head-opened.true
      | then-head-opened-via-else-head-opened+then-head-opened-2 w ↦
          other-server c.args.passed.head c.args.opened packet c.args.room w.if-head-opened.false w.if-head-opened-2.true
    ]

pub returns-then-barred : goal.returns-then-barred
returns-then-barred c packet label =
    is-barred c.args.passed.head c.args.opened packet c.args.room c.if-head-opened.false c.if-head-opened-2.false (c.barred.ensures packet label)
    c.if-barred.true

pub returns-then-room-lt-PACKET_ROOM : goal.returns-then-room-lt-PACKET_ROOM
returns-then-room-lt-PACKET_ROOM c packet label =
    short c.args.passed.head c.args.opened packet c.args.room c.if-head-opened.false c.if-head-opened-2.false (c.barred.ensures packet label)
    c.if-barred.false (omega arith)

pub returns : goal.returns
returns c packet label =
    let_in c.args.passed.head c.args.opened packet c.args.room c.if-head-opened.false c.if-head-opened-2.false (c.barred.ensures packet label)
    c.if-barred.false (omega arith)

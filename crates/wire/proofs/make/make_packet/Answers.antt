-- A packet is its head and the two runs of its body, written one after the other where there is room for all of them.
use Rattle.std.proofs.Common.{arith}
use Rattle.wire.proofs.Put.{short_buffer, short-room, packet-made}
use Rattle.wire.proofs.make.make_packet.Goals as goal
use Rattle.wire.proofs.make.make_packet.Goals.{then-room-first-via-then-room-first, then-room-first-via-else-room-first+then-room-first-2}

pub returns-then-out-lt-PACKET_ROOM : goal.returns-then-out-lt-PACKET_ROOM
returns-then-out-lt-PACKET_ROOM c = let a = c.args in short_buffer a.head a.first.now a.second.now a.out.now (omega arith)

pub returns-then-room-first : goal.returns-then-room-first
returns-then-room-first c =
    let a = c.args in
    elim c.then-room-first.branch [
      | then-room-first-via-then-room-first w ↦ short-room a.head a.first.now a.second.now a.out.now (omega arith) (omega arith)
      | then-room-first-via-else-room-first+then-room-first-2 w ↦ short-room a.head a.first.now a.second.now a.out.now (omega arith) (omega arith)
    ]

pub returns : goal.returns
returns c =
    let a = c.args in
    packet-made a.head a.first.now a.second.now a.out.now (omega arith) (omega arith) c.put_head-a.ensures c.put-b.ensures c.put.ensures

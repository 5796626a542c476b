use Rattle.std.proofs.Common.{arith}
use Rattle.cluster.specs.Ranges.{top_client, most_servers, top_faults}
use Rattle.format.proofs.Leaves.{stops_first, stops_second, stops-via, stops-kept}
use Rattle.protocol.specs.Packet.{head_f}
use Rattle.wire.proofs.Heads.{head-took, head-outside, byte_range}
use Rattle.wire.proofs.packet.head_field.Goals as goal

pub returns-in_err-kind : goal.returns-in_err-kind
unfolding head_f
returns-in_err-kind c =
    let kind = rw (c.from.ensures, c.number.ensures, c.from-2.ensures, c.number-2.ensures) at c.in_err-kind.ensures in
    rw c.from_residual.ensures (stops-kept _ _ (stops-via _ _ _ (stops_first _ _ kind)))

pub returns-in_err-client : goal.returns-in_err-client
unfolding head_f
returns-in_err-client c =
    let kind = rw (c.from.ensures, c.number.ensures, c.from-2.ensures, c.number-2.ensures) at c.in_ok-kind.ensures in
    rw c.from_residual-in_err-client.ensures
    (stops-kept _ _ (stops-via _ _ _ (stops_second _ _ kind.leaves (stops_first _ _ c.in_err-client.ensures))))

pub returns-in_err-server : goal.returns-in_err-server
unfolding head_f
returns-in_err-server c =
    let kind = rw (c.from.ensures, c.number.ensures, c.from-2.ensures, c.number-2.ensures) at c.in_ok-kind.ensures in
    rw c.from_residual-in_err-server.ensures
    (stops-kept _ _
    (stops-via _ _ _
    (stops_second _ _ kind.leaves (stops_second _ _ c.in_ok-client.ensures.leaves (stops_first _ _ c.in_err-server.ensures)))))

pub returns-in_err-t : goal.returns-in_err-t
unfolding head_f
returns-in_err-t c =
    let kind = rw (c.from.ensures, c.number.ensures, c.from-2.ensures, c.number-2.ensures) at c.in_ok-kind.ensures in
    rw c.from_residual-in_err-t.ensures
    (stops-kept _ _
    (stops-via _ _ _
    (stops_second _ _ kind.leaves
    (stops_second _ _ c.in_ok-client.ensures.leaves
    (stops_second _ _ c.in_ok-server.ensures.leaves (stops_first _ _ c.in_err-t.ensures))))))

pub returns-in_err-call : goal.returns-in_err-call
unfolding head_f
returns-in_err-call c =
    let kind = rw (c.from.ensures, c.number.ensures, c.from-2.ensures, c.number-2.ensures) at c.in_ok-kind.ensures in
    rw c.from_residual-in_err-call.ensures
    (stops-kept _ _
    (stops-via _ _ _
    (stops_second _ _ kind.leaves
    (stops_second _ _ c.in_ok-client.ensures.leaves
    (stops_second _ _ c.in_ok-server.ensures.leaves (stops_second _ _ c.in_ok-t.ensures.leaves c.in_err-call.ensures))))))

pub overflow_cast-t : goal.overflow_cast-t
overflow_cast-t c = omega (arith, (byte_range 1 top_faults c.in_ok-t.ensures).1)

pub returns-then-servers-server : goal.returns-then-servers-server
returns-then-servers-server c =
    let kind = rw (c.from.ensures, c.number.ensures, c.from-2.ensures, c.number-2.ensures) at c.in_ok-kind.ensures in
    head-outside kind c.in_ok-client.ensures c.in_ok-server.ensures c.in_ok-t.ensures c.in_ok-call.ensures (omega (arith, c.servers.ensures))

pub overflow_cast-head : goal.overflow_cast-head
overflow_cast-head c =
    let kind = rw (c.from.ensures, c.number.ensures, c.from-2.ensures, c.number-2.ensures) at c.in_ok-kind.ensures in
    omega (arith, (byte_range 1 12 kind).1)

pub overflow_cast-head-2 : goal.overflow_cast-head-2
overflow_cast-head-2 c = omega (arith, (byte_range 1 top_client c.in_ok-client.ensures).1)

pub overflow_cast-head-3 : goal.overflow_cast-head-3
overflow_cast-head-3 c = omega (arith, (byte_range 1 most_servers c.in_ok-server.ensures).1)

pub overflow_cast-head-4 : goal.overflow_cast-head-4
overflow_cast-head-4 c = omega (arith, (byte_range 1 top_faults c.in_ok-t.ensures).1)

pub returns : goal.returns
returns c =
    let kind = rw (c.from.ensures, c.number.ensures, c.from-2.ensures, c.number-2.ensures) at c.in_ok-kind.ensures in
    head-took kind c.in_ok-client.ensures c.in_ok-server.ensures c.in_ok-t.ensures c.in_ok-call.ensures (omega (arith, c.servers.ensures))

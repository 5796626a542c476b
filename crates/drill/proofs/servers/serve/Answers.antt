-- The server's step on its memory. Assumes nothing.
use Rattle.std.proofs.Common.{◌+◌, ◌-◌, arith, replicate}
use Rattle.protocol.specs.ServerBytes.{server_take}
use Rattle.protocol.specs.Primitives.{real}
use Rattle.drill.proofs.Slots.{serves_as}
use Rattle.drill.proofs.servers.serve.Goals as goal

pub returns : goal.returns
returns c =
    let a = c.args in
    serves_as a.work.now a.server c.requires.0 c.requires.1 (c.server_at-a.result + 40960 - c.server_at-a.result) c.server_at-a.ensures.0
    (omega arith) (λ z. server_take real z (replicate 32 a.server) a.packet.now a.out.now) c.take.auto.memory c.take.ensures

-- Server after server. Assumes nothing.
use Rattle.std.proofs.Common.{◌+◌, arith}
use Rattle.drill.proofs.Beginning.{ready_none, ready_more, ready_all}
use Rattle.drill.proofs.Memories.{few-servers}
use Rattle.drill.proofs.run.blank_servers.Goals as goal

pub loop-server-init : goal.loop-server-init
loop-server-init c = ready_none _ _ c.requires.1.0 c.requires.1.1

pub blank-requires : goal.blank-requires
blank-requires c =
    let e = c.servers-server-end.ensures in
    (few-servers c.args.t c.loop-server.server c.requires.0.1 (c.loop-server.invariant.low, omega arith), c.loop-server.invariant.size)

pub loop-server-preserved : goal.loop-server-preserved
loop-server-preserved c =
    let e = c.servers-server-end.ensures in
    ready_more _ _ _ _ c.requires.0 (omega arith) c.loop-server.invariant c.blank.ensures

pub returns : goal.returns
returns c = let e = c.servers-server-end.ensures in ready_all _ _ _ (omega arith) c.loop-server.invariant

pub returns-2 : goal.returns-2
returns-2 c =
    let e = c.servers-server-end.ensures in
    ready_all _ (c.loop-server.server + 1) _ (omega arith) (ready_more _ _ _ _ c.requires.0 (omega arith) c.loop-server.invariant c.blank.ensures)

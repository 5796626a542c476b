-- Each field that breaks stops the memory there; zeros to the end open it. Assumes nothing.
use Rattle.std.proofs.Common.{arith}
use Rattle.cluster.specs.Ranges.{top_faults}
use Rattle.wire.proofs.Heads.{byte_range}
use Rattle.server.proofs.Open.{no-t, no-server, no-count, no-latest, at-writes, no_writes, opens-as, servers-most}
use Rattle.server.proofs.memory.open.Goals as goal

pub returns-in_err-faults : goal.returns-in_err-faults
returns-in_err-faults c = rw c.from_residual.ensures (no-t c.requires c.in_err-faults.ensures)

pub overflow_cast-servers : goal.overflow_cast-servers
overflow_cast-servers c = omega (arith, servers-most (byte_range 1 top_faults c.in_ok-faults.ensures).1 c.servers-servers.ensures)

pub returns-in_err-number : goal.returns-in_err-number
returns-in_err-number c =
    rw c.from_residual-in_err-number.ensures (no-server c.requires c.in_ok-faults.ensures c.servers-servers.ensures c.in_err-number.ensures)

pub returns-in_err-n : goal.returns-in_err-n
returns-in_err-n c =
    rw c.from_residual-in_err-n.ensures
    (no-count c.requires c.in_ok-faults.ensures c.servers-servers.ensures c.in_ok-number.ensures c.in_err-n.ensures)

pub returns-in_err-past_latest : goal.returns-in_err-past_latest
returns-in_err-past_latest c =
    rw c.from_residual-in_err-past_latest.ensures
    (no-latest c.requires c.in_ok-faults.ensures c.servers-servers.ensures c.in_ok-number.ensures c.in_ok-n.ensures c.in_err-past_latest.ensures)

pub check_writes-requires : goal.check_writes-requires
check_writes-requires c =
    let latest = c.in_ok-past_latest.ensures.took in (
      at-writes c.requires c.in_ok-faults.ensures c.servers-servers.ensures c.in_ok-number.ensures c.in_ok-n.ensures latest,
      latest.leaves.within,
    )

pub returns-in_err-end : goal.returns-in_err-end
returns-in_err-end c =
    rw c.from_residual-in_err-end.ensures
    (no_writes c.requires c.in_ok-faults.ensures c.servers-servers.ensures c.in_ok-number.ensures c.in_ok-n.ensures
    c.in_ok-past_latest.ensures.took (λ i. (c.type_inv.memory i).fits) c.in_err-end.ensures)

pub returns : goal.returns
returns c =
    rw c.then_some.ensures
    (opens-as c.requires c.in_ok-faults.ensures c.servers-servers.ensures c.in_ok-number.ensures c.in_ok-n.ensures
    c.in_ok-past_latest.ensures.took c.in_ok-end.ensures (λ i. (c.type_inv.memory i).fits) c.rest.ensures c.all_zero.ensures)

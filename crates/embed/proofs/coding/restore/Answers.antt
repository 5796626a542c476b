-- The count belongs to a legal content.
use Rattle.std.proofs.Common.{arith}
use Rattle.embed.proofs.Coded.{restored-count}
use Rattle.embed.proofs.coding.restore.Goals as goal

pub overflow_cast-count : goal.overflow_cast-count
overflow_cast-count c =
    let a = c.args in
    omega (arith, restored-count a.t a.length a.servers.now a.fragments.now a.out.now _ _ c.in_ok-count.ensures)

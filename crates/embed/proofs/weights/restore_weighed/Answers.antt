-- The count belongs to a legal content.
use Rattle.std.proofs.Common.{arith}
use Rattle.embed.proofs.Weighing.{weighed-count}
use Rattle.embed.proofs.weights.restore_weighed.Goals as goal

pub overflow_cast-count : goal.overflow_cast-count
overflow_cast-count c =
    let a = c.args in
    omega (arith, weighed-count a.t a.length a.rows.now a.fragments.now a.out.now _ _ _ c.in_ok-count.ensures)

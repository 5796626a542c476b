-- A key of five bytes and the slot's byte. Assumes nothing.
use Rattle.std.proofs.Common.{arith}
use Rattle.cluster.specs.Config.{shelf}
use Rattle.server.proofs.Ranking.{key_fits, rank-made}
use Rattle.server.proofs.rank.rank_at.Goals as goal

pub overflow_mul-result : goal.overflow_mul-result
overflow_mul-result c =
    omega (arith, key_fits (shelf c.args.t) c.args.list.now c.args.i (λ i. (c.type_inv.list i).fits) c.slot.ensures c.rank_at.ensures)

pub overflow_add-result : goal.overflow_add-result
overflow_add-result c =
    omega (arith, c.from.ensures, key_fits (shelf c.args.t) c.args.list.now c.args.i (λ i. (c.type_inv.list i).fits) c.slot.ensures c.rank_at.ensures)

pub returns : goal.returns
returns c = rw c.from.ensures (rank-made (shelf c.args.t) c.args.list.now c.args.i c.slot.ensures c.rank_at.ensures)

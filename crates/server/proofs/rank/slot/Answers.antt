-- The part at the slot's place. Assumes nothing.
use Rattle.std.proofs.Common.{◌∙◌, ap, ℕ, ◌*◌, arith}
use Rattle.cluster.specs.Config.{shelf}
use Rattle.format.specs.Reading.{bytes_at}
use Rattle.server.proofs.Ranking.{place-fits, slot-made}
use Rattle.server.proofs.rank.slot.Goals as goal

pub overflow_mul-size : goal.overflow_mul-size
overflow_mul-size c = record { fits = place-fits c.args.t c.from.result (omega arith) (omega arith) c.candidate_size-size.ensures }

pub returns : goal.returns
returns c =
    slot-made (shelf c.args.t) c.args.list.now c.args.i c.candidate_size-size.ensures c.candidate_size-size.ensures
    (c.part.ensures ∙ ap (λ (k : ℕ). bytes_at c.args.list.now (c.candidate_size-size.result * k) c.candidate_size-size.result) c.from.ensures)

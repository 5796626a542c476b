-- A candidate is compared by its bytes. Nothing is assumed.
use Rattle.std.proofs.Common.{◌∙◌, arith}
use Rattle.cluster.specs.Config.{shelf}
use Rattle.decide.proofs.Places.{part_of, same_slots}
use Rattle.decide.proofs.list.twins.Goals as goal

pub returns : goal.returns
returns c =
    let a = c.args in
    let p = c.requires in
    c.same.ensures ∙ rw (part_of, part_of, c.servers.ensures.0)
    (same_slots (shelf a.t) a.kept.now a.i a.j (omega arith) (λ k. (c.type_inv.kept k).fits) p.0.size p.1 p.2)

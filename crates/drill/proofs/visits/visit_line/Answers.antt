-- Refused before anything acts, or the visit. Assumes nothing.
use Rattle.cluster.specs.Refusals.{refusal_number}
use Rattle.erasure.proofs.Refused.{refused-number}
use Rattle.drill.proofs.Turning.{visit_passes, visit-refused}
use Rattle.drill.proofs.visits.visit_line.Goals as goal

pub returns-in-Ok : goal.returns-in-Ok
returns-in-Ok c = let r = c.in-Ok.ensures in visit_passes c.args.t c.args.work.now c.args.client c.args.server r.told c.visit.ensures

pub returns-in-Err : goal.returns-in-Err
returns-in-Err c =
    let r = c.in-Err.ensures in
    rw c.refused.ensures (visit-refused c.args.t c.args.work.now c.args.client c.args.server (refusal_number c.in-Err.refusal) r.told
    (refused-number c.in-Err.refusal))

-- In the order of the refusals. Assumes nothing.
use Rattle.std.proofs.Common.{◌∙◌, ap}
use Rattle.cluster.specs.Config.{shelf}
use Rattle.cluster.specs.Ranges.{top_client, packet_room}
use Rattle.protocol.specs.Client.{make_refusal_def}
use Rattle.protocol.specs.ClientBytes.{awaited}
use Rattle.drill.proofs.Turning.{refuses-4, refuses-5, refuses_as}
use Rattle.drill.proofs.Stepping.{is_in, is-out}
use Rattle.drill.proofs.visits.visit_refusal.Goals as goal

pub returns-then-outside : goal.returns-then-outside
returns-then-outside c =
    let a = c.args in
    let e = rw c.servers.ensures at c.outside.ensures in
    refuses-4 a.t c.requires a.work.now a.client a.server (is-out 1 (shelf a.t).servers a.server e c.if-outside.true)

pub returns-then-outside-2 : goal.returns-then-outside-2
returns-then-outside-2 c =
    let a = c.args in
    let e = rw c.servers.ensures at c.outside.ensures in
    refuses-5 a.t c.requires a.work.now a.client a.server (is_in 1 (shelf a.t).servers a.server e c.if-outside.false)
    (is-out 1 top_client a.client c.outside-2.ensures c.if-outside-2.true)

pub returns : goal.returns
returns c =
    let a = c.args in
    let e = rw c.servers.ensures at c.outside.ensures in
    refuses_as a.t c.requires a.work.now a.client a.server (is_in 1 (shelf a.t).servers a.server e c.if-outside.false)
    (is_in 1 top_client a.client c.outside-2.ensures c.if-outside-2.false)
    (c.make_refusal.ensures ∙ ap (λ x. make_refusal_def (shelf a.t) a.client a.server (awaited x) packet_room) c.call_of.ensures)

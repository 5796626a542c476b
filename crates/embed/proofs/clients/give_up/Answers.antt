-- Where the core refuses, the state is as it was; else its call is put back.
use Rattle.std.proofs.Common.{◌≡◌, length, rules, arith}
use Rattle.std.proofs.lemmas.Grind.{common_steps}
use Rattle.std.proofs.lemmas.Result.{err_from_is_err_and}
use Rattle.cluster.specs.Ranges.{most_servers}
use Rattle.format.specs.Format.{Bytes}
use Rattle.embed.specs.Clients.{client_size}
use Rattle.std.proofs.Common.{ap, ◌∙◌}
use Rattle.embed.specs.Packing.{packed_answer}
use Rattle.embed.proofs.Sessions.{gave-up, give-up-refused}
use Rattle.embed.proofs.clients.give_up.Goals as goal

pub returns-in_err-stopped : goal.returns-in_err-stopped
returns-in_err-stopped c =
    let a = c.args in
    let d = a.state.now in
    let size : length d ≡ client_size = grind (arith, common_steps) in
    let bs : Bytes d = search rules in
    let p = err_from_is_err_and c.from_residual-in_err-stopped.result c.from_residual-in_err-stopped.ensures.1 in
    rw (p.1, p.2) (give-up-refused d size _ c.read.ensures a.party.t a.party.client _ c.in_err-stopped.ensures bs)

pub returns : goal.returns
returns c =
    let a = c.args in
    let d = a.state.now in
    let size : length d ≡ client_size = grind (arith, common_steps) in
    let marks : length c.in_ok-stopped.stopped.call.tally.marks ≡ most_servers = search rules in
    gave-up d size _ c.read.ensures a.party.t a.party.client _ _ c.in_ok-stopped.ensures marks c.put.ensures
    (c.told.ensures ∙ ap packed_answer c.from.ensures)

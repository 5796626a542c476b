-- Where the core refuses, the state is as it was; else its call is put back.
use Rattle.std.proofs.Common.{◌≡◌, length, rules, arith}
use Rattle.std.proofs.lemmas.Grind.{common_steps}
use Rattle.std.proofs.lemmas.Result.{err_from_is_err_and}
use Rattle.cluster.specs.Ranges.{most_servers, key_size}
use Rattle.format.specs.Format.{Bytes}
use Rattle.embed.specs.Clients.{client_size, keys_size, keys_in}
use Rattle.std.proofs.Common.{ap, ◌∙◌}
use Rattle.embed.specs.Packing.{packed_answer}
use Rattle.embed.proofs.Sessions.{took, take-refused}
use Rattle.embed.proofs.clients.take.Goals as goal

pub returns-in_err-taken : goal.returns-in_err-taken
returns-in_err-taken c =
    let a = c.args in
    let d = a.state.now in
    let size : length d ≡ client_size = grind (arith, common_steps) in
    let long : length a.writers.now ≡ key_size = grind (arith, common_steps) in
    let all : length a.keys.now ≡ keys_size = grind (arith, common_steps) in
    let same : c.in_ok-writers.writers ≡ a.writers.now = grind (arith, common_steps) in
    let each : c.in_ok-keys.keys ≡ keys_in a.keys.now = grind (arith, common_steps) in
    let bs : Bytes d = search rules in
    let p = err_from_is_err_and c.from_residual-in_err-taken.result c.from_residual-in_err-taken.ensures.1 in
    rw (p.1, p.2)
    (take-refused d size _ c.read.ensures a.party.t a.party.client a.writers.now a.keys.now a.packet.now a.out.now _
    (rw (same, each) at c.in_err-taken.ensures) bs long all)

pub returns : goal.returns
returns c =
    let a = c.args in
    let d = a.state.now in
    let size : length d ≡ client_size = grind (arith, common_steps) in
    let long : length a.writers.now ≡ key_size = grind (arith, common_steps) in
    let all : length a.keys.now ≡ keys_size = grind (arith, common_steps) in
    let same : c.in_ok-writers.writers ≡ a.writers.now = grind (arith, common_steps) in
    let each : c.in_ok-keys.keys ≡ keys_in a.keys.now = grind (arith, common_steps) in
    let marks : length c.in_ok-taken.taken.call.tally.marks ≡ most_servers = search rules in
    took d size _ c.read.ensures a.party.t a.party.client a.writers.now a.keys.now a.packet.now a.out.now _ _
    (rw (same, each) at c.in_ok-taken.ensures) c.take_in.auto.kept marks c.put.ensures (c.told.ensures ∙ ap packed_answer c.from.ensures) long all

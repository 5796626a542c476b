-- Where the core refuses, the state is as it was; else its call is put back.
use Rattle.std.proofs.Common.{◌≡◌, length, rules, arith}
use Rattle.std.proofs.lemmas.Grind.{common_steps}
use Rattle.std.proofs.lemmas.Result.{err_from_is_err_and}
use Rattle.cluster.specs.Ranges.{most_servers}
use Rattle.format.specs.Format.{Bytes}
use Rattle.embed.specs.Clients.{client_size}
use Rattle.protocol.specs.Values.{nonce_size}
use Rattle.embed.proofs.Sessions.{write-began, write-refused}
use Rattle.embed.proofs.clients.begin_write.Goals as goal

pub returns-in_err-call : goal.returns-in_err-call
returns-in_err-call c =
    let a = c.args in
    let d = a.state.now in
    let size : length d ≡ client_size = grind (arith, common_steps) in
    let long : length a.nonce.now ≡ nonce_size = grind (arith, common_steps) in
    let same : c.in_ok-nonce.nonce ≡ a.nonce.now = grind (arith, common_steps) in
    let bs : Bytes d = search rules in
    let p = err_from_is_err_and c.from_residual-in_err-call.result c.from_residual-in_err-call.ensures.1 in
    rw (p.1, p.2)
    (write-refused d size _ c.read.ensures a.party.t a.party.client a.content.now a.nonce.now _ (rw same at c.in_err-call.ensures) bs long)

pub returns : goal.returns
returns c =
    let a = c.args in
    let d = a.state.now in
    let size : length d ≡ client_size = grind (arith, common_steps) in
    let long : length a.nonce.now ≡ nonce_size = grind (arith, common_steps) in
    let same : c.in_ok-nonce.nonce ≡ a.nonce.now = grind (arith, common_steps) in
    let marks : length c.in_ok-call.call.tally.marks ≡ most_servers = search rules in
    write-began d size _ c.read.ensures a.party.t a.party.client a.content.now a.nonce.now _ (rw same at c.in_ok-call.ensures)
    c.begin_write_in.auto.kept marks c.put.ensures c.counted.ensures long

-- The kept bytes have their length: what is left are the cases of the definition. Nothing is assumed.
use Rattle.std.proofs.Common.{◌∙◌, rules}
use Rattle.std.proofs.lemmas.Result.{err_from_is_err_and}
use Rattle.client.proofs.Begins.{core_write_lem}
use Rattle.client.proofs.begin_write.Goals as goal

pub returns-in_err-call : goal.returns-in_err-call
returns-in_err-call c =
    let a = c.args in
    let p = err_from_is_err_and c.from_residual.result c.from_residual.ensures.1 in
    rw (p.1, p.2) (c.in_err-call.ensures ∙ core_write_lem a.party.t a.party.client a.call.now a.kept.now a.content.now a.nonce.now (search rules))

pub returns : goal.returns
returns c = let a = c.args in c.in_ok-call.ensures ∙ core_write_lem a.party.t a.party.client a.call.now a.kept.now a.content.now a.nonce.now (search rules)

-- The kept bytes have their length: what is left are the cases of the definition. Nothing is assumed.
use Rattle.std.proofs.Common.{◌∙◌, rules}
use Rattle.std.proofs.lemmas.Result.{err_from_is_err_and}
use Rattle.client.proofs.TakeTests.{core_take_lem}
use Rattle.client.proofs.take.Goals as goal

pub returns-in_err-taken : goal.returns-in_err-taken
returns-in_err-taken c =
    let a = c.args in
    let p = err_from_is_err_and c.from_residual.result c.from_residual.ensures.1 in
    rw (p.1, p.2) (c.in_err-taken.ensures ∙ core_take_lem a.party.t a.party.client a.writers.now a.keys.now a.call.now a.kept.now a.reply.now a.out.now
    (search rules))

pub returns : goal.returns
returns c =
    let a = c.args in
    c.in_ok-taken.ensures ∙ core_take_lem a.party.t a.party.client a.writers.now a.keys.now a.call.now a.kept.now a.reply.now a.out.now (search rules)

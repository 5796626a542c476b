-- The kept bytes have their length: what is left are the refusals of the definition. Nothing is assumed.
use Rattle.std.proofs.Common.{◌∙◌, rules}
use Rattle.client.proofs.Makes.{core_make_lem}
use Rattle.client.proofs.make.Goals as goal

pub returns : goal.returns
returns c =
    let a = c.args in
    c.make_in.ensures ∙ core_make_lem a.party.t a.party.client a.server a.call a.kept.now a.out.now (search rules)

-- Each way to a return is one case of the definition. Nothing is assumed.
use Rattle.std.proofs.Common.{◌∙◌, sym, refl}
use Rattle.std.proofs.lemmas.Result.{err_from_is_err_and}
use Rattle.erasure.proofs.Refused.{refused-number}
use Rattle.client.proofs.Makes.{make_short, make-refused, make_goes, make-fits}
use Rattle.client.proofs.packets.make_in.Goals as goal

pub returns-then-kept-ne-KEPT : goal.returns-then-kept-ne-KEPT
returns-then-kept-ne-KEPT c =
    let a = c.args in sym (make_short a.party.t a.party.client a.server a.call a.kept.now a.out.now c.if-kept-ne-KEPT.true)

pub returns-in_err-round : goal.returns-in_err-round
returns-in_err-round c =
    let a = c.args in
    let p = err_from_is_err_and c.from_residual.result c.from_residual.ensures.1 in
    rw (p.1, p.2) (sym (make-refused a.party.t a.party.client a.server a.call a.kept.now a.out.now c.if-kept-ne-KEPT.false _
    c.in_err-round.ensures.refusal (refused-number c.in_err-round.field-0.0)))

pub make_round-requires : goal.make_round-requires
make_round-requires c =
    let a = c.args in
    let f = make-fits a.party.t a.party.client a.server a.call a.kept.now a.out.now (sym c.in_ok-round.ensures.refusal) in
    (f.0, (f.1.0, (f.1.1.0, (f.1.1.1.0, (f.1.1.1.1.0, (c.if-kept-ne-KEPT.false, (f.1.1.1.1.1.0, c.in_ok-round.ensures.round c.in_ok-round.round refl)))))))

pub returns : goal.returns
returns c =
    let a = c.args in
    c.make_round.ensures ∙ sym (make_goes a.party.t a.party.client a.server a.call a.kept.now a.out.now c.if-kept-ne-KEPT.false
    (sym c.in_ok-round.ensures.refusal))

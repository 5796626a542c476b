-- Kept bytes of another length, a refusal, or a call that begins. Nothing is assumed.
use Rattle.std.proofs.Common.{sym, arith, rules}
use Rattle.std.proofs.lemmas.Result.{err_from_is_err_and}
use Rattle.erasure.proofs.Refused.{refused-number}
use Rattle.client.proofs.Begins.{read_short, read-refused, read-begins, read_fits}
use Rattle.client.proofs.begin.begin_read_in.Goals as goal

pub returns-then-kept-ne-KEPT : goal.returns-then-kept-ne-KEPT
returns-then-kept-ne-KEPT c =
    let a = c.args in sym (read_short a.party.t a.party.client a.call a.kept.now c.if-kept-ne-KEPT.true)

pub returns-in_err-read_refusal : goal.returns-in_err-read_refusal
returns-in_err-read_refusal c =
    let a = c.args in
    let p = err_from_is_err_and c.from_residual.result c.from_residual.ensures.1 in
    rw (p.1, p.2) (sym (read-refused a.party.t a.party.client a.call a.kept.now (search rules) c.if-kept-ne-KEPT.false _
    c.in_err-read_refusal.ensures (refused-number c.in_err-read_refusal.field-0.0)))

pub next_call-requires : goal.next_call-requires
next_call-requires c =
    let a = c.args in
    let f = read_fits a.party.t a.party.client a.call a.kept.now (sym c.in_ok-read_refusal.ensures) in
    omega arith

pub returns : goal.returns
returns c =
    let a = c.args in
    rw (c.next_call.ensures, c.clear_slots.ensures) (sym (read-begins a.party.t a.party.client a.call a.kept.now (search rules)
    c.if-kept-ne-KEPT.false (sym c.in_ok-read_refusal.ensures)))

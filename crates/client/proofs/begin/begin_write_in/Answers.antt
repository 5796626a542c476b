-- Kept bytes of another length, a refusal, or a call that begins. Nothing is assumed.
use Rattle.std.proofs.Common.{sym, arith, rules}
use Rattle.std.proofs.lemmas.Result.{err_from_is_err_and}
use Rattle.erasure.proofs.Refused.{refused-number}
use Rattle.client.proofs.Begins.{write_short, write-refused, write-begins, write-fits}
use Rattle.client.proofs.begin.begin_write_in.Goals as goal

pub returns-then-kept-ne-KEPT : goal.returns-then-kept-ne-KEPT
returns-then-kept-ne-KEPT c =
    let a = c.args in sym (write_short a.party.t a.party.client a.call a.kept.now a.content.now a.nonce.now c.if-kept-ne-KEPT.true)

pub returns-in_err-write_refusal : goal.returns-in_err-write_refusal
returns-in_err-write_refusal c =
    let a = c.args in
    let p = err_from_is_err_and c.from_residual.result c.from_residual.ensures.1 in
    rw (p.1, p.2) (sym (write-refused a.party.t a.party.client a.call a.kept.now a.content.now a.nonce.now (search rules) c.if-kept-ne-KEPT.false _
    c.in_err-write_refusal.ensures (refused-number c.in_err-write_refusal.field-0.0)))

pub keep_write-requires : goal.keep_write-requires
keep_write-requires c =
    let a = c.args in
    let f = write-fits a.party.t a.party.client a.call a.kept.now a.content.now a.nonce.now (sym c.in_ok-write_refusal.ensures) in
    (c.if-kept-ne-KEPT.false, (f.0, search rules))

pub overflow_cast-content : goal.overflow_cast-content
overflow_cast-content c =
    let a = c.args in
    let f = write-fits a.party.t a.party.client a.call a.kept.now a.content.now a.nonce.now (sym c.in_ok-write_refusal.ensures) in
    omega arith

pub next_call-requires : goal.next_call-requires
next_call-requires c =
    let a = c.args in
    let f = write-fits a.party.t a.party.client a.call a.kept.now a.content.now a.nonce.now (sym c.in_ok-write_refusal.ensures) in
    omega arith

pub returns : goal.returns
returns c =
    let a = c.args in
    rw (c.next_call.ensures, c.keep_write.ensures) (sym (write-begins a.party.t a.party.client a.call a.kept.now a.content.now a.nonce.now (search rules)
    c.if-kept-ne-KEPT.false (sym c.in_ok-write_refusal.ensures)))

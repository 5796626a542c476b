-- By the order of the refusals. Assumes nothing.
use Rattle.std.proofs.Common.{◌+◌, ◌∙◌, refl, arith, add-one}
use Rattle.std.proofs.lemmas.List.{length-replicate}
use Rattle.std.proofs.lemmas.Result.{err_from_is_err_and}
use borrow.Author.Tests.{lt-ltb}
use Rattle.cluster.specs.Ranges.{top_writer, top_length}
use Rattle.columns.proofs.Printed.{take_copies}
use Rattle.cluster.specs.Refusals.{refusal_number}
use Rattle.erasure.proofs.Refused.{refused-number}
use Rattle.drill.proofs.Stepping.{is_in, is-out, no-writer, no_size, write-stays, write_moves, counts-begun, counts-refused}
use Rattle.drill.proofs.Visiting.{inside}
use Rattle.drill.proofs.steps.write.Goals as goal

pub returns-then-outside : goal.returns-then-outside
returns-then-outside c =
    let a = c.args in
    write-stays a.t a.begun.now a.client a.size a.fill c.requires.0.0.1 a.work.now 4
    (λ y z. no-writer a.t a.client c.requires.0.0 y z _ _ (is-out 1 top_writer a.client c.outside.ensures c.if-outside.true)) refl

pub returns-then-size-gt-TOP_LENGTH : goal.returns-then-size-gt-TOP_LENGTH
returns-then-size-gt-TOP_LENGTH c =
    let a = c.args in
    write-stays a.t a.begun.now a.client a.size a.fill c.requires.0.0.1 a.work.now 5
    (λ y z. no_size a.t a.client c.requires.0.0 y z _ _
    (inside 1 top_writer a.client (is_in 1 top_writer a.client c.outside.ensures c.if-outside.false))
    (rw length-replicate (lt-ltb top_length a.size c.if-size-gt-TOP_LENGTH.true))) refl

pub returns-in_err-begin_write : goal.returns-in_err-begin_write
returns-in_err-begin_write c =
    let a = c.args in
    let h = is_in 1 top_writer a.client c.outside.ensures c.if-outside.false in
    let why = c.in_err-begin_write.field-0.0 in
    let p = err_from_is_err_and c.from_residual.result c.from_residual.ensures.1 in
    rw (p.1, p.2) (write_moves a.t a.begun.now a.client a.size a.fill c.requires.0.0.1 a.work.now (h.0, omega arith)
    (take_copies a.size top_length a.fill c.if-size-gt-TOP_LENGTH.false) (c.nonce_for-nonce.ensures ∙ rw add-one) c.in_err-begin_write.ensures
    a.begun.now (counts-refused a.begun.now (refusal_number why) (refused-number why)))

pub returns : goal.returns
returns c =
    let a = c.args in
    let h = is_in 1 top_writer a.client c.outside.ensures c.if-outside.false in
    write_moves a.t a.begun.now a.client a.size a.fill c.requires.0.0.1 a.work.now (h.0, omega arith)
    (take_copies a.size top_length a.fill c.if-size-gt-TOP_LENGTH.false) (c.nonce_for-nonce.ensures ∙ rw add-one) c.in_ok-begin_write.ensures
    (a.begun.now + 1) (counts-begun a.begun.now 0 refl)

-- The client's step on its slot. Assumes nothing.
use Rattle.std.proofs.Common.{◌+◌, ◌-◌, ◌∙◌, arith}
use Rattle.std.proofs.lemmas.Result.{err_from_is_err_and}
use Rattle.drill.proofs.Lending.{read_lent, begins_ok, begins_err}
use Rattle.drill.proofs.area.begin_read.Goals as goal

pub returns-in_err-call : goal.returns-in_err-call
returns-in_err-call c =
    let a = c.args in
    let k = c.kept_at-a.result + 24576 - c.kept_at-a.result in
    let p = err_from_is_err_and c.from_residual.result c.from_residual.ensures.1 in
    rw (p.1, p.2) (begins_err a.work.now a.client c.requires.0 c.requires.1 k c.kept_at-a.ensures.0 (omega arith) c.begin_read_in.new.kept
    c.begin_read_in.auto.kept _ _ c.in_err-call.field-0.0
    (c.in_err-call.ensures ∙ read_lent a.work.now a.client c.requires.0 c.requires.1 k c.kept_at-a.ensures.0 (omega arith) a.t
    c.call_of-call.ensures) c.call_of-call.ensures)

pub returns : goal.returns
returns c =
    let a = c.args in
    let k = c.kept_at-a.result + 24576 - c.kept_at-a.result in
    begins_ok a.work.now a.client c.requires.0 c.requires.1 k c.kept_at-a.ensures.0 (omega arith) c.begin_read_in.new.kept c.begin_read_in.auto.kept _ c.call_of-call.result
    c.in_ok-call.call
    (c.in_ok-call.ensures ∙ read_lent a.work.now a.client c.requires.0 c.requires.1 k c.kept_at-a.ensures.0 (omega arith) a.t
    c.call_of-call.ensures) c.put_call.ensures.0 c.put_call.ensures.1

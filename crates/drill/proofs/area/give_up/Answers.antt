-- The client's step on its small state. Assumes nothing.
use Rattle.std.proofs.lemmas.Result.{err_from_is_err_and}
use Rattle.drill.proofs.Lending.{stops_ok, stops_err}
use Rattle.drill.proofs.area.give_up.Goals as goal

pub returns-in_err-stopped : goal.returns-in_err-stopped
returns-in_err-stopped c =
    let p = err_from_is_err_and c.from_residual.result c.from_residual.ensures.1 in
    rw (p.1, p.2) (stops_err c.args.work.now c.args.client c.args.t c.call_of.result c.call_of.ensures c.in_err-stopped.field-0.0
    c.in_err-stopped.ensures)

pub returns : goal.returns
returns c =
    stops_ok c.args.work.now c.args.client c.args.t c.call_of.result c.call_of.ensures c.in_ok-stopped.stopped c.in_ok-stopped.ensures
    c.put_call.ensures.0 c.put_call.ensures.1

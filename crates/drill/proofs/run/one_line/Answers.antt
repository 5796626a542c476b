-- The step, the client's round after it, and the row. Assumes nothing.
use Rattle.drill.proofs.Running.{row_in}
use Rattle.drill.proofs.run.one_line.Goals as goal

pub returns : goal.returns
returns c =
    let a = c.args in
    row_in a.t a.begun.now a.n a.l a.work.now _ a.out.now a.at c.step-shown.ensures c.round_of-round.ensures c.put_step.ensures

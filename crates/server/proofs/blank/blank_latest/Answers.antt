-- One law for each way: the length, no server's memory, the latest made blank. Assumes nothing.
use Rattle.std.proofs.Common.{sym, ◌∙◌}
use Rattle.std.proofs.lemmas.Result.{err_from_is_err_and}
use Rattle.server.proofs.Unraising.{ok_or-err, ok_or-ok, latest-size, latest_broken, latest-blanked}
use Rattle.server.proofs.blank.blank_latest.Goals as goal

pub returns-then-memory-ne-MEMORY : goal.returns-then-memory-ne-MEMORY
returns-then-memory-ne-MEMORY c = latest-size _ c.if-memory-ne-MEMORY.true

pub returns-in_err-opened : goal.returns-in_err-opened
returns-in_err-opened c =
    let p = err_from_is_err_and c.from_residual.result c.from_residual.ensures.1 in
    let q = ok_or-err _ _ c.open.result _ _ (sym c.ok_or.ensures.value ∙ c.in_err-opened.was) c.open.ensures in
    rw (p.1, p.2, q.1) (latest_broken c.args.memory.now c.if-memory-ne-MEMORY.false q.0)

pub returns : goal.returns
returns c =
    let o = ok_or-ok _ _ c.open.result _ _ (sym c.ok_or.ensures.value ∙ c.in_ok-opened.was) c.open.ensures in
    latest-blanked c.args.memory.now c.if-memory-ne-MEMORY.false o.bytes o c.candidate_size.ensures
    c.part-candidate.ensures c.put.ensures

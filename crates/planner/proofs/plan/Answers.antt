-- Refused: the number alone. Made: the arguments are in range, and each part is its definition's. Assumes nothing.
use Rattle.std.proofs.Common.{sym, ap, ◌∙◌, arith}
use Rattle.std.proofs.lemmas.Result.{err_from_is_err_and}
use Rattle.planner.proofs.Refused.{plans}
use Rattle.planner.proofs.Entries.{plan-made, plan-refused}
use Rattle.erasure.proofs.Refused.{refused-number}
use Rattle.planner.specs.Plan.{no_plan}
use Rattle.planner.proofs.plan.Goals as goal

pub returns-in_err-accept : goal.returns-in_err-accept
returns-in_err-accept c =
    let p = err_from_is_err_and c.from_residual.result c.from_residual.ensures.1 in
    let e = c.in_err-accept.ensures in
    rw (p.1, p.2)
    (sym (plan-refused c.args.t c.args.length c.args.readers c.args.stores (λ z. refused-number _ (e ∙ z)) ∙ ap no_plan (sym e)))

pub overflow_cast-faults : goal.overflow_cast-faults
overflow_cast-faults c = omega (arith, (plans _ _ _ _ (sym c.in_ok-accept.ensures)).faults)

pub overflow_cast-size : goal.overflow_cast-size
overflow_cast-size c = omega (arith, (plans _ _ _ _ (sym c.in_ok-accept.ensures)).bytes)

pub kinds-requires : goal.kinds-requires
kinds-requires c = let p = plans _ _ _ _ (sym c.in_ok-accept.ensures) in (p.faults.1, p.bytes)

pub filters-requires : goal.filters-requires
filters-requires c = (plans _ _ _ _ (sym c.in_ok-accept.ensures)).faults.1

pub held-requires : goal.held-requires
held-requires c = let p = plans _ _ _ _ (sym c.in_ok-accept.ensures) in (p.faults.1, p.bytes)

pub packets-requires : goal.packets-requires
packets-requires c = let p = plans _ _ _ _ (sym c.in_ok-accept.ensures) in (p.faults.1, p.together.1)

pub memory-requires : goal.memory-requires
memory-requires c = let p = plans _ _ _ _ (sym c.in_ok-accept.ensures) in (p.faults.1, p.bytes, p.kept)

pub returns : goal.returns
returns c =
    (λ i.
    record {
      number = 0;
      kinds = c.kinds.ensures i;
      filters = c.filters.ensures i;
      held = c.held.ensures i;
      packets = c.packets.ensures i;
      memory = c.memory.ensures i;
    })
    ∙ sym (plan-made c.args.t c.args.length c.args.readers c.args.stores (sym c.in_ok-accept.ensures))

use Rattle.std.proofs.Common.{arith}
use Rattle.state.proofs.Laws.{length-told, length-small}
use Rattle.state.proofs.length_at.Goals as goal

pub overflow_cast-result : goal.overflow_cast-result
overflow_cast-result c =
    let small = length-small c.args.bytes.now c.rest.ensures c.number2.ensures (λ k. (c.type_inv.bytes k).fits) in
    omega (arith, small)

pub returns : goal.returns
returns c = length-told c.args.bytes.now c.rest.ensures c.number2.ensures

use Rattle.std.proofs.Common.{ap, arith, length}
use Rattle.wire.proofs.Leaf.{ends, answers, number4-numbered}
use Rattle.wire.proofs.fields.number4_field.Goals as goal

pub returns-then-b-lt-NUMBER : goal.returns-then-b-lt-NUMBER
returns-then-b-lt-NUMBER c = ends (number4-numbered _ _) _ _ (omega (arith, ap length c.rest-b.ensures))

pub returns : goal.returns
returns c =
    let b = c.rest-b.ensures in
    answers (number4-numbered _ _) _ _ (omega (arith, ap length b)) c.ranged.result (rw b at c.number4.ensures) c.ranged.ensures

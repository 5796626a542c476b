use Rattle.std.proofs.Common.{ap, arith, length}
use Rattle.wire.specs.Places.{length_at}
use Rattle.wire.proofs.Leaf.{ends, answers, number2-numbered}
use Rattle.wire.proofs.fields.number2_field.Goals as goal

pub returns-then-b-lt-LENGTH : goal.returns-then-b-lt-LENGTH
returns-then-b-lt-LENGTH c = ends (number2-numbered _ _) _ _ (omega (arith, ap length c.rest-b.ensures))

pub returns : goal.returns
unfolding length_at
returns c =
    let b = c.rest-b.ensures in
    answers (number2-numbered _ _) _ _ (omega (arith, ap length b)) c.ranged.result (rw b at c.number2.ensures) c.ranged.ensures

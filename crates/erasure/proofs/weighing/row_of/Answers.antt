use Rattle.std.proofs.Common.{◌<◌, IfSome, arith, subst}
use Rattle.erasure.specs.Standing.{weight_in}
use Rattle.erasure.proofs.Units.{row_copied}
use Rattle.erasure.proofs.weighing.row_of.Goals as goal

pub returns-in-Some : goal.returns-in-Some
returns-in-Some c j h =
    let b : c.in-Some.p < c.args.k = subst (λ o. IfSome o (λ p. p < c.args.k)) c.in-Some.is c.requires.2 in
    rw c.in-Some.is (row_copied c.args.k c.args.a c.in-Some.p c.args.z j (omega arith) (omega arith))

pub returns-in-None : goal.returns-in-None
unfolding weight_in
returns-in-None c j h = rw c.in-None.is (c.weights.ensures j (omega arith))

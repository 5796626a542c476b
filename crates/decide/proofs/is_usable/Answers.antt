-- The range of t decides, and then the length. Nothing is assumed.
use Rattle.std.proofs.Common.{◌≡◌, true, false, not}
use borrow.Author.Tests.{not-false, not-true}
use Rattle.cluster.specs.Ranges.{within}
use Rattle.decide.proofs.Arguments.{faults_in, faults_out}
use Rattle.decide.proofs.is_usable.Goals as goal

pub returns-then-not-outside : goal.returns-then-not-outside
returns-then-not-outside c =
    let h : not (within 1 4 c.args.t) ≡ false = cc in
    faults_in c.args.t c.args.kept.now (not-false _ h)

pub returns-else-not-outside : goal.returns-else-not-outside
returns-else-not-outside c =
    let h : not (within 1 4 c.args.t) ≡ true = cc in
    rw c.if-not-outside.false (faults_out c.args.t c.args.kept.now (not-true _ h))

-- The sum fits, since a fragment has no more bytes than the content and t. Nothing is assumed.
use Rattle.std.proofs.Common.{arith}
use Rattle.cluster.specs.Config.{shelf}
use Rattle.wire.proofs.Lengths.{fragment-few}
use Rattle.decide.proofs.tags_at.Goals as goal

pub overflow_add-result : goal.overflow_add-result
overflow_add-result c = omega (arith, c.fragment_size.ensures, fragment-few c.args.t c.args.n)

pub overflow_add-result-2 : goal.overflow_add-result-2
unfolding shelf
overflow_add-result-2 c = omega (arith, c.fragment_size.ensures, fragment-few c.args.t c.args.n, c.digests_size.ensures)

pub overflow_add-result-3 : goal.overflow_add-result-3
unfolding shelf
overflow_add-result-3 c = omega (arith, c.fragment_size.ensures, fragment-few c.args.t c.args.n, c.digests_size.ensures)

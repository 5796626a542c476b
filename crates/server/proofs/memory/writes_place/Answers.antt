-- The stored writes follow the latest candidate. t is a byte, so a candidate is short, and the sum is a number of the machine. Assumes nothing.
use Rattle.std.proofs.Common.{arith}
use Rattle.cluster.specs.Config.{shelf}
use Rattle.server.proofs.memory.writes_place.Goals as goal

pub overflow_add-result : goal.overflow_add-result
unfolding shelf
overflow_add-result c = omega (arith, c.candidate_size.ensures)

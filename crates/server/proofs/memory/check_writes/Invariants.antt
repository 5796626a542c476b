-- So many of the stored writes were read, no two of one stamp, with the highest of them known, and the others stand from the place in hand on.
-- Assumes nothing.
use Rattle.cluster.specs.Config.{shelf}
use Rattle.server.proofs.Once.{Checking}
use Rattle.server.proofs.memory.check_writes.Given as goal

abbrev pub invariant-loop-i : goal.invariant-loop-i
invariant-loop-i l = Checking (shelf l.t) l.n l.memory l.at l.top l.i

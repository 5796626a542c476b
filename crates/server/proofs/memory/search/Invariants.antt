-- So many of the stored writes were passed, none with the stamp's bytes, and the others stand from the place in hand on. Assumes nothing.
use Rattle.cluster.specs.Config.{shelf}
use Rattle.server.proofs.Walk.{Walking}
use Rattle.server.proofs.memory.search.Given as goal

abbrev pub invariant-loop : goal.invariant-loop
invariant-loop l = Walking (shelf l.t) l.n l.memory l.stamp l.at l.counter

-- Server after server. Assumes nothing.
use Rattle.drill.proofs.Beginning.{Ready}
use Rattle.drill.proofs.run.blank_servers.Given as goal

abbrev pub invariant-loop-server : goal.invariant-loop-server
invariant-loop-server l = Ready l.fn.t l.server l.work

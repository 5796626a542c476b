-- `client::rounds::quorum` meets its contract, by those of the functions that it calls. Assumes nothing.
use mathlib.Core.Path.{◌≡◌}
use Prim.Native.Nat.{◌*◌, ◌+◌}
use native.Mathlib.Omega.{arith}
use Rattle.cluster.specs.Config.{shelf, quorum}
use borrow.Author.Rules.{rules}
use Rattle.client.proofs.rounds.quorum.Statement.{statement}
use Rattle.client.proofs.rounds.quorum.Tie as tie

sub-result : tie.Need-overflow_sub-result
unfolding shelf
sub-result c = let e : c.servers.result ≡ 3 * c.args.t + 1 = c.servers.ensures in omega arith

returns : tie.Need-returns
unfolding shelf quorum
returns c = rw c.servers.ensures

pub quorum_spec : {M : Type 1} → statement M
quorum_spec = tie.close (tie.spec (λ c κs. search rules) sub-result returns)

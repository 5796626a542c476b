-- The count is that of the marks. Nothing is assumed.
use Rattle.std.proofs.Common.{◌≡◌, refl, ◌+◌, ◌*◌, arith}
use Rattle.cluster.specs.Config.{shelf}
use Rattle.client.specs.Rounds.{counted}
use Rattle.client.proofs.rounds.recount.Goals as goal

pub count-requires : goal.count-requires
unfolding shelf
count-requires c =
    let e : c.servers.result ≡ 3 * c.args.t + 1 = c.servers.ensures in
    omega (arith, c.requires)

pub returns : goal.returns
unfolding counted
returns c = rw (c.count.ensures, c.servers.ensures) refl

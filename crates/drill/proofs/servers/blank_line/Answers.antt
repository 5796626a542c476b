-- Refused, or the server's memory changes. Assumes nothing.
use Rattle.cluster.specs.Config.{shelf}
use Rattle.drill.proofs.Turning.{blank-refused, blank_moves}
use Rattle.drill.proofs.Stepping.{is_in, is-out}
use Rattle.drill.proofs.Memories.{few-servers}
use Rattle.drill.proofs.servers.blank_line.Goals as goal

pub returns-then-outside : goal.returns-then-outside
returns-then-outside c =
    let a = c.args in
    let e = rw c.servers.ensures at c.outside.ensures in
    blank-refused a.t a.work.now a.server (is-out 1 (shelf a.t).servers a.server e c.if-outside.true)

pub blank_latest-requires : goal.blank_latest-requires
blank_latest-requires c =
    let a = c.args in
    let e = rw c.servers.ensures at c.outside.ensures in
    (few-servers a.t a.server c.requires.0.1 (is_in 1 (shelf a.t).servers a.server e c.if-outside.false), c.requires.1)

pub returns : goal.returns
returns c =
    let a = c.args in
    let e = rw c.servers.ensures at c.outside.ensures in
    blank_moves a.t a.work.now a.server c.requires.0.1 (is_in 1 (shelf a.t).servers a.server e c.if-outside.false) c.blank_latest.ensures

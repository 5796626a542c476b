-- The server's step on its memory. Assumes nothing.
use Rattle.std.proofs.Common.{◌+◌, ◌-◌, arith}
use Rattle.server.specs.Blank.{blank_latest_def}
use Rattle.drill.proofs.Slots.{blanks_as}
use Rattle.drill.proofs.servers.blank_latest.Goals as goal

pub returns : goal.returns
returns c =
    let a = c.args in
    blanks_as a.work.now a.server c.requires.0 c.requires.1 (c.server_at-a.result + 40960 - c.server_at-a.result) c.server_at-a.ensures.0
    (omega arith) (λ z. blank_latest_def z) c.blank_latest.auto.memory c.blank_latest.ensures

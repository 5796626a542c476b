-- The small state over the start of the client's slot. Assumes nothing.
use Rattle.std.proofs.Common.{◌≡◌, ◌+◌, ◌-◌, length, arith, rules}
use Rattle.drill.proofs.Lending.{put_as}
use Rattle.drill.proofs.area.put_call.Goals as goal

pub returns : goal.returns
returns c =
    let a = c.args in
    let m : length a.call.tally.marks ≡ 13 = search rules in (
      put_as a.work.now a.client c.requires.0 c.requires.1 a.call (c.client_at-a.result + 64 - c.client_at-a.result) c.client_at-a.ensures.0
          (omega arith) m c.put.ensures,
      m,
    )

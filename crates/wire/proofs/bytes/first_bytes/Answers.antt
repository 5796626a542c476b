use Rattle.wire.proofs.Runs.{padded-filled}
use Rattle.wire.proofs.bytes.first_bytes.Goals as goal

pub returns : goal.returns
returns g c = rw (c.copy_from_slice.ensures.after, c.min-n.ensures) (padded-filled g.row.N c.args.s.now)

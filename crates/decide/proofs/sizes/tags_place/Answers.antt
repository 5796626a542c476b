-- A whole share fits a reply's slot. Nothing is assumed.
use Rattle.std.proofs.Common.{arith}
use Rattle.protocol.specs.Packet.{share_size_def}
use Rattle.protocol.proofs.Room.{shelf-fits}
use Rattle.decide.proofs.sizes.tags_place.Goals as goal

pub returns : goal.returns
unfolding share_size_def
returns c =
    let p = c.requires in
    let f = (shelf-fits c.args.t p.0 p.1).room c.args.n p.2 in
    record { place = c.tags_at.ensures; room = omega (arith, c.tags_at.ensures, f) }

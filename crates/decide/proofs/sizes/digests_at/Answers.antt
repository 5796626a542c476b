-- Past the fragment there is room for the rest of a share. Nothing is assumed.
use Rattle.std.proofs.Common.{arith}
use Rattle.protocol.specs.Packet.{share_size_def}
use Rattle.protocol.proofs.Room.{shelf-fits}
use Rattle.decide.proofs.sizes.digests_at.Goals as goal

pub overflow_add-result : goal.overflow_add-result
unfolding share_size_def
overflow_add-result c =
    let p = c.requires in omega (arith, (shelf-fits c.args.t p.0 p.1).room c.args.n p.2, c.fragment_size.ensures)

pub returns : goal.returns
unfolding share_size_def
returns c =
    let p = c.requires in
    let f = (shelf-fits c.args.t p.0 p.1).room c.args.n p.2 in
    record { place = omega (arith, c.fragment_size.ensures); room = omega (arith, c.fragment_size.ensures, f) }

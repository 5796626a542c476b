-- By the record length at its start. Assumes nothing.
use Rattle.server.proofs.Held.{size-made}
use Rattle.server.proofs.filter.share_size.Goals as goal

pub returns : goal.returns
returns c = size-made c.args.t c.args.share.now c.number2.ensures c.share_size.ensures

-- The share's place and its length. Assumes nothing.
use Rattle.cluster.specs.Config.{shelf}
use Rattle.server.proofs.Held.{bytes-made}
use Rattle.server.proofs.filter.share_bytes.Goals as goal

pub returns : goal.returns
returns c =
    bytes-made (shelf c.args.t) c.args.memory.now c.args.at c.rest.ensures c.rest-share.ensures c.share_size.ensures c.part.ensures

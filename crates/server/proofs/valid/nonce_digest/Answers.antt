-- The digest's place, field by field. Assumes nothing.
use Rattle.cluster.specs.Config.{shelf}
use Rattle.server.proofs.Testing.{digest_at}
use Rattle.server.proofs.valid.nonce_digest.Goals as goal

pub returns : goal.returns
returns c =
    digest_at (shelf c.args.t) c.args.share.now c.number2.ensures c.fragment_size-size.ensures c.digests_size.ensures c.rest.ensures
    c.rest-2.ensures c.part.ensures

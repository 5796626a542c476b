-- The count, then the write. Assumes nothing.
use Rattle.server.proofs.Keeping.{kept-made}
use Rattle.server.proofs.store.keep_write.Goals as goal

pub returns : goal.returns
returns c = kept-made c.args.memory.now c.args.opened c.args.write.now c.put_byte.ensures c.put.ensures

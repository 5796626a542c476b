-- The mark is that of the server. Nothing is assumed.
use Rattle.std.proofs.Common.{refl}
use Rattle.client.proofs.StampBytes.{marked_at}
use Rattle.client.proofs.replies.is_marked.Goals as goal

pub returns : goal.returns
returns c = rw (c.from.ensures, marked_at c.args.tally.marks c.args.server c.requires.0) refl

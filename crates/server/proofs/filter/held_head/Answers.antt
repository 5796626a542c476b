-- The stamp's bytes and the byte after them. Assumes nothing.
use Rattle.std.proofs.Common.{◌≡◌, length, rules}
use Rattle.hmac.specs.Hmac.{tag_size}
use Rattle.server.proofs.Held.{head-made}
use Rattle.server.proofs.filter.held_head.Goals as goal

pub returns : goal.returns
returns c =
    let l : length c.args.stamp.tag ≡ tag_size = search rules in
    head-made c.args.stamp c.args.flag l c.put_stamp.ensures c.put_byte.ensures

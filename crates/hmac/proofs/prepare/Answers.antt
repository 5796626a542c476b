-- The hash value after each of the key's blocks.
use Rattle.std.proofs.Common.{rules, ◌≡◌}
use Rattle.hmac.specs.Hmac.{key_block}
use Rattle.hmac.specs.PreparedKey.{prepared_of}
use Rattle.hmac.proofs.Laws.{short-key}
use Rattle.hmac.proofs.prepare.Goals as goal

pub returns : goal.returns
unfolding prepared_of
returns c =
    let key = c.args.key in
    let e : key_block key ≡ key = short-key key (search rules) in
    cc

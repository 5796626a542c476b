-- The key is prepared, and serves once.
use Rattle.std.proofs.Common.{◌++◌}
use Rattle.hmac.proofs.Laws.{prepared-tag}
use Rattle.hmac.proofs.tag_with.Goals as goal

pub returns : goal.returns
returns c = let a = c.args in cc (prepared-tag a.key (a.m.now ++ a.d))

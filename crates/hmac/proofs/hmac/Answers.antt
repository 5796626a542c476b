-- The key is prepared, and serves once.
use Rattle.hmac.specs.PreparedKey.{prepared_hmac_def}
use Rattle.hmac.proofs.Laws.{prepared-hmac}
use Rattle.hmac.proofs.hmac.Goals as goal

pub returns : goal.returns
unfolding prepared_hmac_def
returns c = cc (prepared-hmac c.args.key c.args.m.now)

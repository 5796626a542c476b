-- The first bytes of the HMAC.
use Rattle.hmac.specs.PreparedKey.{prepared_hmac_def, prepared_tag}
use Rattle.hmac.proofs.prepared_tag_with.Goals as goal

pub returns : goal.returns
unfolding prepared_hmac_def prepared_tag
returns c = cc

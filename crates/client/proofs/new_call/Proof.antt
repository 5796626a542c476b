-- NEW, field by field. Assumes nothing.
use mathlib.Core.Path.{refl}
use Rattle.protocol.specs.ClientBytes.{fresh}
use Rattle.client.proofs.new_call.Statement.{statement}
use Rattle.client.proofs.new_call.Tie as tie

returns : tie.Need-returns
unfolding fresh
returns c = refl

pub new_call_spec : {M : Type 1} → statement M
new_call_spec = tie.close (tie.spec returns)

-- `client::kept::nonce` meets its contract, by those of the functions that it calls. Assumes nothing.
use mathlib.Core.Path.{◌∙◌}
use Rattle.client.proofs.Offered.{nonce-whole}
use borrow.Author.Rules.{rules}
use Rattle.client.proofs.kept.nonce.Statement.{statement}
use Rattle.client.proofs.kept.nonce.Tie as tie

returns : tie.Need-returns
returns c = c.nonce_of.ensures ∙ rw c.part.ensures (nonce-whole c.args.kept.now
    c.requires)

pub nonce_spec : {M : Type 1} → statement M
nonce_spec = tie.close (tie.spec (λ c κs. search rules) (λ c κs. search rules) returns)

-- `client::kept::write_at` meets its contract, by those of the functions that it calls. Assumes nothing.
use Rattle.wire.proofs.Put.{placed-wrote}
use borrow.Author.Rules.{rules}
use Rattle.client.proofs.kept.write_at.Statement.{statement}
use Rattle.client.proofs.kept.write_at.Tie as tie

returns : tie.Need-returns
returns c = (placed-wrote c.put.ensures c.requires).bytes

pub write_at_spec : {M : Type 1} → statement M
write_at_spec = tie.close (tie.spec (λ c κs. search rules) (λ c. search rules) returns)

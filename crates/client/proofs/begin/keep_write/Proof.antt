-- `client::begin::keep_write` meets its contract, by those of the functions that it calls. Assumes nothing.
use mathlib.Core.Path.{◌∙◌}
use borrow.Author.Rules.{rules}
use Rattle.client.proofs.begin.keep_write.Statement.{statement}
use Rattle.client.proofs.begin.keep_write.Tie as tie

returns : tie.Need-returns
returns c = c.write_at-2.ensures ∙ rw c.write_at.ensures

pub keep_write_spec : {M : Type 1} → statement M
keep_write_spec = tie.close (tie.spec (λ c κs. search rules) (λ c κs. search rules) (λ c. search rules) returns)

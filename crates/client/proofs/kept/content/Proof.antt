-- `client::kept::content` meets its contract, by those of the functions that it calls. Assumes nothing.
use native.Mathlib.Nat.{le_trans}
use Rattle.protocol.specs.View.{content_of}
use Rattle.wire.proofs.Runs.{part-most}
use borrow.Author.Rules.{rules}
use Rattle.client.proofs.kept.content.Statement.{statement}
use Rattle.client.proofs.kept.content.Tie as tie

returns : tie.Need-returns
unfolding content_of
returns c =
    let e = c.part.ensures in
    let n = c.content_length.ensures in
    (rw (e, n.0), le_trans (rw e (part-most c.args.kept.now 0 c.content_length.result)) n.1)

pub content_spec : {M : Type 1} → statement M
content_spec = tie.close (tie.spec (λ c κs. search rules) (λ c κs. search rules) returns)

-- `client::filter::tags_at` meets its contract: what stands before the tags is short. Assumes nothing.
use borrow.Author.Rules.{rules}
use native.Mathlib.Omega.{arith}
use Rattle.client.proofs.Repairs.{tags-room}
use Rattle.client.proofs.filter.tags_at.Statement.{statement}
use Rattle.client.proofs.filter.tags_at.Tie as tie

returns : tie.Need-returns
returns c =
    let at-start = c.before in
    let e = c.tags_at.ensures in
    (e, omega (arith, e, tags-room at-start.args.t at-start.args.n at-start.requires.0 at-start.requires.1))

pub tags_at_spec : {M : Type 1} → statement M
tags_at_spec = tie.close (tie.spec (λ c. search rules) (λ c. search rules) (λ c κs. search rules) returns)

-- `client::prepare::prepare` meets its contract, by those of the functions that it calls. Assumes nothing.
use mathlib.Core.Path.{◌∙◌}
use Rattle.client.proofs.Offered.{offered-made}
use borrow.Author.Rules.{rules}
use Rattle.client.proofs.prepare.prepare.Statement.{statement}
use Rattle.client.proofs.prepare.prepare.Tie as tie

returns : tie.Need-returns
returns c =
    let at-stamp-bytes = c.before.before.before.before.before in
    let at-start = at-stamp-bytes.before.before.before.before in
    let a = at-start.args in
    let p = at-start.requires in
    c.put_tagged.ensures ∙ rw (
      at-stamp-bytes.stamp_bytes-stamp.ensures,
      at-stamp-bytes.nonce-nonce.ensures,
    ) (offered-made a.party.t a.party.client a.writers.now a.keys.now a.call
    a.kept.now a.number)

pub prepare_spec : {M : Type 1} → statement M
prepare_spec = tie.close (tie.spec (λ c κs. search rules) (λ c. search rules) (λ c κs. search rules) (λ c. search rules) (λ c κs. search rules)
    (λ c. search rules) returns)

-- `client::clock::end_clock` meets its contract, by those of the functions that it calls. Assumes nothing.
use mathlib.Core.Path.{◌∙◌}
use native.Mathlib.Numerals.{add-one}
use borrow.Author.Rules.{rules}
use Rattle.client.proofs.clock.end_clock.Statement.{statement}
use Rattle.client.proofs.clock.end_clock.Tie as tie

returns : tie.Need-returns
returns c =
    let at-prepare = c.before.before.before.before in (
      c.more.ensures ∙ rw c.enter_store.ensures,
      at-prepare.prepare.ensures ∙ rw (add-one at-prepare.args.high),
    )

pub end_clock_spec : {M : Type 1} → statement M
end_clock_spec = tie.close (tie.spec (λ c. search rules) (λ c κs. search rules) (λ c κs. search rules) (λ c κs. search rules) (λ c. search rules)
    returns)

-- `client::reads::take_repair` meets its contract, by those of the functions that it calls. Assumes nothing.
use mathlib.Core.Bool.{Bool}
use Rattle.cluster.specs.Config.{shelf}
use Rattle.client.specs.Rounds.{ends}
use mathlib.Core.Path.{◌≡◌, ap}
use Rattle.protocol.specs.declared.Call.{Call}
use Rattle.client.proofs.Tallies.{ends_by}
use borrow.Author.Rules.{rules}
use Rattle.client.proofs.reads.take_repair.Statement.{statement}
use Rattle.client.proofs.reads.take_repair.Tie as tie

module _ (c : tie.After-is_full) where
  abbrev start : tie.Start
  start = c.before.before.before.before.before

  -- the test of the code tells whether the reply ends the round
  ended : (v : Bool) → c.is_full.result ≡ v → ends (shelf start.args.t) start.args.call start.args.server ≡ v
  ended v e =
      ends_by start.args.t start.args.call start.args.server _ (ap (λ (z : Call). z.tally) c.note_reply-noted.ensures) _ v
      c.is_full.ensures e

returns : tie.Need-returns-then-is_full
returns c =
    let at-content = c.before.before.before.before in
    let q = at-content.before in
    let e = ended q.before.before _ q.if-is_full.true in
    let d = c.deliver.ensures in
    let k = at-content.content.ensures.0 in
    (rw (e, d.0, k, q.chosen_label-label.ensures), rw e (rw k at d.1))

returns-2 : tie.Need-returns
returns-2 c =
    let e = ended c.before.before _ c.if-is_full.false in
    (rw (e, c.more.ensures, c.note_reply-noted.ensures), rw e)

pub take_repair_spec : {M : Type 1} → statement M
take_repair_spec = tie.close (tie.spec (λ c κs. search rules) (λ c κs. search rules) (λ c κs. search rules) (λ c κs. search rules)
    (λ c κs. search rules) (λ c. search rules) returns (λ c κs. search rules) returns-2)

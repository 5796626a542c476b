-- A refusal leaves the call; else the round tells how far it had come. Nothing is assumed.
use Rattle.std.proofs.Common.{◌∙◌, refl, rules}
use Rattle.std.proofs.lemmas.Result.{err_from_is_err_and}
use Rattle.cluster.proofs.Tests.{refused_is}
use Rattle.cluster.specs.Config.{shelf}
use Rattle.protocol.specs.Client.{abort_refusal_def}
use Rattle.protocol.specs.ClientBytes.{awaited}
use Rattle.client.specs.Rounds.{abort_by_rounds}
use Rattle.client.proofs.StepsSame.{same_abort}
use Rattle.erasure.proofs.Refused.{refused-number}
use Rattle.client.proofs.begin.give_up_in.Goals as goal

pub returns-in_err-round : goal.returns-in_err-round
unfolding abort_by_rounds
returns-in_err-round c =
    let a = c.args in
    let e = c.in_err-round.ensures.refusal in
    let p = err_from_is_err_and c.from_residual.result c.from_residual.ensures.1 in
    rw (
      p.1,
      p.2,
      same_abort a.party.t a.party.client a.call (search rules),
      refused_is (abort_refusal_def (shelf a.party.t) a.party.client (awaited a.call)) _ _ (λ z. refused-number c.in_err-round.field-0.0 (e ∙ z)),
      ← e,
    ) refl

pub returns : goal.returns
unfolding abort_by_rounds
returns c =
    let a = c.args in
    rw (
      c.with_tally.ensures,
      c.fresh_tally.ensures,
      c.given_up.ensures,
      c.in_ok-round.ensures.round c.in_ok-round.round refl,
      same_abort a.party.t a.party.client a.call (search rules),
      ← c.in_ok-round.ensures.refusal,
    ) refl

-- The first test that applies gives the refusal. Nothing is assumed.
use Rattle.std.proofs.Common.{◌≡◌, ◌∙◌, sym, refl, ap, ℕ}
use Rattle.std.proofs.lemmas.Result.{err_from_is_err_and}
use lib.Dec.{eqb}
use Rattle.cluster.specs.declared.Refusal.TheVariants as refusals
use Rattle.protocol.specs.declared.rounds.Round.{Round}
use Rattle.protocol.specs.Kinds.{kind_number, reply_of}
use Rattle.protocol.specs.ClientBytes.{awaited}
use Rattle.client.specs.Steps.{awaited_by, reply_refusal_def}
use Rattle.client.proofs.Tests.{same_err, awaits_some}
use Rattle.client.proofs.replies.round_to_take.Goals as goal

pub returns-then-is_foreign-clause-refusal : goal.returns-then-is_foreign-clause-refusal
unfolding reply_refusal_def
returns-then-is_foreign-clause-refusal c = rw (sym c.is_foreign.ensures ∙ c.if-is_foreign.true) refl

pub returns-in_err-round-clause-refusal : goal.returns-in_err-round-clause-refusal
unfolding reply_refusal_def
returns-in_err-round-clause-refusal c =
    let p = err_from_is_err_and c.from_residual.result c.from_residual.ensures.1 in
    let e = same_err {T = Round} _ refusals.Hand (rw c.in_err-round.ensures.ok_part at c.in_err-round.ensures.value) in
    let z : awaited c.args.call ≡ 0 = sym c.pending.ensures.kind ∙ ap awaited_by c.in_err-round.ensures.ok_part in
    rw (p.1, p.2, e, sym c.is_foreign.ensures ∙ c.if-is_foreign.false, z) refl

pub returns-then-is_other-clause-refusal : goal.returns-then-is_other-clause-refusal
unfolding reply_refusal_def
returns-then-is_other-clause-refusal c =
    let w : awaited_by c.pending.result ≡ awaited c.args.call = c.pending.ensures.kind in
    let k : kind_number (reply_of c.in_ok-round.round) ≡ awaited c.args.call = rw c.in_ok-round.ensures.ok_part at w in
    rw (
      sym c.is_foreign.ensures ∙ c.if-is_foreign.false,
      ap (λ (n : ℕ). eqb n 0) (sym k) ∙ awaits_some c.in_ok-round.round,
      rw (c.reply.ensures.value, k) at (sym c.is_other.ensures ∙ c.if-is_other.true),
    ) refl

pub returns-clause-refusal : goal.returns-clause-refusal
unfolding reply_refusal_def
returns-clause-refusal c =
    let w : awaited_by c.pending.result ≡ awaited c.args.call = c.pending.ensures.kind in
    let k : kind_number (reply_of c.in_ok-round.round) ≡ awaited c.args.call = rw c.in_ok-round.ensures.ok_part at w in
    rw (
      sym c.is_foreign.ensures ∙ c.if-is_foreign.false,
      ap (λ (n : ℕ). eqb n 0) (sym k) ∙ awaits_some c.in_ok-round.round,
      rw (c.reply.ensures.value, k) at (sym c.is_other.ensures ∙ c.if-is_other.false),
    ) refl

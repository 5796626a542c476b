-- The rank, then the list, then the groups. Nothing is assumed.
use Rattle.std.proofs.Common.{◌∙◌, sym, refl}
use Rattle.cluster.specs.Config.{shelf}
use Rattle.decide.proofs.Ranks.{candidate-rank}
use Rattle.decide.proofs.Led.{other-rank, not_listed, is-tried}
use Rattle.decide.proofs.leading.tried.Goals as goal

pub returns-then-rank_at-key : goal.returns-then-rank_at-key
returns-then-rank_at-key c =
    let q = c.args.sought in
    rw (other-rank q.replied.t c.args.kept.now c.args.key q.slot (λ e. c.if-rank_at-key.true
    (c.rank_at.ensures ∙ sym (candidate-rank (shelf q.replied.t) c.args.kept.now q.slot c.requires.1) ∙ e))) refl

pub returns-then-not-entry : goal.returns-then-not-entry
returns-then-not-entry c =
    let q = c.args.sought in
    rw (not_listed q.replied.t c.args.kept.now c.args.key q.slot (sym c.entry.ensures ∙ c.if-not-entry.true)) refl

pub returns : goal.returns
returns c =
    let q = c.args.sought in
    rw (is-tried q.replied.t c.args.kept.now c.args.key q.slot
    (candidate-rank (shelf q.replied.t) c.args.kept.now q.slot c.requires.1 ∙ sym c.rank_at.ensures ∙ c.if-rank_at-key.false)
    (sym c.entry.ensures ∙ c.if-not-entry.false)) c.leader.ensures

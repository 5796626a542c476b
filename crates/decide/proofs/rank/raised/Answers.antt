-- The rank is read once. Nothing is assumed.
use Rattle.std.proofs.Common.{refl, arith}
use borrow.Author.Tests.{lt-ltb, le-ltb}
use Rattle.cluster.specs.Config.{shelf}
use Rattle.decide.specs.Steps.{raised}
use Rattle.decide.proofs.Ranks.{candidate-rank}
use Rattle.decide.proofs.rank.raised.Goals as goal
use Rattle.decide.proofs.rank.raised.Goals.{else-key-top-via-then-key-top+else-stays, else-key-top-via-else-key-top}

pub returns-then-stays : goal.returns-then-stays
unfolding raised
returns-then-stays c =
    let a = c.args in
    rw (
      candidate-rank (shelf a.sought.replied.t) a.kept.now a.sought.slot c.requires.1,
      ← c.rank_at-key.ensures,
      lt-ltb a.top c.rank_at-key.result (omega arith),
      ← c.stays.ensures,
      c.if-stays.true,
    ) refl

pub returns : goal.returns
unfolding raised
returns c =
    let a = c.args in
    rw (candidate-rank (shelf a.sought.replied.t) a.kept.now a.sought.slot c.requires.1, ← c.rank_at-key.ensures)
    (elim c.else-key-top.branch [
      | else-key-top-via-then-key-top+else-stays w ↦
          rw (lt-ltb a.top c.rank_at-key.result (omega arith), ← w.stays.ensures, w.if-stays.false) refl
      | else-key-top-via-else-key-top w ↦ rw (le-ltb a.top c.rank_at-key.result (omega arith)) refl
    ])

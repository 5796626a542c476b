-- Four times so many rounds.
use Rattle.std.proofs.Common.{arith}
use Rattle.sha256.proofs.Reaching.{reached_at}
use Rattle.sha256.proofs.turns.four.Goals as goal

pub returns : goal.returns
returns c = (
  c.turn.ensures.0,
  λ b s l h.
      let r1 = c.turn-v.ensures.1 b s l h in
      let r2 = c.turn-v-2.ensures.1 b s l r1 in
      let r3 = c.turn-v-3.ensures.1 b s l (reached_at b s _ _ _ _ (omega arith) r2) in
      reached_at b s _ _ _ _ (omega arith) (c.turn.ensures.1 b s l (reached_at b s _ _ _ _ (omega arith) r3)),
)

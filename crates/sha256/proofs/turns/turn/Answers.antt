-- The round, and the word 16 rounds on at the place of its word.
use Rattle.std.proofs.Math.ListN.{length-set}
use Rattle.sha256.proofs.Reaching.{reached_more}
use Rattle.sha256.proofs.turns.turn.Goals as goal

pub returns : goal.returns
returns c = (
  simp length-set c.requires.2,
  λ b s l h. reached_more b s _ _ _ c.args.w.now c.args.n c.requires.1 c.round.ensures h _ c.requires.0 c.requires.2 l c.later-y.ensures,
)

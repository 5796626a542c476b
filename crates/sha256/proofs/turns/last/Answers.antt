use Rattle.sha256.proofs.Reaching.{reached_last}
use Rattle.sha256.proofs.turns.last.Goals as goal

pub returns : goal.returns
returns c = λ b s l h. reached_last b s _ _ _ c.args.w.now c.args.n c.requires.2 c.round.ensures h c.requires.0 c.requires.1

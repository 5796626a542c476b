-- The words are below 2^32.
use Rattle.std.proofs.Common.{rules, sym}
use Rattle.sha256.proofs.Choice.{choose-picked}
use Rattle.sha256.proofs.rounds.ch.Goals as goal

pub returns : goal.returns
returns c = sym (choose-picked c.args.x c.args.y c.args.z (search rules) (search rules) (search rules))

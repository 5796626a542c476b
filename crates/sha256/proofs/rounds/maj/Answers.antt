-- The words are below 2^32.
use Rattle.std.proofs.Common.{rules, sym}
use Rattle.sha256.proofs.Majority.{majority_mixed}
use Rattle.sha256.proofs.rounds.maj.Goals as goal

pub returns : goal.returns
returns c = sym (majority_mixed 32 c.args.x c.args.y c.args.z (search rules) (search rules) (search rules))

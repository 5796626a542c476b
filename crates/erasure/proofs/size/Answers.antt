use Rattle.std.proofs.Common.{◌∙◌}
use Rattle.erasure.specs.Fragments.{fragment_size_def}
use Rattle.erasure.proofs.Laws.{ceiled}
use Rattle.erasure.proofs.size.Goals as goal

pub returns : goal.returns
unfolding fragment_size_def
returns c = c.div_ceil.ensures ∙ ceiled c.args.k c.args.n c.requires.0

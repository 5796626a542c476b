-- By the answer. Assumes nothing.
use Rattle.std.proofs.Common.{[], ap, ◌∙◌}
use Rattle.protocol.specs.declared.Answer.{Answer}
use Rattle.drill.specs.Steps.{shown_as}
use Rattle.drill.proofs.Answers.{shown-aborted}
use Rattle.drill.proofs.shown.given_up.Goals as goal

pub returns : goal.returns
returns c = c.plain.ensures ∙ ap (λ (z : Answer). shown_as z []) c.from.ensures ∙ shown-aborted c.args.told

-- By the answer. Assumes nothing.
use Rattle.std.proofs.Common.{[], ap, ◌∙◌, rules}
use Rattle.protocol.specs.declared.Answer.{Answer}
use Rattle.drill.specs.Steps.{shown_as}
use Rattle.drill.proofs.Answers.{mapped, shown-begun}
use Rattle.drill.proofs.shown.begun.Goals as goal

pub returns : goal.returns
returns c =
    c.plain.ensures ∙ ap (λ (z : Answer). shown_as z []) c.from.ensures
    ∙ shown-begun c.args.told c.map.result (mapped c.args.told c.map.result c.map.ensures.cases (λ u t h. search rules))

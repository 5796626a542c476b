-- The content is delivered, or repaired first. Nothing is assumed.
use Rattle.std.proofs.Common.{◌∙◌, sym, refl}
use Rattle.client.specs.Filter.{found_at}
use Rattle.client.proofs.filter.found.Goals as goal

pub returns-then-same_tags : goal.returns-then-same_tags
unfolding found_at
returns-then-same_tags c =
    rw (sym c.same_tags.ensures ∙ c.if-same_tags.true, c.deliver.ensures.0, c.deliver.ensures.1, c.label_in-label.ensures) refl

pub returns : goal.returns
unfolding found_at
returns c = rw (sym c.same_tags.ensures ∙ c.if-same_tags.false, c.repair_with.ensures.0, c.repair_with.ensures.1) refl

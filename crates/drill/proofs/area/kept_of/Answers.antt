-- What stands at the place of the kept bytes. Assumes nothing.
use Rattle.std.proofs.Common.{ℕ, ap, ◌∙◌}
use Rattle.format.specs.Reading.{bytes_at}
use Rattle.drill.specs.Area.{kept_in}
use Rattle.drill.proofs.area.kept_of.Goals as goal

pub returns : goal.returns
unfolding kept_in
returns c = c.part.ensures ∙ ap (λ (a : ℕ). bytes_at c.args.work.now a 24576) c.kept_at.ensures.0

-- What stands at the client's place. Assumes nothing.
use Rattle.std.proofs.Common.{ℕ, ap, ◌∙◌}
use Rattle.format.specs.Reading.{bytes_at}
use Rattle.state.specs.State.{call_at}
use Rattle.drill.specs.Area.{call_in}
use Rattle.drill.proofs.area.call_of.Goals as goal

pub returns : goal.returns
unfolding call_in
returns c = c.read.ensures ∙ ap call_at (c.part.ensures ∙ ap (λ (a : ℕ). bytes_at c.args.work.now a 29) c.client_at.ensures.0)

-- The three steps, one after the other. Assumes nothing.
use Rattle.std.proofs.Common.{ap, ◌∙◌}
use Rattle.format.specs.Reading.{bytes_at}
use Rattle.drill.proofs.Memories.{few-servers}
use Rattle.drill.proofs.Visiting.{counted, visit-done}
use Rattle.drill.proofs.visits.visit.Goals as goal

pub serve-requires : goal.serve-requires
serve-requires c = (few-servers c.args.t c.args.server c.requires.0.0 c.requires.1.1, c.requires.0.1)

pub returns : goal.returns
returns c =
    let a = c.args in
    visit-done a.t a.client a.server a.work.now c.requires.0.0 c.requires.1.0 c.requires.1.1 c.make.ensures
    (c.part.ensures ∙ ap (bytes_at c.make.new.out 0) (c.unwrap_or-made.ensures ∙ counted c.make.result)) c.serve.ensures
    (c.part-2.ensures ∙ ap (bytes_at c.serve.new.out 0) (c.unwrap_or-sent.ensures ∙ counted c.serve.result)) c.take-taken.ensures
    c.taken.ensures

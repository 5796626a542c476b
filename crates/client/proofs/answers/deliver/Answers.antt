-- The content stands at the start of the output. Nothing is assumed.
use Rattle.std.proofs.Common.{◌∙◌, refl}
use Rattle.format.proofs.Puts.{put-over}
use Rattle.client.proofs.answers.deliver.Goals as goal

pub returns : goal.returns
returns c =
    let a = c.args in
    (rw c.enter.ensures refl, c.write_at.ensures ∙ put-over a.out.now a.content.now)

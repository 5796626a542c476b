-- One more mark, and the marks counted anew. Nothing is assumed.
use Rattle.std.proofs.Common.{◌≡◌, ◌∙◌, length, arith, rules}
use Rattle.client.proofs.Tallies.{noted_is}
use Rattle.client.proofs.rounds.note.Goals as goal

pub returns : goal.returns
returns c =
    let a = c.args in
    let p = c.requires in
    let w : length a.tally.marks ≡ 13 = search rules in
    c.recount.ensures ∙ noted_is a.t a.tally a.server p.1.0 (omega (arith, p.1.1))

-- The client's packet, made of its slot. Assumes nothing.
use Rattle.std.proofs.Common.{◌∙◌}
use Rattle.drill.specs.Area.{call_in}
use Rattle.drill.proofs.Slots.{core_make_lem}
use Rattle.drill.proofs.visits.make.Goals as goal

pub returns : goal.returns
returns c =
    let a = c.args in
    c.make_in.ensures ∙ rw (c.call_of.ensures, c.kept_of.ensures) (core_make_lem a.work.now a.client c.requires.0 c.requires.1 a.t a.server
    (call_in a.work.now a.client) a.out.now)

-- Slot by slot. Nothing is assumed.
use Rattle.std.proofs.Common.{arith}
use Rattle.decide.proofs.Firsts.{chosen_none, chosen-passed, chosen_here}
use Rattle.decide.proofs.leading.find.Goals as goal

pub loop-i-init : goal.loop-i-init
loop-i-init c = let a = c.args in chosen_none a.replied.t a.replied.marks a.kept.now a.key

pub returns-in-Some : goal.returns-in-Some
returns-in-Some c =
    let a = c.args in
    chosen_here a.replied.t a.replied.marks a.kept.now a.key c.loop-i.i c.in-Some.group (omega arith) c.loop-i.invariant c.in-Some.ensures

pub loop-i-preserved : goal.loop-i-preserved
loop-i-preserved c =
    let a = c.args in chosen-passed a.replied.t a.replied.marks a.kept.now a.key c.loop-i.i c.loop-i.invariant c.in_default.ensures

-- No candidate of a slot passed is the choice.
use Rattle.std.proofs.Common.{◌≡◌}
use Rattle.std.proofs.Math.Option.{none}
use Rattle.decide.specs.Steps.{first_proven}
use Rattle.decide.proofs.leading.find.Given as goal

abbrev pub invariant-loop-i : goal.invariant-loop-i
invariant-loop-i l = first_proven l.replied.t l.replied.marks l.kept l.key l.i ≡ none

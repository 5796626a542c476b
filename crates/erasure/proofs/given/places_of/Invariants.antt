use Rattle.std.proofs.Common.{◌≡◌, eqb, None, get_or, take, position}
use Rattle.erasure.specs.System.{width}
use Rattle.erasure.proofs.Fill.{Filled}
use Rattle.erasure.proofs.given.places_of.Given as goal

abbrev pub invariant-loop-i : goal.invariant-loop-i
invariant-loop-i l = Filled None (λ i v. v ≡ position (λ x. eqb x (get_or l.points i 0)) (take l.k l.given)) width l.i l.out

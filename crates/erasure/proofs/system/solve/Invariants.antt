use Rattle.gf256.proofs.Exchange.{Half}
use Rattle.gf256.proofs.Byte.{field, laws}
use Rattle.erasure.proofs.Solved.{mat, Small}
use Rattle.erasure.proofs.system.solve.Given as goal

abbrev pub invariant-loop-p : goal.invariant-loop-p
invariant-loop-p l = record { small : Small l.k l.a; half : Half field laws l.k (mat l.initial.a) l.p (mat l.a) }

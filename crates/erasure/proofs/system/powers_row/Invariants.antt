use Rattle.std.proofs.Common.{◌≡◌}
use Rattle.gf256.specs.Gf.{power}
use Rattle.erasure.specs.System.{system_row}
use Rattle.erasure.proofs.Fill.{Filled}
use Rattle.erasure.proofs.system.powers_row.Given as goal

abbrev pub invariant-loop-c : goal.invariant-loop-c
invariant-loop-c l = Filled 0 (λ j v. v ≡ power l.x j) system_row l.c l.out

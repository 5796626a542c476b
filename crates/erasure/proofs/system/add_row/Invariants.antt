use Rattle.std.proofs.Common.{◌≡◌, get_or}
use Rattle.std.specs.Int.Bits.{bit_xor}
use Rattle.gf256.specs.Gf.{times}
use Rattle.erasure.specs.System.{system_row}
use Rattle.erasure.proofs.Fill.{Filled}
use Rattle.erasure.proofs.system.add_row.Given as goal

abbrev pub invariant-loop-c : goal.invariant-loop-c
invariant-loop-c l = Filled 0 (λ j v. v ≡ bit_xor (get_or l.sum j 0) (times l.w (get_or l.row j 0))) system_row l.c l.out

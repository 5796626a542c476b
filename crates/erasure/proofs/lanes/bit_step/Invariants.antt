use Rattle.std.proofs.Common.{◌*◌, get_or}
use Rattle.std.specs.Int.Bits.{bit_xor}
use Rattle.erasure.specs.System.{entry, sum_to}
use Rattle.erasure.specs.Lanes.{bit_of, Lane}
use Rattle.erasure.proofs.lanes.bit_step.Given as goal

abbrev pub invariant-loop-j : goal.invariant-loop-j
invariant-loop-j l =
    Lane l.out (λ i. bit_xor (get_or l.initial.out i 0) (sum_to l.j (λ m. bit_of (get_or l.weights m 0) l.b * entry l.lanes m i)))

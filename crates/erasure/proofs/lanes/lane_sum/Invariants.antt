use Rattle.std.proofs.Common.{◌-◌, ◌/◌, ◌^◌, get_or}
use Rattle.gf256.specs.Gf.{times_bits}
use Rattle.erasure.specs.System.{entry, sum_to}
use Rattle.erasure.specs.Lanes.{Lane}
use Rattle.erasure.proofs.lanes.lane_sum.Given as goal

abbrev pub invariant-loop-n : goal.invariant-loop-n
invariant-loop-n l = Lane l.out (λ i. sum_to l.k (λ j. times_bits l.n (entry l.lanes j i) (get_or l.weights j 0 / 2 ^ (8 - l.n))))

use Rattle.std.proofs.Common.{◌≡◌, ◌-◌, ◌/◌, ◌^◌}
use Rattle.gf256.specs.Gf.{times_bits}
use Rattle.gf256.proofs.mul.Given as goal

-- the product with the bits of b from n on
abbrev pub invariant-loop-n : goal.invariant-loop-n
invariant-loop-n l = l.out ≡ times_bits (8 - l.n) l.a (l.b / 2 ^ l.n)

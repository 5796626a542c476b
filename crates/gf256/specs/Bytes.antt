-- The field of FIPS 197 as operations on numbers, for the polynomials of `Poly`.
use Rattle.std.specs.Prelude.{ℕ}
use Rattle.std.specs.Int.Bits.{bit_xor}
use Rattle.gf256.specs.Gf.{times, inverse}
use Rattle.gf256.specs.Poly.{Ops}

abbrev pub bytes : Ops
bytes = record { F = ℕ; nil = 0; one = 1; add = bit_xor; mul = times; inv = inverse }

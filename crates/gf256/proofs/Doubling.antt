-- What the code's product rests on: it goes through the bits of one factor, the highest first, by doubling what is there and adding the other factor
-- where the bit is set, by a mask. The double of a byte is shown by a test that goes through all bytes. Nothing is assumed.
use mathlib.Core.Path.{◌≡◌, sym, ap, ◌∙◌}
use mathlib.Core.Bool.{Bool}
use Prim.Native.Nat.{ℕ, zero, suc, ◌+◌, ◌*◌, ◌/◌, ◌%◌, ◌^◌, ◌<◌}
use native.Mathlib.Nat.{zero-mul, one-mul, mod-eq_of_lt}
use native.Mathlib.Numerals.{add-one}
use native.Mathlib.Omega.{arith}
use lib.Bits.{bit_xor, bit_and, xor_comm, and_zero_r, and_mask}
use lib.Pow.{shr-shr}
use lib.Dec.{eqb, eqb→eq}
use Rattle.gf256.specs.Gf.{xtime, times_bits}
use Rattle.gf256.proofs.Test.{each_at}
use Rattle.gf256.proofs.Linear.{times_bits-xtime}

-- ---- the double of a byte

double_at : ℕ → Bool
double_at a = eqb (bit_xor (a * 2 % 256) (bit_and (a / 128 % 2 * 255) 27)) (xtime a)

pub double_all : (a : ℕ) → a < 256 → bit_xor (a * 2 % 256) (bit_and (a / 128 % 2 * 255) 27) ≡ xtime a
unfolding xtime double_at
double_all a h = eqb→eq (bit_xor (a * 2 % 256) (bit_and (a / 128 % 2 * 255) 27)) (xtime a) (each_at double_at 256 tt a h)

-- ---- a bit as a mask

pub masked : (e x : ℕ) → e < 2 → x < 256 → bit_and x (e * 255) ≡ e * x
masked zero x h l = and_zero_r x ∙ sym (zero-mul x)
masked (suc zero) x h l = and_mask x 8 ∙ mod-eq_of_lt l ∙ sym (one-mul x)
masked (suc (suc e)) x h l = absurd (omega arith)

-- ---- one bit more

halved : (w b : ℕ) → w / 2 ^ b / 2 ≡ w / 2 ^ (b + 1)
halved w b = shr-shr w b 1

-- the highest n bits of w, then one more
pub bit_more : (n x w b : ℕ) → x < 256 → bit_xor (xtime (times_bits n x (w / 2 ^ (b + 1)))) (w / 2 ^ b % 2 * x) ≡ times_bits (n + 1) x (w / 2 ^ b)
unfolding times_bits
bit_more n x w b h =
    xor_comm (xtime (times_bits n x (w / 2 ^ (b + 1)))) (w / 2 ^ b % 2 * x)
    ∙ ap (bit_xor (w / 2 ^ b % 2 * x)) (sym (ap (times_bits n (xtime x)) (halved w b) ∙ times_bits-xtime n x (w / 2 ^ (b + 1)) h))
    ∙ ap (λ (m : ℕ). times_bits m x (w / 2 ^ b)) (sym (add-one n))

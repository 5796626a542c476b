-- Products and quotients by logarithms: the powers of 03h come round after 255, and a difference of logarithms is that of the quotient. A power
-- of 03h has an inverse, so that it can be taken from both sides. Nothing is assumed.
use mathlib.Core.Path.{◌≡◌, sym, ap, ◌∙◌}
use Prim.Native.Nat.{ℕ, ◌+◌, ◌*◌, ◌/◌, ◌%◌, ◌<◌}
use native.Mathlib.Omega.{arith}
use Rattle.gf256.specs.Gf.{times, power, inverse}
use Rattle.gf256.proofs.Linear.{times-lt, times_assoc, times_one}
use Rattle.gf256.proofs.Tables.{power-lt, power-add, power_one, power-mul, power-round, inverse-lt, times-inverse-power}

small : (n : ℕ) → power 3 n < 256
small n = power-lt 3 n (omega arith)

-- as often round as one likes
pub power_turns : (n c : ℕ) → power 3 (n + 255 * c) ≡ power 3 n
power_turns n c =
    power-add 3 n (255 * c) (omega arith)
    ∙ ap (times (power 3 n)) (power-mul 3 255 c (omega arith) ∙ ap (λ (x : ℕ). power x c) power-round ∙ power_one c)
    ∙ times_one (power 3 n) (small n)

pub power-mod : (n : ℕ) → power 3 (n % 255) ≡ power 3 n
power-mod n = sym (power_turns (n % 255) (n / 255)) ∙ ap (power 3) (omega arith)

-- times a power and times its inverse
pub divided : (u b : ℕ) → u < 256 → times (times u (power 3 b)) (inverse (power 3 b)) ≡ u
divided u b h =
    times_assoc u (power 3 b) (inverse (power 3 b)) h (small b) (inverse-lt (power 3 b) (small b))
    ∙ ap (times u) (times-inverse-power b) ∙ times_one u h

-- a power that stands on both sides goes
pub cancel : (u v b : ℕ) → u < 256 → v < 256 → times u (power 3 b) ≡ times v (power 3 b) → u ≡ v
cancel u v b hu hv e = sym (divided u b hu) ∙ ap (λ (x : ℕ). times x (inverse (power 3 b))) e ∙ divided v b hv

-- where n is a, less b and less l, but for multiples of 255, and a is the logarithm of u times that of l: n is that of u over that of b
pub quotient : (n a b l c u : ℕ) → u < 256 → n + b + l ≡ a + 255 * c → power 3 a ≡ times u (power 3 l) → power 3 n ≡ times u (inverse (power 3 b))
quotient n a b l c u h e p =
    sym (divided (power 3 n) b (small n))
    ∙ ap (λ (x : ℕ). times x (inverse (power 3 b)))
    (cancel (times (power 3 n) (power 3 b)) u l (times-lt (power 3 n) (power 3 b) (small n)) h
    (ap (λ (x : ℕ). times x (power 3 l)) (sym (power-add 3 n b (omega arith)))
    ∙ sym (power-add 3 (n + b) l (omega arith)) ∙ ap (power 3) e ∙ power_turns a c ∙ p))

-- The product of FIPS 197 is linear in each factor, commutes and associates, and 01h is its unit. Nothing is assumed.
use mathlib.Core.Path.{◌≡◌, refl, sym, ap, ap₂, ◌∙◌, subst}
use mathlib.Core.Bool.{Bool}
use Prim.Native.Nat.{ℕ, zero, suc, ◌*◌, ◌/◌, ◌%◌, ◌<◌}
use native.Mathlib.Nat.{zero-lt-suc, zero-mul, mul-zero, one-mul}
use native.Mathlib.Omega.{arith}
use lib.Dec.{eqb, eqb→eq, ltb, ltb→lt}
use lib.Bits.{xor_mod, bit_xor, xor_shr, xor_lt, xor_self, xor_zero_r}
use Rattle.gf256.specs.Gf.{xtime, times_bits, times}
use Rattle.gf256.proofs.Xor.{bit, xor-swap, xor_half, xor-double}
use Rattle.gf256.proofs.Test.{each_at}

-- a bit times a sum, and a sum of bits times a number
pub bit-xor : (x a b : ℕ) → x < 2 → x * bit_xor a b ≡ bit_xor (x * a) (x * b)
bit-xor zero a b h = zero-mul (bit_xor a b) ∙ sym (ap₂ bit_xor (zero-mul a) (zero-mul b))
bit-xor (suc zero) a b h = one-mul (bit_xor a b) ∙ sym (ap₂ bit_xor (one-mul a) (one-mul b))
bit-xor (suc (suc x)) a b h = absurd (omega arith)

xor-bit : (x y a : ℕ) → x < 2 → y < 2 → bit_xor x y * a ≡ bit_xor (x * a) (y * a)
xor-bit zero y a hx hy = sym (ap (λ (z : ℕ). bit_xor z (y * a)) (zero-mul a))
xor-bit (suc zero) zero a hx hy = sym (ap (λ (z : ℕ). bit_xor (1 * a) z) (zero-mul a) ∙ xor_zero_r (1 * a))
xor-bit (suc zero) (suc zero) a hx hy = zero-mul a ∙ sym (xor_self (1 * a))
xor-bit (suc zero) (suc (suc y)) a hx hy = absurd (omega arith)
xor-bit (suc (suc x)) y a hx hy = absurd (omega arith)

bit-lt : (x a : ℕ) → x < 2 → a < 256 → x * a < 256
bit-lt zero a h k = subst (λ (z : ℕ). z < 256) (sym (zero-mul a)) (zero-lt-suc 255)
bit-lt (suc zero) a h k = subst (λ (z : ℕ). z < 256) (sym (one-mul a)) k
bit-lt (suc (suc x)) a h k = absurd (omega arith)

pub xtime-xor : (a b : ℕ) → a < 256 → b < 256 → xtime (bit_xor a b) ≡ bit_xor (xtime a) (xtime b)
unfolding xtime
xtime-xor a b ha hb =
    ap₂ bit_xor (xor-double a b)
    (ap (λ (x : ℕ). x * 0x11b) (xor_shr a b 7) ∙ xor-bit (a / 128) (b / 128) 0x11b (omega arith) (omega arith))
    ∙ xor-swap (a * 2) (b * 2) (a / 128 * 0x11b) (b / 128 * 0x11b)

xtime_small : ℕ → Bool
xtime_small a = ltb (xtime a) 256

pub xtime-lt : (a : ℕ) → a < 256 → xtime a < 256
unfolding xtime xtime_small
xtime-lt a h = ltb→lt (xtime a) 256 (each_at xtime_small 256 tt a h)

pub xtime-zero : xtime 0 ≡ 0
unfolding xtime
xtime-zero = refl

pub times_bits-lt : (n a b : ℕ) → a < 256 → times_bits n a b < 256
unfolding times_bits
times_bits-lt zero a b h = zero-lt-suc 255
times_bits-lt (suc n) a b h =
    xor_lt 8 (b % 2 * a) (times_bits n (xtime a) (b / 2)) (bit-lt (b % 2) a (bit b) h) (times_bits-lt n (xtime a) (b / 2) (xtime-lt a h))

times_bits-xor-l : (n a c b : ℕ) → a < 256 → c < 256 → times_bits n (bit_xor a c) b ≡ bit_xor (times_bits n a b) (times_bits n c b)
unfolding times_bits
times_bits-xor-l zero a c b ha hc = refl
times_bits-xor-l (suc n) a c b ha hc =
    ap₂ bit_xor (bit-xor (b % 2) a c (bit b))
    (ap (λ (x : ℕ). times_bits n x (b / 2)) (xtime-xor a c ha hc) ∙ times_bits-xor-l n (xtime a) (xtime c) (b / 2) (xtime-lt a ha) (xtime-lt c hc))
    ∙ xor-swap (b % 2 * a) (b % 2 * c) (times_bits n (xtime a) (b / 2)) (times_bits n (xtime c) (b / 2))

times_bits-xor_r : (n a b c : ℕ) → times_bits n a (bit_xor b c) ≡ bit_xor (times_bits n a b) (times_bits n a c)
unfolding times_bits
times_bits-xor_r zero a b c = refl
times_bits-xor_r (suc n) a b c =
    ap₂ bit_xor (ap (λ (x : ℕ). x * a) (xor_mod b c 1) ∙ xor-bit (b % 2) (c % 2) a (bit b) (bit c))
    (ap (times_bits n (xtime a)) (xor_half b c) ∙ times_bits-xor_r n (xtime a) (b / 2) (c / 2))
    ∙ xor-swap (b % 2 * a) (c % 2 * a) (times_bits n (xtime a) (b / 2)) (times_bits n (xtime a) (c / 2))

-- a bit passes through any map that is linear
pub bit-through : (f : ℕ → ℕ) → f 0 ≡ 0 → (x a : ℕ) → x < 2 → f (x * a) ≡ x * f a
bit-through f z zero a h = ap f (zero-mul a) ∙ z ∙ sym (zero-mul (f a))
bit-through f z (suc zero) a h = ap f (one-mul a) ∙ sym (one-mul (f a))
bit-through f z (suc (suc x)) a h = absurd (omega arith)

times_bits-zero : (n b : ℕ) → times_bits n 0 b ≡ 0
unfolding times_bits
times_bits-zero zero b = refl
times_bits-zero (suc n) b =
    ap₂ bit_xor (mul-zero (b % 2)) (ap (λ (x : ℕ). times_bits n x (b / 2)) xtime-zero ∙ times_bits-zero n (b / 2))

pub times_bits-xtime : (n a b : ℕ) → a < 256 → times_bits n (xtime a) b ≡ xtime (times_bits n a b)
unfolding times_bits
times_bits-xtime zero a b h = sym xtime-zero
times_bits-xtime (suc n) a b h =
    ap₂ bit_xor (sym (bit-through xtime xtime-zero (b % 2) a (bit b))) (times_bits-xtime n (xtime a) (b / 2) (xtime-lt a h))
    ∙ sym (xtime-xor (b % 2 * a) (times_bits n (xtime a) (b / 2)) (bit-lt (b % 2) a (bit b) h) (times_bits-lt n (xtime a) (b / 2) (xtime-lt a h)))

-- two products by bits commute
times_bits-swap : (n m a b c : ℕ) → a < 256 → times_bits n (times_bits m a c) b ≡ times_bits m (times_bits n a b) c
unfolding times_bits
times_bits-swap n zero a b c h = times_bits-zero n b
times_bits-swap n (suc m) a b c h =
    times_bits-xor-l n (c % 2 * a) (times_bits m (xtime a) (c / 2)) b (bit-lt (c % 2) a (bit c) h) (times_bits-lt m (xtime a) (c / 2) (xtime-lt a h))
    ∙ ap₂ bit_xor (bit-through (λ x. times_bits n x b) (times_bits-zero n b) (c % 2) a (bit c))
    (times_bits-swap n m (xtime a) b (c / 2) (xtime-lt a h) ∙ ap (λ (x : ℕ). times_bits m x (c / 2)) (times_bits-xtime n a b h))

-- ---- the product of bytes

pub times-lt : (a b : ℕ) → a < 256 → times a b < 256
unfolding times
times-lt a b h = times_bits-lt 8 a b h

pub times-xor_r : (a b c : ℕ) → times a (bit_xor b c) ≡ bit_xor (times a b) (times a c)
unfolding times
times-xor_r a b c = times_bits-xor_r 8 a b c

pub times-zero-l : (b : ℕ) → times 0 b ≡ 0
unfolding times
times-zero-l b = times_bits-zero 8 b

unit_at : ℕ → Bool
unit_at b = eqb (times 1 b) b

pub one-times : (b : ℕ) → b < 256 → times 1 b ≡ b
unfolding xtime times_bits times unit_at
one-times b h = eqb→eq (times 1 b) b (each_at unit_at 256 tt b h)

pub times-swap : (a b c : ℕ) → a < 256 → times (times a c) b ≡ times (times a b) c
unfolding times
times-swap a b c h = times_bits-swap 8 8 a b c h

pub times-comm : (a b : ℕ) → a < 256 → b < 256 → times a b ≡ times b a
times-comm a b ha hb =
    ap (λ (x : ℕ). times x b) (sym (one-times a ha)) ∙ times-swap 1 b a (omega arith) ∙ ap (λ (x : ℕ). times x a) (one-times b hb)

pub times_one : (a : ℕ) → a < 256 → times a 1 ≡ a
times_one a h = times-comm a 1 h (omega arith) ∙ one-times a h

pub times_assoc : (a b c : ℕ) → a < 256 → b < 256 → c < 256 → times (times a b) c ≡ times a (times b c)
times_assoc a b c ha hb hc =
    ap (λ (x : ℕ). times x c) (times-comm a b ha hb) ∙ times-swap b c a hb ∙ times-comm (times b c) a (times-lt b c hb) ha

pub times-zero_r : (a : ℕ) → times a 0 ≡ 0
times-zero_r a = times-xor_r a 0 0 ∙ xor_self (times a 0)

-- `times` is THE product of FIPS 197, 4.2: what is left of the product of polynomials modulo 11Bh, and there is but one such remainder.
-- Doubling takes off the modulus at most once, and a product without carries is linear. Nothing is assumed.
use mathlib.Core.Path.{◌≡◌, refl, sym, ap, ap₂, ◌∙◌, subst}
use Prim.Native.Nat.{ℕ, zero, suc, ◌+◌, ◌*◌, ◌/◌, ◌%◌, ◌^◌, ◌<◌, ◌≤◌, zero-le}
use native.Mathlib.Nat.{mul-one, mul-add, mul_comm, mul_assoc, div-one, div-add-mod', div-div-eq-div-mul, pow-succ'}
use native.Mathlib.Omega.{arith}
use lib.Bits.{bit_xor, xor_zero_r, xor_self, xor_shr, xor_lt, xor_add_and}
use Rattle.gf256.specs.Gf.{xtime, times_bits, times, product, Remainder}
use Rattle.gf256.proofs.Xor.{bit, xor_assoc, xor-swap, xor-double}
use Rattle.gf256.proofs.Linear.{bit-xor, bit-through, xtime-lt, times-lt}

-- a product by fixed bits is linear
product-xor : (n a c b : ℕ) → product n (bit_xor a c) b ≡ bit_xor (product n a b) (product n c b)
unfolding product
product-xor zero a c b = refl
product-xor (suc n) a c b =
    ap₂ bit_xor (bit-xor (b % 2) a c (bit b)) (ap (λ (x : ℕ). product n x (b / 2)) (xor-double a c) ∙ product-xor n (a * 2) (c * 2) (b / 2))
    ∙ xor-swap (b % 2 * a) (b % 2 * c) (product n (a * 2) (b / 2)) (product n (c * 2) (b / 2))

product-nil : (n b : ℕ) → product n 0 b ≡ 0
unfolding product
product-nil zero b = refl
product-nil (suc n) b = ap₂ bit_xor (omega-nil (b % 2)) (product-nil n (b / 2))
  where
    omega-nil : (x : ℕ) → x * 0 ≡ 0
    omega-nil x = omega arith

product-double : (n a b : ℕ) → product n (a * 2) b ≡ product n a b * 2
unfolding product
product-double zero a b = refl
product-double (suc n) a b =
    ap₂ bit_xor (sym (bit-through (λ x. x * 2) refl (b % 2) a (bit b))) (product-double n (a * 2) (b / 2))
    ∙ sym (xor-double (b % 2 * a) (product n (a * 2) (b / 2)))

-- q times the modulus
multiple_of : ℕ → ℕ
multiple_of q = product 9 q 0x11b

-- xtime takes off the modulus at most once
xtime-multiple : (a : ℕ) → a < 256 → a * 2 ≡ bit_xor (xtime a) (multiple_of (a / 128))
unfolding xtime multiple_of product
xtime-multiple a h = go (a / 128) (omega arith)
  where
    go : (x : ℕ) → x < 2 → a * 2 ≡ bit_xor (bit_xor (a * 2) (x * 0x11b)) (product 9 x 0x11b)
    go zero l = sym (xor_zero_r (bit_xor (a * 2) 0) ∙ xor_zero_r (a * 2))
    go (suc zero) l = sym (xor_assoc (a * 2) 0x11b 0x11b ∙ xor_zero_r (a * 2))
    go (suc (suc x)) l = absurd (omega arith)

left : (n a q b : ℕ) → a < 256 → (r : ℕ) × (product n (bit_xor a (multiple_of q)) b ≡ bit_xor (times_bits n a b) (multiple_of r))
unfolding product times_bits multiple_of
left zero a q b h = (0, refl)
left (suc n) a q b h = step (left n (xtime a) (bit_xor (a / 128) (q * 2)) (b / 2) (xtime-lt a h))
  where
    m : ℕ → ℕ
    m = multiple_of

    twice : bit_xor a (m q) * 2 ≡ bit_xor (xtime a) (m (bit_xor (a / 128) (q * 2)))
    twice =
        xor-double a (m q)
        ∙ ap₂ bit_xor (xtime-multiple a h) (sym (product-double 9 q 0x11b))
        ∙ xor_assoc (xtime a) (m (a / 128)) (m (q * 2))
        ∙ ap (bit_xor (xtime a)) (sym (product-xor 9 (a / 128) (q * 2) 0x11b))

    step : (r : ℕ) × (product n (bit_xor (xtime a) (m (bit_xor (a / 128) (q * 2)))) (b / 2) ≡ bit_xor (times_bits n (xtime a) (b / 2)) (m r))
        → (r : ℕ) × (product (suc n) (bit_xor a (m q)) b ≡ bit_xor (times_bits (suc n) a b) (m r))
    step l =
        let r = l.0 in
        let e = l.1 in (
          bit_xor (b % 2 * q) r,
          ap₂ bit_xor (bit-xor (b % 2) a (m q) (bit b) ∙ ap (bit_xor (b % 2 * a)) (sym
              (bit-through (λ x. product 9 x 0x11b) (product-nil 9 0x11b) (b % 2) q (bit b))))
              (ap (λ (x : ℕ). product n x (b / 2)) twice ∙ e)
              ∙ xor-swap (b % 2 * a) (m (b % 2 * q)) (times_bits n (xtime a) (b / 2)) (m r)
              ∙ ap (bit_xor (times_bits (suc n) a b)) (sym (product-xor 9 (b % 2 * q) r 0x11b)),
        )

pub times_remainder : (a b : ℕ) → a < 256 → Remainder a b (times a b)
unfolding times multiple_of
times_remainder a b h =
    let l = left 8 a 0 b h in
    record {
      small = times-lt a b h;
      multiple = l.0;
      equal = ap (λ (x : ℕ). product 8 x b) (sym (ap (bit_xor a) (product-nil 9 0x11b) ∙ xor_zero_r a))
          ∙ l.1;
    }

-- ---- and there is but one remainder: a multiple of 11Bh that is not 0 has degree 8 or more

xor-le : (a b : ℕ) → bit_xor a b ≤ a + b
xor-le a b = omega (arith, xor_add_and a b)

-- without carries a product is no larger
product_le : (n a b : ℕ) → product n a b ≤ a * b
unfolding product
product_le zero a b = zero-le
product_le (suc n) a b =
    let e : a * b ≡ a * 2 * (b / 2) + b % 2 * a =
    ap (λ (x : ℕ). a * x) (sym (div-add-mod' b 2)) ∙ mul-add a (b / 2 * 2) (b % 2)
    ∙ ap₂ (λ (x y : ℕ). x + y) (ap (λ (x : ℕ). a * x) (mul_comm (b / 2) 2) ∙ sym (mul_assoc a 2 (b / 2))) (mul_comm a (b % 2)) in
    omega (arith, e, xor-le (b % 2 * a) (product n (a * 2) (b / 2)), product_le n (a * 2) (b / 2))

-- the highest bit apart
product_last : (n a b : ℕ) → product (suc n) a b ≡ bit_xor (product n a b) (b / 2 ^ n % 2 * (a * 2 ^ n))
unfolding product
product_last zero a b =
    xor_zero_r (b % 2 * a) ∙ ap₂ (λ (x y : ℕ). x % 2 * y) (sym (div-one b)) (sym (mul-one a))
product_last (suc n) a b =
    ap (bit_xor (b % 2 * a)) (product_last n (a * 2) (b / 2))
    ∙ sym (xor_assoc (b % 2 * a) (product n (a * 2) (b / 2)) (b / 2 / 2 ^ n % 2 * (a * 2 * 2 ^ n)))
    ∙ ap₂ (λ (x y : ℕ). bit_xor (bit_xor (b % 2 * a) (product n (a * 2) (b / 2))) (x % 2 * y))
    (div-div-eq-div-mul b 2 (2 ^ n) ∙ ap (λ (x : ℕ). b / x) (sym (pow-succ' 2 n)))
    (mul_assoc a 2 (2 ^ n) ∙ ap (λ (x : ℕ). a * x) (sym (pow-succ' 2 n)))

pub xor-eq : (a b : ℕ) → bit_xor a b ≡ 0 → a ≡ b
xor-eq a b e = sym (xor_zero_r a) ∙ ap (bit_xor a) (sym (xor_self b)) ∙ sym (xor_assoc a b b) ∙ ap (λ (x : ℕ). bit_xor x b) e

-- the eight low bits of 11Bh are 1Bh
low_bits : (q : ℕ) → product 8 q 0x1b ≡ product 8 q 0x11b
unfolding product
low_bits q = refl

low-le : (q : ℕ) → product 8 q 0x11b ≤ q * 0x1b
low-le q = subst (λ (x : ℕ). x ≤ q * 0x1b) (low_bits q) (product_le 8 q 0x1b)

high : (q : ℕ) → multiple_of q < 256 → q ≡ 0
unfolding multiple_of
high q h =
    let low : ℕ = product 8 q 0x11b in
    let split : product 9 q 0x11b ≡ bit_xor low (1 * (q * 256)) = product_last 8 q 0x11b in
    let top : bit_xor (low / 256) (1 * (q * 256) / 256) ≡ 0 = sym (xor_shr low (1 * (q * 256)) 8) ∙ ap (λ (x : ℕ). x / 256) (sym split) ∙ omega
    arith in
    let same : low / 256 ≡ 1 * (q * 256) / 256 = xor-eq (low / 256) (1 * (q * 256) / 256) top in
    omega (arith, same, low-le q)

pub remainder_unique : (a b c d : ℕ) → Remainder a b c → Remainder a b d → c ≡ d
unfolding multiple_of
remainder_unique a b c d r s =
    let m : ℕ = product 9 r.multiple 0x11b in
    let n : ℕ = product 9 s.multiple 0x11b in
    let both : bit_xor (bit_xor c d) (bit_xor m n) ≡ 0 =
    xor-swap c d m n ∙ ap₂ bit_xor (sym r.equal) (sym s.equal) ∙ xor_self (product 8 a b) in
    let sum : bit_xor c d ≡ multiple_of (bit_xor r.multiple s.multiple) = xor-eq (bit_xor c d) (bit_xor m n) both ∙ sym
    (product-xor 9 r.multiple s.multiple 0x11b) in
    let none : bit_xor r.multiple s.multiple ≡ 0 =
    high (bit_xor r.multiple s.multiple) (subst (λ (x : ℕ). x < 256) sum (xor_lt 8 c d r.small s.small)) in
    xor-eq c d (sum ∙ ap (λ (q : ℕ). product 9 q 0x11b) none ∙ product-nil 9 0x11b)

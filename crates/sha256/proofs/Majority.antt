-- Majority in three operations instead of five: y xor ((x xor y) and (y xor z)). The second xor of a round is the first of the round
-- before, so that the compiler keeps it. Both sides agree on single bits, by computation, and both work bit by bit. Assumes nothing.
use mathlib.Core.Path.{◌≡◌, refl, sym, ap, ap₂, ◌∙◌}
use Prim.Native.Nat.{ℕ, zero, suc, ◌+◌, ◌*◌, ◌/◌, ◌%◌, ◌^◌, ◌<◌}
use native.Mathlib.Omega.{arith}
use lib.Bits.{bit_and, bit_xor, and_block, xor_block, and_lt, xor_lt}
use Rattle.sha256.specs.Sha256.{majority}

abbrev pub mixed : ℕ → ℕ → ℕ → ℕ
mixed x y z = bit_xor y (bit_and (bit_xor x y) (bit_xor y z))

-- a number of one bit; a word by its last bit and what is before it
pub two : (P : ℕ → Type 0) → P 0 → P 1 → (n : ℕ) → n < 2 → P n
two P a b zero h = a
two P a b (suc zero) h = b
two P a b (suc (suc n)) h = absurd (omega arith)

pub whole : (f : ℕ → ℕ → ℕ → ℕ) (a b c : ℕ) → f a b c ≡ f (a / 2 * 2 ^ 1 + a % 2) (b / 2 * 2 ^ 1 + b % 2) (c / 2 * 2 ^ 1 + c % 2)
whole f a b c = ap₂ (λ (p q : ℕ). f p q c) (parts a) (parts b) ∙ ap (λ (r : ℕ). f (a / 2 * 2 ^ 1 + a % 2) (b / 2 * 2 ^ 1 + b % 2) r) (parts c)
  where
    parts : (m : ℕ) → m ≡ m / 2 * 2 ^ 1 + m % 2
    parts m = omega arith

-- at one bit
bit : (x y z : ℕ) → x < 2 → y < 2 → z < 2 → majority x y z ≡ mixed x y z
unfolding majority
bit x y z h k l =
    two (λ i. majority i y z ≡ mixed i y z)
    (two (λ j. majority 0 j z ≡ mixed 0 j z) (two (λ n. majority 0 0 n ≡ mixed 0 0 n) refl refl z l)
    (two (λ n. majority 0 1 n ≡ mixed 0 1 n) refl refl z l) y k)
    (two (λ j. majority 1 j z ≡ mixed 1 j z) (two (λ n. majority 1 0 n ≡ mixed 1 0 n) refl refl z l)
    (two (λ n. majority 1 1 n ≡ mixed 1 1 n) refl refl z l) y k)
    x h

-- at a last bit and what is before it
majority-split : (a b c x y z : ℕ) → x < 2 ^ 1 → y < 2 ^ 1 → z < 2 ^ 1
    → majority (a * 2 ^ 1 + x) (b * 2 ^ 1 + y) (c * 2 ^ 1 + z) ≡ majority a b c * 2 ^ 1 + majority x y z
unfolding majority
majority-split a b c x y z h k l =
    ap₂ bit_xor
    (ap₂ bit_xor (and_block 1 a b x y h k) (and_block 1 a c x z h l)
    ∙ xor_block 1 (bit_and a b) (bit_and a c) (bit_and x y) (bit_and x z) (and_lt 1 x y h k) (and_lt 1 x z h l))
    (and_block 1 b c y z k l)
    ∙ xor_block 1 (bit_xor (bit_and a b) (bit_and a c)) (bit_and b c) (bit_xor (bit_and x y) (bit_and x z)) (bit_and y z)
    (xor_lt 1 (bit_and x y) (bit_and x z) (and_lt 1 x y h k) (and_lt 1 x z h l))
    (and_lt 1 y z k l)

mixed-split : (a b c x y z : ℕ) → x < 2 ^ 1 → y < 2 ^ 1 → z < 2 ^ 1
    → mixed (a * 2 ^ 1 + x) (b * 2 ^ 1 + y) (c * 2 ^ 1 + z) ≡ mixed a b c * 2 ^ 1 + mixed x y z
mixed-split a b c x y z h k l =
    ap (λ (n : ℕ). bit_xor (b * 2 ^ 1 + y) n)
    (ap₂ bit_and (xor_block 1 a b x y h k) (xor_block 1 b c y z k l)
    ∙ and_block 1 (bit_xor a b) (bit_xor b c) (bit_xor x y) (bit_xor y z) (xor_lt 1 x y h k) (xor_lt 1 y z k l))
    ∙ xor_block 1 b (bit_and (bit_xor a b) (bit_xor b c)) y (bit_and (bit_xor x y) (bit_xor y z)) k
    (and_lt 1 (bit_xor x y) (bit_xor y z) (xor_lt 1 x y h k) (xor_lt 1 y z k l))

pub majority_mixed : (n x y z : ℕ) → x < 2 ^ n → y < 2 ^ n → z < 2 ^ n → majority x y z ≡ mixed x y z
majority_mixed zero x y z h k l = bit x y z (omega arith) (omega arith) (omega arith)
majority_mixed (suc n) x y z h k l =
    let ih : majority (x / 2) (y / 2) (z / 2) ≡ mixed (x / 2) (y / 2) (z / 2) = majority_mixed n (x / 2) (y / 2) (z / 2) (half x h) (half y k)
    (half z l) in
    let low : majority (x % 2) (y % 2) (z % 2) ≡ mixed (x % 2) (y % 2) (z % 2) = bit (x % 2) (y % 2) (z % 2) (omega arith) (omega arith)
    (omega arith) in
    whole majority x y z
    ∙ majority-split (x / 2) (y / 2) (z / 2) (x % 2) (y % 2) (z % 2) (omega arith) (omega arith) (omega arith)
    ∙ ap₂ (λ (p q : ℕ). p * 2 ^ 1 + q) ih low
    ∙ sym (mixed-split (x / 2) (y / 2) (z / 2) (x % 2) (y % 2) (z % 2) (omega arith) (omega arith) (omega arith))
    ∙ sym (whole mixed x y z)
  where
    half : (m : ℕ) → m < 2 ^ suc n → m / 2 < 2 ^ n
    half m p = omega arith

-- What the sums of lanes rest on: a sum of products goes through the bits of the weights, the highest first, by doubling; doubling is linear.
-- Nothing is assumed.
use mathlib.Core.Path.{◌≡◌, refl, ap, ◌∙◌}
use Prim.Native.Nat.{ℕ, zero, suc, ◌+◌, ◌*◌, ◌/◌, ◌^◌, ◌<◌}
use native.Mathlib.Nat.{zero-lt-suc, mod-lt, le_refl, le-suc, le_trans}
use lib.Bits.{bit_xor}
use Rattle.gf256.specs.Gf.{xtime, times_bits}
use Rattle.gf256.proofs.Linear.{xtime-xor, xtime-zero, times_bits-lt}
use Rattle.gf256.proofs.Doubling.{bit_more}
use Rattle.erasure.specs.System.{sum_to}
use Rattle.erasure.specs.Lanes.{bit_of}
use Rattle.erasure.proofs.Sums.{sum_to_ext, sum_to-add, sum_to-lt}

-- ---- one bit of every weight

pub bit-lt : (w b : ℕ) → bit_of w b < 2
bit-lt w b = mod-lt (w / 2 ^ b) (zero-lt-suc 1)

xtime-sum : (k : ℕ) (f : ℕ → ℕ) → ((j : ℕ) → j < k → f j < 256) → xtime (sum_to k f) ≡ sum_to k (λ j. xtime (f j))
unfolding sum_to
xtime-sum zero f h = xtime-zero
xtime-sum (suc k) f h =
    let below : (j : ℕ) → j < k → f j < 256 = λ j b. h j (le_trans b (le-suc k)) in
    xtime-xor (sum_to k f) (f k) (sum_to-lt k f below) (h k (le_refl (suc k))) ∙ ap (λ (x : ℕ). bit_xor x (xtime (f k))) (xtime-sum k f below)

pub sum-bit : (k n b : ℕ) (x w : ℕ → ℕ) → ((j : ℕ) → j < k → x j < 256)
    → bit_xor (xtime (sum_to k (λ j. times_bits n (x j) (w j / 2 ^ (b + 1))))) (sum_to k (λ j. bit_of (w j) b * x j))
    ≡ sum_to k (λ j. times_bits (n + 1) (x j) (w j / 2 ^ b))
sum-bit k n b x w h =
    ap (λ (s : ℕ). bit_xor s (sum_to k (λ j. bit_of (w j) b * x j)))
    (xtime-sum k (λ j. times_bits n (x j) (w j / 2 ^ (b + 1))) (λ j l. times_bits-lt n (x j) (w j / 2 ^ (b + 1)) (h j l)))
    ∙ sum_to-add k (λ j. xtime (times_bits n (x j) (w j / 2 ^ (b + 1)))) (λ j. bit_of (w j) b * x j)
    ∙ sum_to_ext k (λ j. bit_xor (xtime (times_bits n (x j) (w j / 2 ^ (b + 1)))) (bit_of (w j) b * x j)) (λ j. times_bits (n + 1) (x j) (w j / 2 ^ b))
    (λ j l. bit_more n (x j) (w j) b (h j l))

-- before the first bit
pub sum_none : (k : ℕ) (x w : ℕ → ℕ) → sum_to k (λ j. times_bits 0 (x j) (w j)) ≡ 0
unfolding sum_to times_bits
sum_none zero x w = refl
sum_none (suc k) x w = ap (λ (s : ℕ). bit_xor s 0) (sum_none k x w)

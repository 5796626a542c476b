-- Choice in three operations instead of four: z xor (x and (y xor z)). Both sides agree on single bits, by computation, and both work
-- bit by bit; the complement of a word does so too. Assumes nothing.
use mathlib.Core.Path.{◌≡◌, refl, sym, ap, ap₂, ◌∙◌}
use Prim.Native.Nat.{ℕ, zero, suc, ◌+◌, ◌-◌, ◌*◌, ◌/◌, ◌%◌, ◌^◌, ◌≤◌, ◌<◌}
use native.Mathlib.Omega.{arith}
use lib.Bits.{bit_and, bit_xor, and_block, xor_block, and_lt, xor_lt}
use Rattle.sha256.specs.Sha256.{choose}
use Rattle.sha256.proofs.Majority.{two, whole}

-- `choose`, where o is a word of ones
abbrev chosen : ℕ → ℕ → ℕ → ℕ → ℕ
chosen o x y z = bit_xor (bit_and x y) (bit_and (o - x) z)

abbrev pub picked : ℕ → ℕ → ℕ → ℕ
picked x y z = bit_xor z (bit_and x (bit_xor y z))

-- at one bit
bit : (x y z : ℕ) → x < 2 → y < 2 → z < 2 → chosen 1 x y z ≡ picked x y z
bit x y z h k l =
    two (λ i. chosen 1 i y z ≡ picked i y z)
    (two (λ j. chosen 1 0 j z ≡ picked 0 j z) (two (λ n. chosen 1 0 0 n ≡ picked 0 0 n) refl refl z l)
    (two (λ n. chosen 1 0 1 n ≡ picked 0 1 n) refl refl z l) y k)
    (two (λ j. chosen 1 1 j z ≡ picked 1 j z) (two (λ n. chosen 1 1 0 n ≡ picked 1 0 n) refl refl z l)
    (two (λ n. chosen 1 1 1 n ≡ picked 1 1 n) refl refl z l) y k)
    x h

-- at a last bit and what is before it
chosen-split : (o a b c x y z : ℕ) → a ≤ o → x < 2 ^ 1 → y < 2 ^ 1 → z < 2 ^ 1
    → chosen (o * 2 ^ 1 + 1) (a * 2 ^ 1 + x) (b * 2 ^ 1 + y) (c * 2 ^ 1 + z) ≡ chosen o a b c * 2 ^ 1 + chosen 1 x y z
chosen-split o a b c x y z m h k l =
    let e : o * 2 ^ 1 + 1 - (a * 2 ^ 1 + x) ≡ (o - a) * 2 ^ 1 + (1 - x) = omega arith in
    let f : 1 - x < 2 ^ 1 = omega arith in
    ap₂ bit_xor (and_block 1 a b x y h k) (ap (λ (i : ℕ). bit_and i (c * 2 ^ 1 + z)) e ∙ and_block 1 (o - a) c (1 - x) z f l)
    ∙ xor_block 1 (bit_and a b) (bit_and (o - a) c) (bit_and x y) (bit_and (1 - x) z) (and_lt 1 x y h k) (and_lt 1 (1 - x) z f l)

picked-split : (a b c x y z : ℕ) → x < 2 ^ 1 → y < 2 ^ 1 → z < 2 ^ 1
    → picked (a * 2 ^ 1 + x) (b * 2 ^ 1 + y) (c * 2 ^ 1 + z) ≡ picked a b c * 2 ^ 1 + picked x y z
picked-split a b c x y z h k l =
    ap (λ (n : ℕ). bit_xor (c * 2 ^ 1 + z) n)
    (ap (λ (n : ℕ). bit_and (a * 2 ^ 1 + x) n) (xor_block 1 b c y z k l)
    ∙ and_block 1 a (bit_xor b c) x (bit_xor y z) h (xor_lt 1 y z k l))
    ∙ xor_block 1 c (bit_and a (bit_xor b c)) z (bit_and x (bit_xor y z)) l (and_lt 1 x (bit_xor y z) h (xor_lt 1 y z k l))

chosen-picked : (n x y z : ℕ) → x < 2 ^ n → y < 2 ^ n → z < 2 ^ n → chosen (2 ^ n - 1) x y z ≡ picked x y z
chosen-picked zero x y z h k l =
    let a : x ≡ 0 = omega arith in
    let b : y ≡ 0 = omega arith in
    let c : z ≡ 0 = omega arith in
    ap₂ (λ (p q : ℕ). chosen 0 p q z) a b
    ∙ ap (λ (r : ℕ). chosen 0 0 0 r) c
    ∙ sym (ap₂ (λ (p q : ℕ). picked p q z) a b ∙ ap (λ (r : ℕ). picked 0 0 r) c)
chosen-picked (suc n) x y z h k l =
    let o : 2 ^ suc n - 1 ≡ (2 ^ n - 1) * 2 ^ 1 + 1 = omega arith in
    let ih : chosen (2 ^ n - 1) (x / 2) (y / 2) (z / 2) ≡ picked (x / 2) (y / 2) (z / 2) = chosen-picked n (x / 2) (y / 2) (z / 2) (omega arith)
    (omega arith) (omega arith) in
    let low : chosen 1 (x % 2) (y % 2) (z % 2) ≡ picked (x % 2) (y % 2) (z % 2) = bit (x % 2) (y % 2) (z % 2) (omega arith) (omega arith)
    (omega arith) in
    ap (λ (i : ℕ). chosen i x y z) o
    ∙ whole (chosen ((2 ^ n - 1) * 2 ^ 1 + 1)) x y z
    ∙ chosen-split (2 ^ n - 1) (x / 2) (y / 2) (z / 2) (x % 2) (y % 2) (z % 2) (omega arith) (omega arith) (omega arith) (omega arith)
    ∙ ap₂ (λ (p q : ℕ). p * 2 ^ 1 + q) ih low
    ∙ sym (picked-split (x / 2) (y / 2) (z / 2) (x % 2) (y % 2) (z % 2) (omega arith) (omega arith) (omega arith))
    ∙ sym (whole picked x y z)

pub choose-picked : (x y z : ℕ) → x < 2 ^ 32 → y < 2 ^ 32 → z < 2 ^ 32 → choose x y z ≡ picked x y z
unfolding choose
choose-picked x y z h k l = chosen-picked 32 x y z h k l

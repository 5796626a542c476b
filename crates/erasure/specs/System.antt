-- What the private functions on the system promise each other; of these public contracts name only `width` and `sum_to`, in `Weights`.
-- A system has at most `width` rows and columns of bytes (document 01): row r has the powers of point r. It is turned at one pivot after the other.
use Rattle.std.specs.Prelude.{◌≡◌, ◌≢◌, cond, List, [], ℕ, zero, suc, ◌<◌, eqb, get_or, take}
use Rattle.std.specs.Int.Bits.{bit_xor}
use Rattle.gf256.specs.Gf.{times, power, inverse}
use Rattle.gf256.specs.Poly.{through}
use Rattle.gf256.specs.Bytes.{bytes}
use Rattle.erasure.specs.Fragments.{table}

-- the most rows and columns
abbrev pub width : ℕ
width = 5

-- the bytes for which a row has room
abbrev pub system_row : ℕ
system_row = 16

-- the entry in row r and column c
abbrev pub entry : List (List ℕ) → ℕ → ℕ → ℕ
entry a r c = get_or (get_or a r []) c 0

-- out is row, less w times the pivot's row, with w in column p
pub record RowTurned (row pivot : List ℕ) (d p : ℕ) (out : List ℕ) : Type 0 where
  pub here : get_or out p 0 ≡ times (get_or row p 0) d
  pub there : (c : ℕ) → c < width → c ≢ p → get_or out c 0 ≡ bit_xor (get_or row c 0) (times (times (get_or row p 0) d) (get_or pivot c 0))

-- out is a, of k rows and columns, turned at p: the p-th unknown and the p-th value have changed places
pub record SystemTurned (k : ℕ) (a : List (List ℕ)) (p d : ℕ) (out : List (List ℕ)) : Type 0 where
  pub pp : entry out p p ≡ d
  pub pc : (c : ℕ) → c < k → c ≢ p → entry out p c ≡ times d (entry a p c)
  pub rp : (r : ℕ) → r < k → r ≢ p → entry out r p ≡ times (entry a r p) d
  pub rc : (r c : ℕ) → r < k → c < k → r ≢ p → c ≢ p → entry out r c ≡ bit_xor (entry a r c) (times (times (entry a r p) d) (entry a p c))

-- the sum of f i for i below n
unfoldable pub sum_to : ℕ → (ℕ → ℕ) → ℕ
sum_to zero f = 0
sum_to (suc n) f = bit_xor (sum_to n f) (f n)

-- what the j-th value counts for at z, in the solved system a
unfoldable pub weight_at : (k : ℕ) (a : List (List ℕ)) (z j : ℕ) → ℕ
weight_at k a z j = sum_to k (λ c. times (power z c) (entry a c j))

-- the first k points are all different
abbrev pub AllDifferent : ℕ → List ℕ → Type 0
AllDifferent k xs = (i j : ℕ) → i < k → j < k → i ≢ j → get_or xs i 0 ≢ get_or xs j 0

-- the weights w at z give, for any values y, the polynomial through the first k points
abbrev pub Weighs : (k : ℕ) (xs : List ℕ) (w : ℕ → ℕ) (z : ℕ) → Type 0
Weighs k xs w z = (y : ℕ → ℕ) → ((j : ℕ) → y j < 256) → sum_to k (λ j. times (y j) (w j)) ≡ through bytes (take k xs) (table k y) z

-- the weights of a are those of the first k points
abbrev pub Solves : ℕ → List ℕ → List (List ℕ) → Type 0
Solves k xs a = (z : ℕ) → z < 256 → Weighs k xs (weight_at k a z) z

-- ---- the same weights in closed form

unfoldable pub product_to : ℕ → (ℕ → ℕ) → ℕ
product_to zero f = 1
product_to (suc n) f = times (product_to n f) (f n)

-- z less point m, but 1 at j
abbrev pub factor_at : (points : List ℕ) (j z m : ℕ) → ℕ
factor_at points j z m = cond (eqb m j) 1 (bit_xor z (get_or points m 0))

-- the product over the other points, of z less each, over that of point j less each
unfoldable pub direct_at : (k : ℕ) (points : List ℕ) (z j : ℕ) → ℕ
direct_at k points z j = times (product_to k (factor_at points j z)) (inverse (product_to k (factor_at points j (get_or points j 0))))

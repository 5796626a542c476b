-- Sums in which one term counts. A row with one weight 1 and no other copies. And weights are known by the values that are 1 at one point: two that
-- weigh alike at z are the same, so those of the closed form, those of a solved system and, at a point given, all or nothing are the weights that the
-- definition names. Nothing is assumed.
use mathlib.Core.Path.{◌≡◌, refl, sym, ap, ap₂, ◌∙◌}
use mathlib.Core.Logic.{◌≢◌}
use mathlib.Core.Bool.{Bool, true, false, cond, true≢false}
use Rattle.std.proofs.Common.{◌-◌, not, position, Option, Some, None}
use Rattle.std.proofs.lemmas.List.Quantifiers.{position-Some}
use Rattle.std.proofs.lemmas.List.Folds.{list_all_at}
use Rattle.std.specs.List.{list_all}
use mathlib.Core.List.{List}
use Prim.Native.Nat.{ℕ, zero, suc, ◌+◌, ◌<◌, ◌≤◌}
use native.Mathlib.Nat.{not-suc-le-zero, le_refl, le-suc, le_trans, zero-lt-suc}
use native.Mathlib.Decide.{ℕ_discrete, dec_lt}
use native.Mathlib.Omega.{arith}
use borrow.Author.Tests.{eq-eqb, ne_eqb}
use lib.Bits.{bit_xor, xor_zero_r, xor_zero_l}
use lib.Dec.{eqb}
use lib.ListN.{length, get_or, set, take, drop, length-drop, replicate, get_or-replicate}
use lib.Seq.{get_or-take, get_or-drop, length-take-le, get_or-set_same, get_or-set_other}
use Rattle.gf256.specs.Gf.{times, power}
use Rattle.gf256.specs.Poly.{through}
use Rattle.gf256.specs.Bytes.{bytes}
use Rattle.gf256.proofs.Byte.{one-small}
use Rattle.gf256.proofs.Linear.{times-lt, times-comm, times-zero-l, times-zero_r, one-times}
use Rattle.gf256.proofs.Tables.{power-lt}
use Rattle.erasure.specs.System.{width, sum_to, entry, weight_at, direct_at, AllDifferent, Weighs, Solves}
use Rattle.erasure.specs.Lanes.{byte_at, sum_at}
use Rattle.erasure.specs.Standing.{weight_in}
use Rattle.erasure.specs.Weights.{unit_at, weight_of}
use Rattle.erasure.proofs.Sums.{sum_to_ext, sum_to-lt}
use Rattle.erasure.proofs.Placed.{value_at}
use Rattle.erasure.proofs.Weighed.{direct, direct-lt}

-- ---- one term counts

none : (k : ℕ) (f : ℕ → ℕ) → ((i : ℕ) → i < k → f i ≡ 0) → sum_to k f ≡ 0
unfolding sum_to
none zero f h = refl
none (suc k) f h = ap₂ bit_xor (none k f (λ i b. h i (le_trans b (le-suc k)))) (h k (le_refl (suc k)))

pub only : (k : ℕ) (f : ℕ → ℕ) (j : ℕ) → j < k → ((i : ℕ) → i < k → i ≢ j → f i ≡ 0) → sum_to k f ≡ f j
unfolding sum_to
only zero f j h others = absurd (not-suc-le-zero h)
only (suc k) f j h others = go (ℕ_discrete j k) (λ b. only k f j b (λ i l. others i (up i l)))
  where
    up : (i : ℕ) → i < k → i < suc k
    up i b = le_trans b (le-suc k)

    go : Dec (j ≡ k) → (j < k → sum_to k f ≡ f j) → bit_xor (sum_to k f) (f k) ≡ f j
    go (yes e) rest =
        ap (λ (x : ℕ). bit_xor x (f k)) (none k f (λ i b. others i (up i b) (λ q. omega (arith, q, e, b)))) ∙ xor_zero_l (f k) ∙ ap f (sym e)
    go (no ne) rest =
        ap₂ bit_xor (rest (omega (arith, h, ne))) (others k (le_refl (suc k)) (λ q. ne (sym q))) ∙ xor_zero_r (f j)

-- the sum of a row that copies
pub copies : (k : ℕ) (w : ℕ → ℕ) (src starts : List ℕ) (q r : ℕ) → r < k → w r ≡ 1 → ((j : ℕ) → j < k → j ≢ r → w j ≡ 0)
    → ((j : ℕ) → get_or src j 0 < 256) → sum_at k w src starts q ≡ byte_at src starts q r
unfolding sum_at
copies k w src starts q r h one zeros small =
    let b : ℕ = byte_at src starts q r in
    only k (λ j. times (byte_at src starts q j) (w j)) r h
    (λ j hj ne. ap (times (byte_at src starts q j)) (zeros j hj ne) ∙ times-zero_r (byte_at src starts q j))
    ∙ ap (times b) one ∙ times-comm b 1 (small (get_or starts r 0 + q)) one-small ∙ one-times b (small (get_or starts r 0 + q))

-- the first weight that is not 0, and behind it only zeros
pub beside : (row : List ℕ) (k p : ℕ) → k ≤ length row → position (λ w. not (eqb w 0)) (take k row) ≡ Some p
    → list_all (λ w. eqb w 0) (take (k - (p + 1)) (drop (p + 1) row)) ≡ true
    → (p < k) × ((j : ℕ) → j < k → j ≢ p → get_or row j 0 ≡ 0)
beside row k p long first rest = (omega (arith, at.0, lead), λ j h ne. go j h ne (dec_lt j p) (ℕ_discrete (get_or row j 0) 0))
  where
    lead : length (take k row) ≡ k
    lead = length-take-le k row long

    at : (p < length (take k row)) × (not (eqb (get_or (take k row) p 0) 0) ≡ true) × ((j : ℕ) → j < p → not (eqb (get_or (take k row) j 0) 0) ≡ false)
    at = position-Some (λ w. not (eqb w 0)) (take k row) p 0 first

    go : (j : ℕ) → j < k → j ≢ p → Dec (j < p) → Dec (get_or row j 0 ≡ 0) → get_or row j 0 ≡ 0
    go j h ne b (yes e) = e
    go j h ne (yes b) (no x) =
        absurd (true≢false (sym (ap not (ap (λ (w : ℕ). eqb w 0) (get_or-take k row j 0 h) ∙ ne_eqb (get_or row j 0) 0 x)) ∙ at.2 j b))
    go j h ne (no nb) (no x) =
        let i : ℕ = j - (p + 1) in
        let behind : List ℕ = drop (p + 1) row in
        let e : get_or (take (k - (p + 1)) behind) i 0 ≡ get_or row j 0 =
        get_or-take (k - (p + 1)) behind i 0 (omega arith) ∙ get_or-drop (p + 1) row i 0 ∙ ap (λ (x : ℕ). get_or row x 0) (omega arith) in
        absurd
        (true≢false
        (sym rest
        ∙ list_all_at (λ w. eqb w 0) (take (k - (p + 1)) behind) i 0
        (omega (arith, length-take-le (k - (p + 1)) behind (omega (arith, length-drop {A = ℕ} (p + 1) row))))
        (ap (λ (w : ℕ). eqb w 0) e ∙ ne_eqb (get_or row j 0) 0 x)))

-- ---- a row, as it is made

-- all or nothing
pub row_copied : (k : ℕ) (a : List (List ℕ)) (place z j : ℕ) → place < width → j < width
    → get_or (set (replicate {A = ℕ} width 0) place 1) j 0 ≡ weight_in k a (Some place) z j
unfolding weight_in
row_copied k a place z j b h = go (ℕ_discrete place j)
  where
    go : Dec (place ≡ j) → get_or (set (replicate {A = ℕ} width 0) place 1) j 0 ≡ cond (eqb place j) 1 0
    go (yes e) = rw (← e, eq-eqb place place refl) (get_or-set_same (replicate width 0) place 1 0 b)
    go (no ne) = rw (ne_eqb place j ne) (get_or-set_other (replicate width 0) place j 1 0 (λ e. ne (sym e)) ∙ get_or-replicate width j 0 0 h)

-- ---- weights are known by one value

-- 1 at j and 0 elsewhere
abbrev unit : ℕ → ℕ → ℕ
unit j i = cond (eqb i j) 1 0

unit-lt : (b : Bool) → cond b 1 0 < 256
unit-lt true = one-small
unit-lt false = zero-lt-suc 255

pub known : (k : ℕ) (xs : List ℕ) (w : ℕ → ℕ) (z j : ℕ) → Weighs k xs w z → k ≤ length xs → j < k → w j < 256 → weight_of (take k xs) z j ≡ w j
unfolding weight_of
known k xs w z j weighs kx h small =
    ap (λ (n : ℕ). through bytes (take k xs) (unit_at n j) z) (length-take-le k xs kx)
    ∙ sym (weighs (unit j) (λ i. unit-lt (eqb i j)))
    ∙ only k (λ i. times (unit j i) (w i)) j h
    (λ i hi ne. ap (λ (b : Bool). times (cond b 1 0) (w i)) (ne_eqb i j ne) ∙ times-zero-l (w i))
    ∙ ap (λ (b : Bool). times (cond b 1 0) (w j)) (eq-eqb j j refl) ∙ one-times (w j) small

module _ (k : ℕ) (xs : List ℕ) (kx : k ≤ length xs) (small : (i : ℕ) → get_or xs i 0 < 256) (d : AllDifferent k xs) (z : ℕ) (hz : z < 256) where
  -- the weights that the definition names weigh
  pub weigh : Weighs k xs (weight_of (take k xs) z) z
  weigh y sy =
      sum_to_ext k (λ j. times (y j) (weight_of (take k xs) z j)) (λ j. times (y j) (direct_at k xs z j))
      (λ j h. ap (times (y j)) (known k xs (direct_at k xs z) z j (direct k xs small kx d z hz) kx h (direct-lt k xs small z hz j)))
      ∙ direct k xs small kx d z hz y sy

  -- and they are what the code makes
  pub row_is : (a : List (List ℕ)) (place : Option ℕ) → ((p : ℕ) → place ≡ Some p → (p < k) × (get_or xs p 0 ≡ z))
      → (place ≡ None → Solves k xs a) → (j : ℕ) → j < k → weight_in k a place z j ≡ weight_of (take k xs) z j
  unfolding weight_in weight_of weight_at
  row_is a (Some p) stands solved j h =
      let at = stands p refl in
      sym (value_at k xs (unit j) kx (λ i _. small i) (λ i. unit-lt (eqb i j)) d p at.0)
      ∙ ap₂ (λ (n v : ℕ). through bytes (take k xs) (unit_at n j) v) (sym (length-take-le k xs kx)) at.1
  row_is a None stands solved j h = sym (known k xs (weight_at k a z) z j (solved refl z hz) kx h (weight-lt j))
    where
      weight-lt : (j : ℕ) → weight_at k a z j < 256
      weight-lt j = sum_to-lt k (λ c. times (power z c) (entry a c j)) (λ c _. times-lt (power z c) (entry a c j) (power-lt z c hz))

-- Reading a number off a column, character by character: what is left to read from one place is what is left from the next.
-- By what stands at the place. Assumes nothing.
use mathlib.Core.Path.{◌≡◌}
use mathlib.Core.List.{List}
use mathlib.Core.Option.{none, some}
use Prim.Native.Nat.{ℕ, zero, suc, ◌+◌, ◌-◌, ◌*◌, ◌≤◌, ◌<◌}
use native.Mathlib.Omega.{arith}
use native.Mathlib.Numerals.{add-one}
use lib.ListN.{length, get_or, drop, drop_of_length-le}
use lib.Seq.{drop-cons}
use borrow.Author.Tests.{le-leb, lt-leb, eq-eqb, ne_eqb}
use Rattle.columns.specs.Columns.{number, digits}

module _ (s : List ℕ) (i : ℕ) (h : i < length s) where
  pub digits_more : (v : ℕ) → 48 ≤ get_or s i 0 → get_or s i 0 ≤ 57 → digits v (drop i s) ≡ digits (10 * v + (get_or s i 0 - 48)) (drop (i + 1) s)
  unfolding digits
  digits_more v l k = rw (add-one, drop-cons s i 0 h, le-leb _ _ l, le-leb _ _ k)

  pub digits_low : (v : ℕ) → get_or s i 0 < 48 → digits v (drop i s) ≡ none
  unfolding digits
  digits_low v l = rw (drop-cons s i 0 h, lt-leb _ _ l)

  pub digits-high : (v : ℕ) → 48 ≤ get_or s i 0 → 57 < get_or s i 0 → digits v (drop i s) ≡ none
  unfolding digits
  digits-high v l k = rw (drop-cons s i 0 h, le-leb _ _ l, lt-leb _ _ k)

module _ (s : List ℕ) (i : ℕ) where
  pub digits-end : (v : ℕ) → length s ≤ i → digits v (drop i s) ≡ some v
  unfolding digits
  digits-end v h = rw (drop_of_length-le s h)

  pub number-end : length s ≤ i → number (drop i s) ≡ none
  unfolding number
  number-end h = rw (drop_of_length-le s h)

  pub number_one : i < length s → length s ≤ i + 1 → number (drop i s) ≡ digits 0 (drop i s)
  unfolding number
  number_one h k = rw (drop-cons s i 0 h, drop_of_length-le s {i = suc i} (omega arith))

  pub number-zero : i + 1 < length s → get_or s i 0 ≡ 48 → number (drop i s) ≡ none
  unfolding number
  number-zero h e = rw (drop-cons s i 0 (omega arith), drop-cons s (suc i) 0 (omega arith), eq-eqb _ _ e)

  pub number_more : i + 1 < length s → (get_or s i 0 ≡ 48 → ⊥) → number (drop i s) ≡ digits 0 (drop i s)
  unfolding number
  number_more h e = rw (drop-cons s i 0 (omega arith), drop-cons s (suc i) 0 (omega arith), ne_eqb _ _ e)

-- ---- a number of i digits is below 10 to the power i

abbrev pub tens : ℕ → ℕ
tens zero = 1
tens (suc n) = 10 * tens n

-- one digit more
pub tens_more : (v i d : ℕ) → v < tens i → d ≤ 9 → 10 * v + d < tens (i + 1)
tens_more v i d h k = rw add-one (omega arith)

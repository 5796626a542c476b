-- The closed form of the weights, of bytes: `Lagrange` at the field of FIPS 197, told in numbers. Nothing is assumed.
use mathlib.Core.Path.{◌≡◌, refl, sym, ap, ap₂, subst, ◌∙◌}
use mathlib.Core.Bool.{Bool, true, false, cond}
use mathlib.Core.List.{List}
use Prim.Native.Nat.{ℕ, zero, suc, ◌+◌, ◌<◌, ◌≤◌}
use native.Mathlib.Nat.{le_refl, le-suc, le_trans}
use native.Mathlib.Numerals.{add-one}
use lib.Bits.{bit_xor}
use lib.Dec.{eqb}
use lib.ListN.{length, get_or}
use Rattle.gf256.specs.Gf.{times, inverse}
use Rattle.gf256.specs.Poly.{through}
use Rattle.gf256.specs.Bytes.{bytes}
use Rattle.gf256.proofs.Powers.{tab}
use Rattle.gf256.proofs.Byte.{Byte, field, laws, add_b, mul_b, one_b, through-number}
use Rattle.gf256.proofs.Lagrange.{prod, factor, closed_weight, weighed}
use Rattle.erasure.specs.System.{product_to, factor_at, direct_at, AllDifferent, Weighs}
use Rattle.erasure.proofs.Sums.{sum_to_ext}
use Rattle.erasure.proofs.Solved.{to_byte, to_val, point, different, sum_number, tab_take, tab-table}

pub product_to_none : (f : ℕ → ℕ) → product_to 0 f ≡ 1
unfolding product_to
product_to_none f = refl

pub product_to_more : (k : ℕ) (f : ℕ → ℕ) (acc v : ℕ) → acc ≡ product_to k f → v ≡ f k → times acc v ≡ product_to (k + 1) f
unfolding product_to
product_to_more k f acc v p q = ap₂ times p q ∙ ap (λ (n : ℕ). product_to n f) (sym (add-one k))

prod-number : (k : ℕ) (g : ℕ → Byte) (f : ℕ → ℕ) → ((i : ℕ) → i < k → (g i).0 ≡ f i) → (prod field laws k g).0 ≡ product_to k f
unfolding prod product_to
prod-number zero g f e = refl
prod-number (suc k) g f e = ap₂ times (prod-number k g f (λ i b. e i (le_trans b (le-suc k)))) (e k (le_refl (suc k)))

cond-number : (b : Bool) (x : Byte) (y : ℕ) → x.0 ≡ y → (cond b one_b x).0 ≡ cond b 1 y
cond-number true x y e = refl
cond-number false x y e = e

module _ (k : ℕ) (xs : List ℕ) (small : (i : ℕ) → get_or xs i 0 < 256) where
  factor-number : (j : ℕ) (z : Byte) (n : ℕ) → z.0 ≡ n → (m : ℕ) → (factor field laws (point xs) j z m).0 ≡ factor_at xs j n m
  factor-number j z n e m =
      cond-number (eqb m j) (add_b z (point xs m)) (bit_xor n (get_or xs m 0)) (ap₂ bit_xor e (to_val (get_or xs m 0) (small m)))

  direct-number : (z : Byte) (n : ℕ) → z.0 ≡ n → (j : ℕ) → (closed_weight field laws k (point xs) z j).0 ≡ direct_at k xs n j
  unfolding direct_at
  direct-number z n e j =
      ap₂ (λ (u v : ℕ). times u (inverse v)) (prod-number k (factor field laws (point xs) j z) (factor_at xs j n) (λ m _. factor-number j z n e m))
      (prod-number k (factor field laws (point xs) j (point xs j)) (factor_at xs j (get_or xs j 0))
      (λ m _. factor-number j (point xs j) (get_or xs j 0) (to_val (get_or xs j 0) (small j)) m))

  pub direct-lt : (z : ℕ) → z < 256 → (j : ℕ) → direct_at k xs z j < 256
  direct-lt z hz j =
      let q : Byte = (z, hz) in subst (λ (x : ℕ). x < 256) (direct-number q z refl j) (closed_weight field laws k (point xs) q j).1

  pub direct : k ≤ length xs → AllDifferent k xs → (z : ℕ) → z < 256 → Weighs k xs (direct_at k xs z) z
  direct kx d z hz y sy =
      let q : Byte = (z, hz) in
      let v : ℕ → Byte = λ j. to_byte (y j) in
      sum_to_ext k (λ j. times (y j) (direct_at k xs z j)) (λ j. (mul_b (v j) (closed_weight field laws k (point xs) q j)).0)
      (λ j h. ap₂ times (sym (to_val (y j) (sy j))) (sym (direct-number q z refl j)))
      ∙ sym (sum_number k (λ j. mul_b (v j) (closed_weight field laws k (point xs) q j)))
      ∙ ap (λ (b : Byte). b.0) (weighed field laws k (point xs) v q (different k xs small d))
      ∙ through-number (tab field laws k (point xs)) (tab field laws k v) q
      ∙ ap₂ (λ (u t : List ℕ). through bytes u t z) (tab_take k xs (point xs) kx (λ i. to_val (get_or xs i 0) (small i)))
      (tab-table k v y (λ i. to_val (y i) (sy i)))

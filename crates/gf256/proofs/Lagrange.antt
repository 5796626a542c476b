-- Weights in closed form: the value at z of the polynomial through given points is the sum of the values, each times the product of z less the
-- other points over the product of its own point less the other points. The sum is a polynomial of the right degree that takes the values
-- at the points, and there is but one. Nothing is assumed but the laws of a field.
use mathlib.Core.Path.{◌≡◌, refl, sym, ap, ap₂, subst, ◌∙◌}
use mathlib.Core.Logic.{◌≢◌}
use mathlib.Core.Bool.{cond}
use mathlib.Core.List.{List, [], ◌∷◌}
use Prim.Native.Nat.{ℕ, zero, suc, ◌≤◌, ◌<◌}
use native.Mathlib.Nat.{le_of_suc-le-suc, not-suc-le-zero, le_refl, le-suc, le_trans}
use native.Mathlib.Omega.{arith}
use lib.Dec.{eqb, eqb-suc-zero, eqb-zero-suc, eqb-suc-suc}
use lib.ListN.{length, get_or}
use Rattle.gf256.specs.Poly.{Ops, eval, vanish, through}
use Rattle.gf256.proofs.Field
use Rattle.gf256.proofs.Roots
use Rattle.gf256.proofs.Coefficients
use Rattle.gf256.proofs.Through
use Rattle.gf256.proofs.Sums
use Rattle.gf256.proofs.Powers
use Rattle.gf256.proofs.Apart.{Distinct, apart_at}
use Rattle.gf256.proofs.Roots.{plus}
use Rattle.gf256.proofs.Powers.{tab}

module _ (O : Ops) (L : Field.Laws O) where
  infixl 65 ◌⊕◌
  infixl 70 ◌⊗◌
  open O use {F, nil as 0#, one as 1#, add as ◌⊕◌, mul as ◌⊗◌, inv}
  open L use {add_self, mul_comm, mul_assoc, one-mul, mul-inv}

  -- all points but the j-th
  omit : ℕ → List F → List F
  omit j [] = []
  omit zero (x ∷ xs) = xs
  omit (suc j) (x ∷ xs) = x ∷ omit j xs

  length_omit : (j : ℕ) (xs : List F) → j < length xs → suc (length (omit j xs)) ≡ length xs
  unfolding omit
  length_omit j [] h = absurd (not-suc-le-zero h)
  length_omit zero (x ∷ xs) h = refl
  length_omit (suc j) (x ∷ xs) h = ap suc (length_omit j xs (le_of_suc-le-suc h))

  -- the product of z less each point but the j-th
  others : List F → ℕ → F → F
  others xs j z = vanish O (omit j xs) z

  others-nil : (xs : List F) (i j : ℕ) → i < length xs → i ≢ j → others xs j (get_or xs i 0#) ≡ 0#
  unfolding others omit vanish
  others-nil [] i j h ne = absurd (not-suc-le-zero h)
  others-nil (x ∷ xs) zero zero h ne = absurd (ne refl)
  others-nil (x ∷ xs) zero (suc j) h ne = ap (λ t. t ⊗ vanish O (omit j xs) x) (add_self x) ∙ Field.nil-mul O L _
  others-nil (x ∷ xs) (suc i) zero h ne = Through.vanish_at O L xs 0# i (le_of_suc-le-suc h)
  others-nil (x ∷ xs) (suc i) (suc j) h ne =
      ap (λ t. (get_or xs i 0# ⊕ x) ⊗ t) (others-nil xs i j (le_of_suc-le-suc h) (λ e. ne (ap suc e))) ∙ Field.mul-nil O L _

  others-ne : (xs : List F) (j : ℕ) → Distinct xs → j < length xs → others xs j (get_or xs j 0#) ≢ 0#
  unfolding others omit vanish
  others-ne [] j d h = absurd (not-suc-le-zero h)
  others-ne (x ∷ xs) zero d h = Through.vanish-ne O L x xs d.0
  others-ne (x ∷ xs) (suc j) d h = λ e.
      others-ne xs j d.1 (le_of_suc-le-suc h)
      (Field.factor-nil O L (get_or xs j 0# ⊕ x) _ (λ q. apart_at 0# x xs d.0 j (le_of_suc-le-suc h) (sym (Field.eq_of-sum O L (get_or xs j 0#) x q)))
      e)

  -- what the value at the j-th point counts for at z
  weight : List F → ℕ → F → F
  weight xs j z = others xs j z ⊗ inv (others xs j (get_or xs j 0#))

  weight_own : (xs : List F) (j : ℕ) → Distinct xs → j < length xs → weight xs j (get_or xs j 0#) ≡ 1#
  unfolding weight
  weight_own xs j d h = mul-inv (others xs j (get_or xs j 0#)) (others-ne xs j d h)

  weight-other : (xs : List F) (i j : ℕ) → i < length xs → i ≢ j → weight xs j (get_or xs i 0#) ≡ 0#
  unfolding weight
  weight-other xs i j h ne = ap (λ t. t ⊗ inv (others xs j (get_or xs j 0#))) (others-nil xs i j h ne) ∙ Field.nil-mul O L _

  -- the coefficients of the sum
  sum_c : List F → (ℕ → F) → ℕ → List F
  sum_c xs v zero = []
  sum_c xs v (suc n) = Roots.plus O L (sum_c xs v n) (Coefficients.scale O L (v n ⊗ inv (others xs n (get_or xs n 0#)))
      (Coefficients.vanish_c O L (omit n xs)))

  length_term : (xs : List F) (a : F) (n : ℕ) → n < length xs → length (Coefficients.scale O L a (Coefficients.vanish_c O L (omit n xs))) ≡ length xs
  length_term xs a n h = Coefficients.length_scale O L a _ ∙ Coefficients.length_vanish_c O L (omit n xs) ∙ length_omit n xs h

  length_sum_c : (xs : List F) (v : ℕ → F) (n : ℕ) → suc n ≤ length xs → length (sum_c xs v (suc n)) ≡ length xs
  unfolding sum_c plus
  length_sum_c xs v zero h = length_term xs _ zero h
  length_sum_c xs v (suc n) h =
      Roots.length_plus O L (sum_c xs v (suc n)) _ (length xs) (length_sum_c xs v n (le_trans (le-suc (suc n)) h)) (length_term xs _ (suc n) h)

  length_all : (xs : List F) (v : ℕ → F) (k : ℕ) → length xs ≡ k → length (sum_c xs v k) ≡ length xs
  unfolding sum_c
  length_all xs v zero e = sym e
  length_all xs v (suc k) e = length_sum_c xs v k (omega (arith, e))

  sum_c-eval : (xs : List F) (v : ℕ → F) (n : ℕ) (z : F) → eval O (sum_c xs v n) z ≡ Sums.sum O L n (λ j. v j ⊗ weight xs j z)
  unfolding sum_c eval weight others
  sum_c-eval xs v zero z = sym (Sums.sum_none O L _)
  sum_c-eval xs v (suc n) z =
      Roots.plus-eval O L (sum_c xs v n) _ z
      ∙ ap₂ (λ s t. s ⊕ t) (sum_c-eval xs v n z)
      (Coefficients.scale-eval O L _ (Coefficients.vanish_c O L (omit n xs)) z
      ∙ ap (λ t. (v n ⊗ inv (others xs n (get_or xs n 0#))) ⊗ t) (Coefficients.vanish_c-eval O L (omit n xs) z)
      ∙ mul_assoc (v n) _ _ ∙ ap (λ t. v n ⊗ t) (mul_comm _ _))
      ∙ sym (Sums.sum_more O L n (λ j. v j ⊗ weight xs j z))

  sum_at_lem : (xs : List F) (v : ℕ → F) (i : ℕ) → Distinct xs → i < length xs → Sums.sum O L (length xs) (λ j. v j ⊗ weight xs j (get_or xs i 0#)) ≡ v i
  sum_at_lem xs v i d h =
      Sums.sum-pick O L (length xs) i _ h
      ∙ ap₂ (λ s t. s ⊕ t) (ap (λ t. v i ⊗ t) (weight_own xs i d h) ∙ Field.mul-one O L (v i))
      (Sums.rest-nil O L (length xs) i _ (λ j b ne. ap (λ t. v j ⊗ t) (weight-other xs i j h (λ e. ne (sym e))) ∙ Field.mul-nil O L (v j)))
      ∙ Field.add-nil O L (v i)

  -- ---- of points that a function gives

  unfoldable pub prod : ℕ → (ℕ → F) → F
  prod zero g = 1#
  prod (suc n) g = prod n g ⊗ g n

  prod_ext : (n : ℕ) (g h : ℕ → F) → ((i : ℕ) → i < n → g i ≡ h i) → prod n g ≡ prod n h
  unfolding prod
  prod_ext zero g h e = refl
  prod_ext (suc n) g h e = ap₂ (λ s t. s ⊗ t) (prod_ext n g h (λ i b. e i (le_trans b (le-suc n)))) (e n (le_refl (suc n)))

  prod_first : (n : ℕ) (g : ℕ → F) → prod (suc n) g ≡ g 0 ⊗ prod n (λ i. g (suc i))
  unfolding prod
  prod_first zero g = mul_comm 1# (g 0)
  prod_first (suc n) g = ap (λ t. t ⊗ g (suc n)) (prod_first n g) ∙ mul_assoc (g 0) (prod n (λ i. g (suc i))) (g (suc n))

  vanish_prod : (n : ℕ) (x : ℕ → F) (z : F) → vanish O (tab O L n x) z ≡ prod n (λ m. z ⊕ x m)
  unfolding vanish tab prod
  vanish_prod zero x z = refl
  vanish_prod (suc n) x z = ap (λ t. (z ⊕ x 0) ⊗ t) (vanish_prod n (λ i. x (suc i)) z) ∙ sym (prod_first n (λ m. z ⊕ x m))

  -- z less x m, but 1 at j
  abbrev pub factor : (ℕ → F) → ℕ → F → ℕ → F
  factor x j z m = cond (eqb m j) 1# (z ⊕ x m)

  others_prod : (n : ℕ) (x : ℕ → F) (j : ℕ) (z : F) → j < n → others (tab O L n x) j z ≡ prod n (factor x j z)
  unfolding others omit vanish tab
  others_prod zero x j z h = absurd (not-suc-le-zero h)
  others_prod (suc n) x zero z h =
      vanish_prod n (λ i. x (suc i)) z
      ∙ prod_ext n (λ m. z ⊕ x (suc m)) (λ m. factor x zero z (suc m)) (λ m b. sym (ap (λ t. cond t 1# (z ⊕ x (suc m))) (eqb-suc-zero m)))
      ∙ sym (one-mul (prod n (λ m. factor x zero z (suc m)))) ∙ sym (prod_first n (factor x zero z))
  others_prod (suc n) x (suc j) z h =
      ap₂ (λ s t. s ⊗ t) (sym (ap (λ t. cond t 1# (z ⊕ x 0)) (eqb-zero-suc j)))
      (others_prod n (λ i. x (suc i)) j z (le_of_suc-le-suc h)
      ∙ prod_ext n (factor (λ i. x (suc i)) j z) (λ m. factor x (suc j) z (suc m)) (λ m b. sym
      (ap (λ t. cond t 1# (z ⊕ x (suc m))) (eqb-suc-suc m j))))
      ∙ sym (prod_first n (factor x (suc j) z))

  -- the weight of the j-th of k points
  abbrev pub closed_weight : ℕ → (ℕ → F) → F → ℕ → F
  closed_weight k x z j = prod k (factor x j z) ⊗ inv (prod k (factor x j (x j)))

  weight_is : (k : ℕ) (x : ℕ → F) (z : F) (j : ℕ) → j < k → weight (tab O L k x) j z ≡ closed_weight k x z j
  unfolding weight
  weight_is k x z j h =
      ap₂ (λ s t. s ⊗ inv t) (others_prod k x j z h)
      (ap (others (tab O L k x) j) (Powers.get_or-tab O L k x j 0# h) ∙ others_prod k x j (x j) h)

  -- the sum of the values, each times its weight, is the polynomial through the points
  pub weighed : (k : ℕ) (x v : ℕ → F) (z : F) → Powers.Different O L k x
      → Sums.sum O L k (λ j. v j ⊗ closed_weight k x z j) ≡ through O (tab O L k x) (tab O L k v) z
  weighed k x v z d =
      Sums.sum_ext O L k (λ j. v j ⊗ closed_weight k x z j) (λ j. v j ⊗ weight xs j z) (λ j b. ap (λ t. v j ⊗ t) (sym (weight_is k x z j b)))
      ∙ sym (sum_c-eval xs v k z)
      ∙ Through.through_is O L xs (tab O L k v) (sum_c xs v k) 0# (length_all xs v k long) (Powers.length-tab O L k v ∙ sym long) distinct
      (λ i b.
      let h : i < k = subst (λ (n : ℕ). i < n) long b in
      sum_c-eval xs v k (get_or xs i 0#)
      ∙ subst (λ (n : ℕ). Sums.sum O L n (λ j. v j ⊗ weight xs j (get_or xs i 0#)) ≡ v i) long (sum_at_lem xs v i distinct b)
      ∙ sym (Powers.get_or-tab O L k v i 0# h)) z
    where
      xs : List F
      xs = tab O L k x

      long : length xs ≡ k
      long = Powers.length-tab O L k x

      distinct : Distinct xs
      distinct = Powers.distinct-tab O L k x d

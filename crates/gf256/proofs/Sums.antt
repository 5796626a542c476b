-- Sums of the terms 0 to n - 1, with and without one of them. Each law by going through the terms; nothing is assumed but the laws of a field.
use mathlib.Core.Path.{◌≡◌, refl, sym, ap, ap₂, ◌∙◌}
use mathlib.Core.Logic.{◌≢◌}
use Prim.Native.Nat.{ℕ, zero, suc, ◌≤◌, ◌<◌, suc-le-suc, zero-le}
use native.Mathlib.Nat.{suc_inj, suc-ne-zero, le_of_suc-le-suc, not-suc-le-zero, zero-lt-suc}
use Rattle.gf256.specs.Poly.{Ops}
use Rattle.gf256.proofs.Field.{Laws, add_left_comm, swap4, mul-nil, nil-mul}

module _ (O : Ops) (L : Laws O) where
  infixl 65 ◌⊕◌
  infixl 70 ◌⊗◌
  open O use {F, nil as 0#, add as ◌⊕◌, mul as ◌⊗◌}
  open L use {add_comm, add_assoc, nil-add, mul-add}

  unfoldable pub sum : ℕ → (ℕ → F) → F
  sum zero f = 0#
  sum (suc n) f = f 0 ⊕ sum n (λ i. f (suc i))

  pub sum_none : (f : ℕ → F) → sum 0 f ≡ 0#
  unfolding sum
  sum_none f = refl

  pub sum_ext : (n : ℕ) (f g : ℕ → F) → ((c : ℕ) → c < n → f c ≡ g c) → sum n f ≡ sum n g
  unfolding sum
  sum_ext zero f g h = refl
  sum_ext (suc n) f g h = ap₂ (λ s t. s ⊕ t) (h 0 (zero-lt-suc n)) (sum_ext n (λ i. f (suc i)) (λ i. g (suc i)) (λ c b. h (suc c) (suc-le-suc b)))

  pub sum-add : (n : ℕ) (f g : ℕ → F) → sum n (λ i. f i ⊕ g i) ≡ sum n f ⊕ sum n g
  unfolding sum
  sum-add zero f g = sym (nil-add 0#)
  sum-add (suc n) f g =
      ap (λ t. (f 0 ⊕ g 0) ⊕ t) (sum-add n (λ i. f (suc i)) (λ i. g (suc i))) ∙ swap4 O L (f 0) (g 0) (sum n (λ i. f (suc i)))
      (sum n (λ i. g (suc i)))

  pub sum-mul : (n : ℕ) (a : F) (f : ℕ → F) → sum n (λ i. a ⊗ f i) ≡ a ⊗ sum n f
  unfolding sum
  sum-mul zero a f = sym (mul-nil O L a)
  sum-mul (suc n) a f = ap (λ t. a ⊗ f 0 ⊕ t) (sum-mul n a (λ i. f (suc i))) ∙ sym (mul-add a (f 0) (sum n (λ i. f (suc i))))

  sum-nil : (n : ℕ) → sum n (λ i. 0#) ≡ 0#
  unfolding sum
  sum-nil zero = refl
  sum-nil (suc n) = nil-add _ ∙ sum-nil n

  pub sum-swap : (n k : ℕ) (f : ℕ → ℕ → F) → sum n (λ i. sum k (λ j. f i j)) ≡ sum k (λ j. sum n (λ i. f i j))
  unfolding sum
  sum-swap zero k f = sym (sum-nil k)
  sum-swap (suc n) k f =
      ap (λ t. sum k (λ j. f 0 j) ⊕ t) (sum-swap n k (λ i j. f (suc i) j))
      ∙ sym (sum-add k (λ j. f 0 j) (λ j. sum n (λ i. f (suc i) j)))

  -- terms past n that are zero
  pub sum_short : (n k : ℕ) (f : ℕ → F) → n ≤ k → ((c : ℕ) → n ≤ c → c < k → f c ≡ 0#) → sum k f ≡ sum n f
  unfolding sum
  sum_short zero zero f h z = refl
  sum_short zero (suc k) f h z =
      ap₂ (λ s t. s ⊕ t) (z 0 zero-le (zero-lt-suc k)) (sum_short zero k (λ i. f (suc i)) zero-le (λ c _ b. z (suc c) zero-le (suc-le-suc b))) ∙
      nil-add 0#
  sum_short (suc n) zero f h z = absurd (not-suc-le-zero h)
  sum_short (suc n) (suc k) f h z =
      ap (λ t. f 0 ⊕ t) (sum_short n k (λ i. f (suc i)) (le_of_suc-le-suc h) (λ c hc b. z (suc c) (suc-le-suc hc) (suc-le-suc b)))

  -- one term more, at the end: how a loop adds
  pub sum_more : (n : ℕ) (f : ℕ → F) → sum (suc n) f ≡ sum n f ⊕ f n
  unfolding sum
  sum_more zero f = add_comm (f 0) 0#
  sum_more (suc n) f = ap (λ t. f 0 ⊕ t) (sum_more n (λ i. f (suc i))) ∙ sym (add_assoc (f 0) (sum n (λ i. f (suc i))) (f (suc n)))

  -- ---- without the term at p

  -- without the term at p
  unfoldable pub rest : ℕ → ℕ → (ℕ → F) → F
  rest zero p f = 0#
  rest (suc n) zero f = sum n (λ i. f (suc i))
  rest (suc n) (suc p) f = f 0 ⊕ rest n p (λ i. f (suc i))

  pub sum-pick : (n p : ℕ) (f : ℕ → F) → p < n → sum n f ≡ f p ⊕ rest n p f
  unfolding sum rest
  sum-pick zero p f h = absurd (not-suc-le-zero h)
  sum-pick (suc n) zero f h = refl
  sum-pick (suc n) (suc p) f h =
      ap (λ t. f 0 ⊕ t) (sum-pick n p (λ i. f (suc i)) (le_of_suc-le-suc h)) ∙ add_left_comm O L (f 0) (f (suc p)) (rest n p (λ i. f (suc i)))

  pub rest_ext : (n p : ℕ) (f g : ℕ → F) → ((c : ℕ) → c < n → c ≢ p → f c ≡ g c) → rest n p f ≡ rest n p g
  unfolding rest
  rest_ext zero p f g h = refl
  rest_ext (suc n) zero f g h = sum_ext n (λ i. f (suc i)) (λ i. g (suc i)) (λ c b. h (suc c) (suc-le-suc b) (suc-ne-zero c))
  rest_ext (suc n) (suc p) f g h =
      ap₂ (λ s t. s ⊕ t) (h 0 (zero-lt-suc n) (λ e. suc-ne-zero p (sym e)))
      (rest_ext n p (λ i. f (suc i)) (λ i. g (suc i)) (λ c b ne. h (suc c) (suc-le-suc b) (λ e. ne (suc_inj e))))

  pub rest-add : (n p : ℕ) (f g : ℕ → F) → rest n p (λ i. f i ⊕ g i) ≡ rest n p f ⊕ rest n p g
  unfolding rest
  rest-add zero p f g = sym (nil-add 0#)
  rest-add (suc n) zero f g = sum-add n (λ i. f (suc i)) (λ i. g (suc i))
  rest-add (suc n) (suc p) f g =
      ap (λ t. (f 0 ⊕ g 0) ⊕ t) (rest-add n p (λ i. f (suc i)) (λ i. g (suc i))) ∙ swap4 O L (f 0) (g 0) (rest n p (λ i. f (suc i)))
      (rest n p (λ i. g (suc i)))

  pub rest-mul : (n p : ℕ) (a : F) (f : ℕ → F) → rest n p (λ i. a ⊗ f i) ≡ a ⊗ rest n p f
  unfolding rest
  rest-mul zero p a f = sym (mul-nil O L a)
  rest-mul (suc n) zero a f = sum-mul n a (λ i. f (suc i))
  rest-mul (suc n) (suc p) a f = ap (λ t. a ⊗ f 0 ⊕ t) (rest-mul n p a (λ i. f (suc i))) ∙ sym (mul-add a (f 0) (rest n p (λ i. f (suc i))))

  pub rest-nil : (n p : ℕ) (f : ℕ → F) → ((c : ℕ) → c < n → c ≢ p → f c ≡ 0#) → rest n p f ≡ 0#
  rest-nil n p f h = rest_ext n p f (λ c. 0# ⊗ 0#) (λ c b ne. h c b ne ∙ sym (mul-nil O L 0#)) ∙ rest-mul n p 0# (λ c. 0#) ∙ nil-mul O L _

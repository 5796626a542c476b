-- The polynomial through given points has as many coefficients as there are points: they are written down, and have `through` as their value.
-- Nothing is assumed but the laws of a field.
use mathlib.Core.Path.{◌≡◌, refl, sym, ap, ap₂, ◌∙◌}
use mathlib.Core.List.{List, [], ◌∷◌}
use Prim.Native.Nat.{ℕ, zero, suc, ◌≤◌}
use native.Mathlib.Nat.{suc_inj, suc-ne-zero, le_of_suc-le-suc}
use native.Mathlib.Omega.{arith}
use lib.ListN.{length}
use Rattle.gf256.specs.Poly.{Ops, eval, vanish, through}
use Rattle.gf256.proofs.Field.{Laws, add-nil, mul_left_comm, add-mul, mul-nil}
use Rattle.gf256.proofs.Roots.{plus, plus-eval}

module _ (O : Ops) (L : Laws O) where
  infixl 65 ◌⊕◌
  infixl 70 ◌⊗◌
  open O use {F, nil as 0#, one as 1#, add as ◌⊕◌, mul as ◌⊗◌, inv}
  open L use {add_comm, nil-add, mul-add}

  unfoldable pub scale : F → List F → List F
  scale a [] = []
  scale a (c ∷ cs) = a ⊗ c ∷ scale a cs

  pub scale-eval : (a : F) (p : List F) (z : F) → eval O (scale a p) z ≡ a ⊗ eval O p z
  unfolding eval scale
  scale-eval a [] z = sym (mul-nil O L a)
  scale-eval a (c ∷ cs) z =
      ap (λ t. a ⊗ c ⊕ z ⊗ t) (scale-eval a cs z) ∙ ap (λ t. a ⊗ c ⊕ t) (mul_left_comm O L z a (eval O cs z)) ∙ sym (mul-add a c (z ⊗ eval O cs z))

  pub length_scale : (a : F) (p : List F) → length (scale a p) ≡ length p
  unfolding scale
  length_scale a [] = refl
  length_scale a (c ∷ cs) = ap suc (length_scale a cs)

  -- z - x times p
  unfoldable pub raise : F → List F → List F
  raise x p = plus O L (scale x p) (0# ∷ p)

  pub raise-eval : (x : F) (p : List F) (z : F) → eval O (raise x p) z ≡ (z ⊕ x) ⊗ eval O p z
  unfolding raise eval
  raise-eval x p z =
      plus-eval O L (scale x p) (0# ∷ p) z
      ∙ ap₂ (λ s t. s ⊕ t) (scale-eval x p z) (nil-add (z ⊗ eval O p z))
      ∙ add_comm (x ⊗ eval O p z) (z ⊗ eval O p z) ∙ sym (add-mul O L z x (eval O p z))

  -- the coefficients of `vanish`, one more than the points
  unfoldable pub vanish_c : List F → List F
  vanish_c [] = 1# ∷ []
  vanish_c (x ∷ xs) = raise x (vanish_c xs)

  pub vanish_c-eval : (xs : List F) (z : F) → eval O (vanish_c xs) z ≡ vanish O xs z
  unfolding vanish_c eval vanish
  vanish_c-eval [] z = ap (λ t. 1# ⊕ t) (mul-nil O L z) ∙ add-nil O L 1#
  vanish_c-eval (x ∷ xs) z = raise-eval x (vanish_c xs) z ∙ ap (λ t. (z ⊕ x) ⊗ t) (vanish_c-eval xs z)

  -- the longer of the two sums keeps its length
  length_plus-long : (p q : List F) (n : ℕ) → length p ≤ n → length q ≡ n → length (plus O L p q) ≡ n
  unfolding plus
  length_plus-long [] q n e f = f
  length_plus-long (a ∷ p) [] n e f = omega (arith, f)
  length_plus-long (a ∷ p) (b ∷ q) zero e f = absurd (suc-ne-zero (length q) f)
  length_plus-long (a ∷ p) (b ∷ q) (suc n) e f = ap suc (length_plus-long p q n (le_of_suc-le-suc e) (suc_inj f))

  pub length_vanish_c : (xs : List F) → length (vanish_c xs) ≡ suc (length xs)
  unfolding vanish_c raise
  length_vanish_c [] = refl
  length_vanish_c (x ∷ xs) =
      length_plus-long (scale x (vanish_c xs)) (0# ∷ vanish_c xs) (suc (suc (length xs)))
      (omega (arith, length_scale x (vanish_c xs), length_vanish_c xs)) (ap suc (length_vanish_c xs))

  unfoldable pub through_c : List F → List F → List F
  through_c [] ys = []
  through_c (x ∷ xs) [] = 0# ∷ through_c xs []
  through_c (x ∷ xs) (y ∷ ys) = plus O L (through_c xs ys) (scale ((y ⊕ through O xs ys x) ⊗ inv (vanish O xs x)) (vanish_c xs))

  pub length_through_c : (xs ys : List F) → length (through_c xs ys) ≡ length xs
  unfolding through_c
  length_through_c [] ys = refl
  length_through_c (x ∷ xs) [] = ap suc (length_through_c xs [])
  length_through_c (x ∷ xs) (y ∷ ys) =
      length_plus-long (through_c xs ys) (scale ((y ⊕ through O xs ys x) ⊗ inv (vanish O xs x)) (vanish_c xs)) (suc (length xs))
      (omega (arith, length_through_c xs ys))
      (length_scale ((y ⊕ through O xs ys x) ⊗ inv (vanish O xs x)) (vanish_c xs) ∙ length_vanish_c xs)

  through_short : (xs : List F) (z : F) → eval O (through_c xs []) z ≡ 0#
  unfolding through_c eval
  through_short [] z = refl
  through_short (x ∷ xs) z = nil-add _ ∙ ap (λ t. z ⊗ t) (through_short xs z) ∙ mul-nil O L z

  pub through_c-eval : (xs ys : List F) (z : F) → eval O (through_c xs ys) z ≡ through O xs ys z
  unfolding through_c through eval
  through_c-eval [] ys z = refl
  through_c-eval (x ∷ xs) [] z = through_short (x ∷ xs) z
  through_c-eval (x ∷ xs) (y ∷ ys) z =
      plus-eval O L (through_c xs ys) (scale ((y ⊕ through O xs ys x) ⊗ inv (vanish O xs x)) (vanish_c xs)) z
      ∙ ap₂ (λ s t. s ⊕ t) (through_c-eval xs ys z)
      (scale-eval ((y ⊕ through O xs ys x) ⊗ inv (vanish O xs x)) (vanish_c xs) z
      ∙ ap (λ t. ((y ⊕ through O xs ys x) ⊗ inv (vanish O xs x)) ⊗ t) (vanish_c-eval xs z))

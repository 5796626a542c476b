-- A polynomial with as many different roots as coefficients is zero, since each root divides it; so two polynomials that agree at as many
-- points as they have coefficients agree everywhere. Nothing is assumed but the laws of a field.
use mathlib.Core.Path.{◌≡◌, refl, sym, ap, ap₂, ◌∙◌}
use mathlib.Core.Logic.{◌≢◌}
use mathlib.Core.List.{List, [], ◌∷◌}
use Prim.Native.Nat.{ℕ, zero, suc}
use native.Mathlib.Nat.{suc_inj, suc-ne-zero}
use lib.ListN.{length}
use Rattle.gf256.specs.Poly.{Ops, eval}
use Rattle.gf256.proofs.Apart.{Apart, Distinct}
use Rattle.gf256.proofs.Field.{Laws, add-nil, add_left_comm, add_cancel, swap4, mul_left_comm, add-mul, mul-nil, eq_of-sum, sum_of-eq, factor-nil}

module _ (O : Ops) (L : Laws O) where
  infixl 65 ◌⊕◌
  infixl 70 ◌⊗◌
  open O use {F, nil as 0#, add as ◌⊕◌, mul as ◌⊗◌}
  open L use {add_assoc, nil-add, mul-add}

  -- ---- division by a root

  -- synthetic division: the quotient of c + z cs by z - x
  unfoldable pub quot : F → List F → List F
  quot x [] = []
  quot x (d ∷ ds) = eval O (d ∷ ds) x ∷ quot x ds

  pub length_quot : (x : F) (cs : List F) → length (quot x cs) ≡ length cs
  unfolding quot
  length_quot x [] = refl
  length_quot x (d ∷ ds) = ap suc (length_quot x ds)

  div_step : (c z x g h : F) → c ⊕ z ⊗ (g ⊕ (z ⊕ x) ⊗ h) ≡ (c ⊕ x ⊗ g) ⊕ (z ⊕ x) ⊗ (g ⊕ z ⊗ h)
  div_step c z x g h = simp (mul-add, add-mul O L, add_assoc, add_left_comm O L, mul_left_comm O L, add_cancel O L)

  pub quot-eval : (x : F) (c : F) (cs : List F) (z : F) → eval O (c ∷ cs) z ≡ eval O (c ∷ cs) x ⊕ ((z ⊕ x) ⊗ eval O (quot x cs) z)
  unfolding quot eval
  quot-eval x c [] z =
      ap (λ t. c ⊕ t) (mul-nil O L z ∙ sym (mul-nil O L x)) ∙ sym (ap (λ t. (c ⊕ x ⊗ 0#) ⊕ t) (mul-nil O L (z ⊕ x)) ∙ add-nil O L _)
  quot-eval x c (d ∷ ds) z =
      ap (λ t. c ⊕ z ⊗ t) (quot-eval x d ds z) ∙ div_step c z x (eval O (d ∷ ds) x) (eval O (quot x ds) z)

  -- every point of the list is a root
  abbrev pub Roots : List F → List F → Type 0
  Roots p [] = Unit {0}
  Roots p (x ∷ xs) = (eval O p x ≡ 0#) × Roots p xs

  -- the other roots are roots of the quotient
  quot_root : (x : F) (c : F) (cs : List F) → eval O (c ∷ cs) x ≡ 0# → (y : F) → x ≢ y → eval O (c ∷ cs) y ≡ 0# → eval O (quot x cs) y ≡ 0#
  quot_root x c cs e y ne f =
      factor-nil O L (y ⊕ x) (eval O (quot x cs) y) (λ h. ne (sym (eq_of-sum O L y x h)))
      (sym (nil-add _) ∙ ap (λ t. t ⊕ (y ⊕ x) ⊗ eval O (quot x cs) y) (sym e) ∙ sym (quot-eval x c cs y) ∙ f)

  quot_roots : (x : F) (c : F) (cs : List F) → eval O (c ∷ cs) x ≡ 0# → (ys : List F) → Apart x ys → Roots (c ∷ cs) ys → Roots (quot x cs) ys
  quot_roots x c cs e [] d r = tt
  quot_roots x c cs e (y ∷ ys) d r = (quot_root x c cs e y d.0 r.0, quot_roots x c cs e ys d.1 r.1)

  -- as many different roots as coefficients: zero at every place
  pub roots-nil : (xs p : List F) → length p ≡ length xs → Distinct xs → Roots p xs → (z : F) → eval O p z ≡ 0#
  unfolding eval
  roots-nil [] [] l d r z = refl
  roots-nil [] (c ∷ cs) l d r z = absurd (suc-ne-zero (length cs) l)
  roots-nil (x ∷ xs) [] l d r z = refl
  roots-nil (x ∷ xs) (c ∷ cs) l d r z =
      quot-eval x c cs z
      ∙ ap₂ (λ s t. s ⊕ (z ⊕ x) ⊗ t) r.0
      (roots-nil xs (quot x cs) (length_quot x cs ∙ suc_inj l) d.1 (quot_roots x c cs r.0 xs d.0 r.1) z)
      ∙ nil-add _ ∙ mul-nil O L (z ⊕ x)

  -- ---- the highest coefficient

  -- the highest coefficient
  unfoldable pub lead : F → List F → F
  lead c [] = c
  lead c (d ∷ ds) = lead d ds

  lead_quot : (x d : F) (ds : List F) → lead (eval O (d ∷ ds) x) (quot x ds) ≡ lead d ds
  unfolding lead quot eval
  lead_quot x d [] = ap (λ t. d ⊕ t) (mul-nil O L x) ∙ add-nil O L d
  lead_quot x d (e ∷ es) = lead_quot x e es

  pub lead-nil : (xs : List F) (c : F) (cs : List F) → suc (length cs) ≡ length xs → Distinct xs → Roots (c ∷ cs) xs → lead c cs ≡ 0#
  unfolding lead quot eval
  lead-nil [] c cs l d r = absurd (suc-ne-zero (length cs) l)
  lead-nil (x ∷ xs) c [] l d r = sym (ap (λ t. c ⊕ t) (mul-nil O L x) ∙ add-nil O L c) ∙ r.0
  lead-nil (x ∷ xs) c (e ∷ es) l d r =
      sym (lead_quot x e es)
      ∙ lead-nil xs (eval O (e ∷ es) x) (quot x es) (ap suc (length_quot x es) ∙ suc_inj l) d.1 (quot_roots x c (e ∷ es) r.0 xs d.0 r.1)

  -- ---- two polynomials

  unfoldable pub plus : List F → List F → List F
  plus [] q = q
  plus (a ∷ p) [] = a ∷ p
  plus (a ∷ p) (b ∷ q) = (a ⊕ b) ∷ plus p q

  pub plus-eval : (p q : List F) (z : F) → eval O (plus p q) z ≡ eval O p z ⊕ eval O q z
  unfolding eval plus
  plus-eval [] q z = sym (nil-add (eval O q z))
  plus-eval (a ∷ p) [] z = sym (add-nil O L (eval O (a ∷ p) z))
  plus-eval (a ∷ p) (b ∷ q) z =
      ap (λ t. (a ⊕ b) ⊕ t) (ap (λ t. z ⊗ t) (plus-eval p q z) ∙ mul-add z (eval O p z) (eval O q z))
      ∙ swap4 O L a b (z ⊗ eval O p z) (z ⊗ eval O q z)

  pub length_plus : (p q : List F) (n : ℕ) → length p ≡ n → length q ≡ n → length (plus p q) ≡ n
  unfolding plus
  length_plus [] q n e f = f
  length_plus (a ∷ p) [] n e f = e
  length_plus (a ∷ p) (b ∷ q) zero e f = absurd (suc-ne-zero (length p) e)
  length_plus (a ∷ p) (b ∷ q) (suc n) e f = ap suc (length_plus p q n (suc_inj e) (suc_inj f))

  abbrev pub Agree : List F → List F → List F → Type 0
  Agree p q [] = Unit {0}
  Agree p q (x ∷ xs) = (eval O p x ≡ eval O q x) × Agree p q xs

  agree_roots : (p q xs : List F) → Agree p q xs → Roots (plus p q) xs
  agree_roots p q [] a = tt
  agree_roots p q (x ∷ xs) a = (plus-eval p q x ∙ sum_of-eq O L (eval O p x) (eval O q x) a.0, agree_roots p q xs a.1)

  pub agree_everywhere : (xs p q : List F) → length p ≡ length xs → length q ≡ length xs → Distinct xs → Agree p q xs → (z : F) → eval O p z ≡ eval O
      q z
  agree_everywhere xs p q lp lq d a z =
      eq_of-sum O L (eval O p z) (eval O q z)
      (sym (plus-eval p q z) ∙ roots-nil xs (plus p q) (length_plus p q (length xs) lp lq) d (agree_roots p q xs a) z)

-- The polynomial through given points takes the given values there, it is the only one with so few coefficients, and its values at as many
-- other points give it back: what restoring rests on. Nothing is assumed but the laws of a field.
use mathlib.Core.Path.{◌≡◌, sym, ap, ◌∙◌}
use mathlib.Core.Logic.{◌≢◌}
use mathlib.Core.List.{List, [], ◌∷◌, map}
use Prim.Native.Nat.{ℕ, zero, suc, ◌<◌, suc-le-suc}
use native.Mathlib.Nat.{suc_inj, suc-ne-zero, le_of_suc-le-suc, not-suc-le-zero, zero-lt-suc}
use lib.ListN.{length, get_or}
use Rattle.gf256.specs.Poly.{Ops, eval, vanish, through}
use Rattle.gf256.proofs.Field.{Laws, add-nil, add_cancel, mul-nil, nil-mul, mul-one, eq_of-sum, factor-nil}
use Rattle.gf256.proofs.Apart.{Apart, Distinct}
use Rattle.gf256.proofs.Roots.{Agree, agree_everywhere}
use Rattle.gf256.proofs.Coefficients.{through_c, length_through_c, through_c-eval}

module _ (O : Ops) (L : Laws O) where
  infixl 65 ◌⊕◌
  infixl 70 ◌⊗◌
  open O use {F, nil as 0#, add as ◌⊕◌, mul as ◌⊗◌, inv}
  open L use {add_comm, add_self, mul_comm, mul_assoc, mul-inv, one-ne-nil}

  pub vanish-ne : (x : F) (xs : List F) → Apart x xs → vanish O xs x ≢ 0#
  unfolding vanish
  vanish-ne x [] a = one-ne-nil
  vanish-ne x (y ∷ ys) a = λ e. vanish-ne x ys a.1 (factor-nil O L (x ⊕ y) (vanish O ys x) (λ h. a.0 (eq_of-sum O L x y h)) e)

  -- at its own point
  pub through_here : (x : F) (xs : List F) (y : F) (ys : List F) → Apart x xs → through O (x ∷ xs) (y ∷ ys) x ≡ y
  unfolding through
  through_here x xs y ys a =
      ap (λ t. through O xs ys x ⊕ t)
      (mul_assoc (y ⊕ through O xs ys x) (inv (vanish O xs x)) (vanish O xs x)
      ∙ ap (λ t. (y ⊕ through O xs ys x) ⊗ t) (mul_comm (inv (vanish O xs x)) (vanish O xs x) ∙ mul-inv (vanish O xs x) (vanish-ne x xs a))
      ∙ mul-one O L (y ⊕ through O xs ys x))
      ∙ ap (λ t. through O xs ys x ⊕ t) (add_comm y (through O xs ys x))
      ∙ add_cancel O L (through O xs ys x) y

  -- a new point leaves the values at the others alone
  pub through-there : (x : F) (xs : List F) (y : F) (ys : List F) (z : F) → vanish O xs z ≡ 0# → through O (x ∷ xs) (y ∷ ys) z ≡ through O xs ys z
  unfolding through
  through-there x xs y ys z v =
      ap (λ t. through O xs ys z ⊕ t) (ap (λ t. ((y ⊕ through O xs ys x) ⊗ inv (vanish O xs x)) ⊗ t) v ∙ mul-nil O L _)
      ∙ add-nil O L (through O xs ys z)

  -- ---- at every point

  abbrev pub Each : (F → Type 0) → List F → Type 0
  Each P [] = Unit {0}
  Each P (x ∷ xs) = P x × Each P xs

  pub each_map : (P Q R : F → Type 0) → ((z : F) → P z → Q z → R z) → (xs : List F) → Each P xs → Each Q xs → Each R xs
  each_map P Q R f [] p q = tt
  each_map P Q R f (x ∷ xs) p q = (f x p.0 q.0, each_map P Q R f xs p.1 q.1)

  each_at : (P : F → Type 0) (xs : List F) (e : F) → Each P xs → (i : ℕ) → i < length xs → P (get_or xs i e)
  each_at P [] e h i b = absurd (not-suc-le-zero b)
  each_at P (x ∷ xs) e h zero b = h.0
  each_at P (x ∷ xs) e h (suc i) b = each_at P xs e h.1 i (le_of_suc-le-suc b)

  each_of : (P : F → Type 0) (xs : List F) (e : F) → ((i : ℕ) → i < length xs → P (get_or xs i e)) → Each P xs
  each_of P [] e h = tt
  each_of P (x ∷ xs) e h = (h zero (zero-lt-suc (length xs)), each_of P xs e (λ i b. h (suc i) (suc-le-suc b)))

  each_agree : (p q xs : List F) → Each (λ z. eval O p z ≡ eval O q z) xs → Agree O L p q xs
  each_agree p q [] e = tt
  each_agree p q (x ∷ xs) e = (e.0, each_agree p q xs e.1)

  each_all : (P : F → Type 0) → ((z : F) → P z) → (xs : List F) → Each P xs
  each_all P f [] = tt
  each_all P f (x ∷ xs) = (f x, each_all P f xs)

  vanish-each : (xs : List F) → Each (λ z. vanish O xs z ≡ 0#) xs
  unfolding vanish
  vanish-each [] = tt
  vanish-each (x ∷ xs) = (
    ap (λ t. t ⊗ vanish O xs x) (add_self x) ∙ nil-mul O L (vanish O xs x),
    each_map (λ z. vanish O xs z ≡ 0#) (λ z. vanish O xs z ≡ 0#) (λ z. vanish O (x ∷ xs) z ≡ 0#)
        (λ z e _. ap (λ t. (z ⊕ x) ⊗ t) e ∙ mul-nil O L (z ⊕ x)) xs (vanish-each xs) (vanish-each xs),
  )

  -- the product is zero at each point
  pub vanish_at : (xs : List F) (e : F) (i : ℕ) → i < length xs → vanish O xs (get_or xs i e) ≡ 0#
  vanish_at xs e i b = each_at (λ z. vanish O xs z ≡ 0#) xs e (vanish-each xs) i b

  pub through-each : (f : F → F) (xs : List F) → Distinct xs → Each (λ z. through O xs (map f xs) z ≡ f z) xs
  through-each f [] d = tt
  through-each f (x ∷ xs) d = (
    through_here x xs (f x) (map f xs) d.0,
    each_map (λ z. vanish O xs z ≡ 0#) (λ z. through O xs (map f xs) z ≡ f z) (λ z. through O (x ∷ xs) (f x ∷ map f xs) z ≡ f z)
        (λ z v e. through-there x xs (f x) (map f xs) z v ∙ e) xs (vanish-each xs) (through-each f xs d.1),
  )

  -- ---- the only one

  -- the one polynomial: whatever has as many coefficients as there are points, and takes f's values there
  pub through_unique : (f : F → F) (xs p : List F) → length p ≡ length xs → Distinct xs → Each (λ z. eval O p z ≡ f z) xs → (z : F) → eval O p z ≡
      through O xs (map f xs) z
  through_unique f xs p l d e z =
      agree_everywhere O L xs p (through_c O L xs (map f xs)) l (length_through_c O L xs (map f xs)) d
      (each_agree p (through_c O L xs (map f xs)) xs
      (each_map (λ y. eval O p y ≡ f y) (λ y. through O xs (map f xs) y ≡ f y) (λ y. eval O p y ≡ eval O (through_c O L xs (map f xs)) y)
      (λ y u v. u ∙ sym v ∙ sym (through_c-eval O L xs (map f xs) y)) xs e (through-each f xs d))) z
      ∙ through_c-eval O L xs (map f xs) z

  -- values of one polynomial at as many other points give it back: what restoring rests on
  pub through_again : (ps rs xs : List F) → length xs ≡ length ps → Distinct xs → (z : F) → through O xs (map (through O ps rs) xs) z ≡ through O ps
      rs z
  through_again ps rs xs l d z =
      sym (through_unique (through O ps rs) xs (through_c O L ps rs) (length_through_c O L ps rs ∙ sym l) d
      (each_all (λ y. eval O (through_c O L ps rs) y ≡ through O ps rs y) (through_c-eval O L ps rs) xs) z)
      ∙ through_c-eval O L ps rs z

  -- at the i-th point it has the i-th value
  pub through_at : (xs ys : List F) (e : F) → length ys ≡ length xs → Distinct xs → (i : ℕ) → i < length xs → through O xs ys (get_or xs i e) ≡ get_or ys
      i e
  through_at [] ys e l d i b = absurd (not-suc-le-zero b)
  through_at (x ∷ xs) [] e l d i b = absurd (suc-ne-zero (length xs) (sym l))
  through_at (x ∷ xs) (y ∷ ys) e l d zero b = through_here x xs y ys d.0
  through_at (x ∷ xs) (y ∷ ys) e l d (suc i) b =
      through-there x xs y ys (get_or xs i e) (vanish_at xs e i (le_of_suc-le-suc b))
      ∙ through_at xs ys e (suc_inj l) d.1 i (le_of_suc-le-suc b)

  -- fragments from as many different points as there are runs give each run back
  pub restored : (ps rs xs : List F) (e : F) → length rs ≡ length ps → Distinct ps → length xs ≡ length ps → Distinct xs
      → (i : ℕ) → i < length ps → through O xs (map (through O ps rs) xs) (get_or ps i e) ≡ get_or rs i e
  restored ps rs xs e lr dp lx dx i b = through_again ps rs xs lx dx (get_or ps i e) ∙ through_at ps rs e lr dp i b

  -- the same, of values in a list: what takes the i-th value at the i-th point is the polynomial through them
  pub through_is : (xs ys p : List F) (e : F) → length p ≡ length xs → length ys ≡ length xs → Distinct xs
      → ((i : ℕ) → i < length xs → eval O p (get_or xs i e) ≡ get_or ys i e) → (z : F) → eval O p z ≡ through O xs ys z
  through_is xs ys p e lp ly d h z =
      agree_everywhere O L xs p (through_c O L xs ys) lp (length_through_c O L xs ys) d
      (each_agree p (through_c O L xs ys) xs
      (each_of (λ y. eval O p y ≡ eval O (through_c O L xs ys) y) xs e
      (λ i b. h i b ∙ sym (through_at xs ys e ly d i b) ∙ sym (through_c-eval O L xs ys (get_or xs i e))))) z
      ∙ through_c-eval O L xs ys z

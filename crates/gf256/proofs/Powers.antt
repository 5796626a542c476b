-- The system of the powers of different points: no pivot is zero, since a polynomial would have too many roots, and at the end its rows give
-- the polynomial through the points, as weights times the values. Nothing is assumed but the laws of a field.
use mathlib.Core.Path.{◌≡◌, refl, sym, ap, ap₂, ◌∙◌, subst}
use mathlib.Core.Logic.{◌≢◌}
use mathlib.Core.Bool.{cond}
use mathlib.Core.List.{List, [], ◌∷◌}
use Prim.Native.Nat.{ℕ, zero, suc, ◌≤◌, ◌<◌, suc-le-suc}
use native.Mathlib.Nat.{suc_inj, suc-ne-zero, le_of_suc-le-suc, not-suc-le-zero, zero-lt-suc, ne_of_gt}
use native.Mathlib.Decide.{ℕ_discrete}
use native.Mathlib.Omega.{arith}
use borrow.Author.Tests.{lt-ltb, le-ltb}
use lib.Arith.{lt_of_le-ne}
use lib.Dec.{ltb}
use lib.ListN.{length, get_or}
use Rattle.gf256.specs.Poly.{Ops, eval, through}
use Rattle.gf256.proofs.Field.{Laws, add-nil, mul-nil, mul-one}
use Rattle.gf256.proofs.Apart.{Apart, Distinct}
use Rattle.gf256.proofs.Roots.{Roots, lead, lead-nil}
use Rattle.gf256.proofs.Through.{through_is}
use Rattle.gf256.proofs.Sums.{sum, sum_ext, sum-mul, sum-swap, sum_short, sum-pick, rest-nil}
use Rattle.gf256.proofs.Exchange.{row, put, put_here, put-there, Half}

module _ (O : Ops) (L : Laws O) where
  infixl 65 ◌⊕◌
  infixl 70 ◌⊗◌
  open O use {F, nil as 0#, one as 1#, add as ◌⊕◌, mul as ◌⊗◌}
  open L use {mul_comm, mul_assoc, one-mul, one-ne-nil}

  unfoldable pub pow : F → ℕ → F
  pow x zero = 1#
  pow x (suc c) = x ⊗ pow x c

  unfoldable pub tab : ℕ → (ℕ → F) → List F
  tab zero u = []
  tab (suc n) u = u 0 ∷ tab n (λ i. u (suc i))

  pub length-tab : (n : ℕ) (u : ℕ → F) → length (tab n u) ≡ n
  unfolding tab
  length-tab zero u = refl
  length-tab (suc n) u = ap suc (length-tab n (λ i. u (suc i)))

  pub get_or-tab : (n : ℕ) (u : ℕ → F) (i : ℕ) (e : F) → i < n → get_or (tab n u) i e ≡ u i
  unfolding tab
  get_or-tab zero u i e h = absurd (not-suc-le-zero h)
  get_or-tab (suc n) u zero e h = refl
  get_or-tab (suc n) u (suc i) e h = get_or-tab n (λ j. u (suc j)) i e (le_of_suc-le-suc h)

  pub eval-tab : (n : ℕ) (u : ℕ → F) (x : F) → eval O (tab n u) x ≡ sum O L n (λ c. pow x c ⊗ u c)
  unfolding tab sum eval pow
  eval-tab zero u x = refl
  eval-tab (suc n) u x =
      ap₂ (λ s t. s ⊕ t) (sym (one-mul (u 0)))
      (ap (λ t. x ⊗ t) (eval-tab n (λ i. u (suc i)) x) ∙ sym (sum-mul O L n x (λ c. pow x c ⊗ u (suc c)))
      ∙ sum_ext O L n (λ c. x ⊗ (pow x c ⊗ u (suc c))) (λ c. (x ⊗ pow x c) ⊗ u (suc c)) (λ c b. sym (mul_assoc x (pow x c) (u (suc c)))))

  lead-tab : (n : ℕ) (u : ℕ → F) → lead O L (u 0) (tab n (λ i. u (suc i))) ≡ u n
  unfolding lead tab
  lead-tab zero u = refl
  lead-tab (suc n) u = lead-tab n (λ i. u (suc i))

  -- ---- the first n points

  -- the first n points are all different
  abbrev pub Different : ℕ → (ℕ → F) → Type 0
  Different n x = (i j : ℕ) → i < n → j < n → i ≢ j → x i ≢ x j

  apart-tab : (y : F) (n : ℕ) (x : ℕ → F) → ((i : ℕ) → i < n → y ≢ x i) → Apart y (tab n x)
  unfolding tab
  apart-tab y zero x h = tt
  apart-tab y (suc n) x h = (h 0 (zero-lt-suc n), apart-tab y n (λ i. x (suc i)) (λ i b. h (suc i) (suc-le-suc b)))

  pub distinct-tab : (n : ℕ) (x : ℕ → F) → Different n x → Distinct (tab n x)
  unfolding tab
  distinct-tab zero x h = tt
  distinct-tab (suc n) x h = (
    apart-tab (x 0) n (λ i. x (suc i)) (λ i b. h 0 (suc i) (zero-lt-suc n) (suc-le-suc b) (λ e. suc-ne-zero i (sym e))),
    distinct-tab n (λ i. x (suc i)) (λ i j bi bj ne. h (suc i) (suc j) (suc-le-suc bi) (suc-le-suc bj) (λ e. ne (suc_inj e))),
  )

  roots-tab : (p : List F) (n : ℕ) (x : ℕ → F) → ((i : ℕ) → i < n → eval O p (x i) ≡ 0#) → Roots O L p (tab n x)
  unfolding tab
  roots-tab p zero x h = tt
  roots-tab p (suc n) x h = (h 0 (zero-lt-suc n), roots-tab p n (λ i. x (suc i)) (λ i b. h (suc i) (suc-le-suc b)))

  -- ---- no pivot is zero

  -- c below p: a; else b
  before : ℕ → (ℕ → F) → (ℕ → F) → ℕ → F
  before p a b c = cond (ltb c p) (a c) (b c)

  before-lt : (p : ℕ) (a b : ℕ → F) (c : ℕ) → c < p → before p a b c ≡ a c
  unfolding before
  before-lt p a b c h = ap (λ t. cond t (a c) (b c)) (lt-ltb c p h)

  before_ge : (p : ℕ) (a b : ℕ → F) (c : ℕ) → p ≤ c → before p a b c ≡ b c
  unfolding before
  before_ge p a b c h = ap (λ t. cond t (a c) (b c)) (le-ltb c p h)

  module _ (k p : ℕ) (x : ℕ → F) (m : ℕ → ℕ → F) (diff : Different k x) (small : p < k) (half : Half O L k (λ r c. pow (x r) c) p m) where
    unit_v : ℕ → F
    unit_v = put O L p 1# (λ c. 0#)

    known : ℕ → F
    known = before p (row O L k m unit_v) unit_v

    given : ℕ → F
    given = before p unit_v (row O L k m unit_v)

    system : (r : ℕ) → r < k → given r ≡ row O L k (λ r c. pow (x r) c) known r
    unfolding given known
    system = half unit_v known given (λ c b. before-lt p (row O L k m unit_v) unit_v c b) (λ c h b. before_ge p (row O L k m unit_v) unit_v c h)
        (λ r b. before-lt p unit_v (row O L k m unit_v) r b) (λ r h b. before_ge p unit_v (row O L k m unit_v) r h)

    row_unit : row O L k m unit_v p ≡ m p p
    unfolding unit_v
    row_unit =
        sum-pick O L k p (λ c. m p c ⊗ unit_v c) small
        ∙ ap₂ (λ s t. s ⊕ t) (ap (λ s. m p p ⊗ s) (put_here O L p 1# (λ c. 0#)) ∙ mul-one O L (m p p))
        (rest-nil O L k p (λ c. m p c ⊗ unit_v c) (λ c b ne. ap (λ s. m p c ⊗ s) (put-there O L p 1# (λ c. 0#) c ne) ∙ mul-nil O L (m p c)))
        ∙ add-nil O L (m p p)

    known_late : (c : ℕ) → suc p ≤ c → known c ≡ 0#
    unfolding known unit_v
    known_late c h = before_ge p (row O L k m unit_v) unit_v c (omega arith) ∙ put-there O L p 1# (λ c. 0#) c (ne_of_gt h)

    known_p : known p ≡ 1#
    unfolding known unit_v
    known_p = before_ge p (row O L k m unit_v) unit_v p (omega arith) ∙ put_here O L p 1# (λ c. 0#)

    given-nil : m p p ≡ 0# → (r : ℕ) → r < suc p → Dec (r ≡ p) → given r ≡ 0#
    unfolding given unit_v
    given-nil e r b (yes q) = subst (λ (s : ℕ). given s ≡ 0#) (sym q) (before_ge p unit_v (row O L k m unit_v) p (omega arith) ∙ row_unit ∙ e)
    given-nil e r b (no ne) = before-lt p unit_v (row O L k m unit_v) r (lt_of_le-ne (le_of_suc-le-suc b) ne) ∙ put-there O L p 1# (λ c. 0#) r ne

    pub pivot : m p p ≢ 0#
    unfolding tab
    pivot e =
        one-ne-nil
        (sym known_p ∙ sym (lead-tab p known)
        ∙ lead-nil O L (tab (suc p) x) (known 0) (tab p (λ i. known (suc i))) (ap suc (length-tab p (λ i. known (suc i))) ∙ sym
        (length-tab (suc p) x))
        (distinct-tab (suc p) x (λ i j bi bj ne. diff i j (omega arith) (omega arith) ne))
        (roots-tab (tab (suc p) known) (suc p) x
        (λ i b. eval-tab (suc p) known (x i)
        ∙ sym (sum_short O L (suc p) k (λ c. pow (x i) c ⊗ known c) small (λ c hc bc. ap (λ s. pow (x i) c ⊗ s) (known_late c hc) ∙ mul-nil O L
        (pow (x i) c)))
        ∙ sym (system i (omega arith)) ∙ given-nil e i b (ℕ_discrete i p))))

  -- ---- the solved system

  -- all turned: the rows of m, applied to the values, are the coefficients of the polynomial through the points
  pub all_turned : (k : ℕ) (x : ℕ → F) (m : ℕ → ℕ → F) → Different k x → Half O L k (λ r c. pow (x r) c) k m
      → (v : ℕ → F) (z : F) → sum O L k (λ c. pow z c ⊗ row O L k m v c) ≡ through O (tab k x) (tab k v) z
  all_turned k x m diff half v z =
      sym (eval-tab k (row O L k m v) z)
      ∙ through_is O L (tab k x) (tab k v) (tab k (row O L k m v)) 0# (length-tab k (row O L k m v) ∙ sym (length-tab k x))
      (length-tab k v ∙ sym (length-tab k x))
      (distinct-tab k x diff)
      (λ i b.
      let b' : i < k = subst (λ (n : ℕ). i < n) (length-tab k x) b in
      ap (eval O (tab k (row O L k m v))) (get_or-tab k x i 0# b') ∙ eval-tab k (row O L k m v) (x i)
      ∙ sym (half v (row O L k m v) v (λ c _. refl) (λ c h b. absurd (omega arith)) (λ r _. refl) (λ r h b. absurd (omega arith)) i b')
      ∙ sym (get_or-tab k v i 0# b')) z

  pub weights : (k : ℕ) (m : ℕ → ℕ → F) (v : ℕ → F) (z : F) → sum O L k (λ c. pow z c ⊗ row O L k m v c) ≡ sum O L k
      (λ j. sum O L k (λ c. pow z c ⊗ m c j) ⊗ v j)
  weights k m v z =
      sum_ext O L k (λ c. pow z c ⊗ row O L k m v c) (λ c. sum O L k (λ j. (pow z c ⊗ m c j) ⊗ v j))
      (λ c b. sym (sum-mul O L k (pow z c) (λ j. m c j ⊗ v j)) ∙ sum_ext O L k (λ j. pow z c ⊗ (m c j ⊗ v j)) (λ j. (pow z c ⊗ m c j) ⊗ v j)
      (λ j bj. sym (mul_assoc (pow z c) (m c j) (v j))))
      ∙ sum-swap O L k k (λ c j. (pow z c ⊗ m c j) ⊗ v j)
      ∙ sum_ext O L k (λ j. sum O L k (λ c. (pow z c ⊗ m c j) ⊗ v j)) (λ j. sum O L k (λ c. pow z c ⊗ m c j) ⊗ v j)
      (λ j b. sum_ext O L k (λ c. (pow z c ⊗ m c j) ⊗ v j) (λ c. v j ⊗ (pow z c ⊗ m c j)) (λ c bc. mul_comm (pow z c ⊗ m c j) (v j))
      ∙ sum-mul O L k (v j) (λ c. pow z c ⊗ m c j) ∙ mul_comm (v j) (sum O L k (λ c. pow z c ⊗ m c j)))

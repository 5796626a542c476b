-- Jordan exchange: in a system y = m v of k rows one unknown and one value change places, and what solves the new system solves the old.
-- Turned at one pivot after the other, a system is solved. Nothing is assumed but the laws of a field.
use mathlib.Core.Path.{◌≡◌, refl, sym, ap, ap₂, ◌∙◌, subst}
use mathlib.Core.Logic.{◌≢◌}
use mathlib.Core.Bool.{cond}
use Prim.Native.Nat.{ℕ, suc, ◌≤◌, ◌<◌, zero-le}
use native.Mathlib.Decide.{ℕ_discrete}
use native.Mathlib.Omega.{arith}
use native.Mathlib.Nat.{ne_of_lt}
use borrow.Author.Tests.{eq-eqb, ne_eqb}
use lib.Arith.{lt_of_le-ne}
use lib.Dec.{eqb}
use Rattle.gf256.specs.Poly.{Ops}
use Rattle.gf256.proofs.Field.{Laws, add-nil, add_left_comm, add-mul}
use Rattle.gf256.proofs.Sums.{sum, sum_ext, rest, sum-pick, rest_ext, rest-add, rest-mul}

module _ (O : Ops) (L : Laws O) where
  infixl 65 ◌⊕◌
  infixl 70 ◌⊗◌
  open O use {F, one as 1#, add as ◌⊕◌, mul as ◌⊗◌}
  open L use {add_comm, add_assoc, add_self, mul_assoc, one-mul, mul-add}

  -- row r of m, applied to v
  abbrev pub row : ℕ → (ℕ → ℕ → F) → (ℕ → F) → ℕ → F
  row k m v r = sum O L k (λ c. m r c ⊗ v c)

  -- m' is m, turned at p: d is the inverse of the entry there
  pub record Turned (k p : ℕ) (d : F) (m m' : ℕ → ℕ → F) : Type 0 where
    pub pp : m' p p ≡ d
    pub pc : (c : ℕ) → c < k → c ≢ p → m' p c ≡ d ⊗ m p c
    pub rp : (r : ℕ) → r < k → r ≢ p → m' r p ≡ m r p ⊗ d
    pub rc : (r c : ℕ) → r < k → c < k → r ≢ p → c ≢ p → m' r c ≡ m r c ⊕ (m r p ⊗ d) ⊗ m p c

  -- v with w at p
  abbrev pub put : ℕ → F → (ℕ → F) → ℕ → F
  put p w v c = cond (eqb c p) w (v c)

  pub put_here : (p : ℕ) (w : F) (v : ℕ → F) → put p w v p ≡ w
  put_here p w v = ap (λ b. cond b w (v p)) (eq-eqb p p refl)

  pub put-there : (p : ℕ) (w : F) (v : ℕ → F) (c : ℕ) → c ≢ p → put p w v c ≡ v c
  put-there p w v c ne = ap (λ b. cond b w (v c)) (ne_eqb c p ne)

  module _ (k p : ℕ) (d : F) (m m' : ℕ → ℕ → F) (t : Turned k p d m m') (small : p < k) (unit : m p p ⊗ d ≡ 1#) (v' : ℕ → F) where
    others : ℕ → F
    others r = rest O L k p (λ c. m r c ⊗ v' c)

    -- the new row p gives the unknown that left
    solved : row k m' v' p ≡ d ⊗ (v' p ⊕ others p)
    unfolding others
    solved =
        sum-pick O L k p (λ c. m' p c ⊗ v' c) small
        ∙ ap₂ (λ s t. s ⊕ t) (ap (λ s. s ⊗ v' p) t.pp)
        (rest_ext O L k p (λ c. m' p c ⊗ v' c) (λ c. d ⊗ (m p c ⊗ v' c)) (λ c b ne. ap (λ s. s ⊗ v' c) (t.pc c b ne) ∙ mul_assoc d (m p c) (v' c))
        ∙ rest-mul O L k p d (λ c. m p c ⊗ v' c))
        ∙ sym (mul-add d (v' p) (rest O L k p (λ c. m p c ⊗ v' c)))

    -- the old row r, with that unknown back in its place
    back : (w : F) (r : ℕ) → row k m (put p w v') r ≡ m r p ⊗ w ⊕ others r
    unfolding others
    back w r =
        sum-pick O L k p (λ c. m r c ⊗ put p w v' c) small
        ∙ ap₂ (λ s t. s ⊕ t) (ap (λ s. m r p ⊗ s) (put_here p w v'))
        (rest_ext O L k p (λ c. m r c ⊗ put p w v' c) (λ c. m r c ⊗ v' c) (λ c b ne. ap (λ s. m r c ⊗ s) (put-there p w v' c ne)))

    pub turned_p : row k m (put p (row k m' v' p) v') p ≡ v' p
    turned_p =
        back (row k m' v' p) p
        ∙ ap (λ s. m p p ⊗ s ⊕ others p) solved
        ∙ ap (λ s. s ⊕ others p) (sym (mul_assoc (m p p) d (v' p ⊕ others p)) ∙ ap (λ s. s ⊗ (v' p ⊕ others p)) unit ∙ one-mul (v' p ⊕ others p))
        ∙ add_assoc (v' p) (others p) (others p) ∙ ap (λ s. v' p ⊕ s) (add_self (others p)) ∙ add-nil O L (v' p)

    collect : (a d v s q : F) → (a ⊗ d) ⊗ v ⊕ (s ⊕ (a ⊗ d) ⊗ q) ≡ a ⊗ (d ⊗ (v ⊕ q)) ⊕ s
    collect a d v s q = simp (mul-add, mul_assoc, add_assoc, add_comm, add_left_comm O L)

    spread : (a b c v : F) → (a ⊕ b ⊗ c) ⊗ v ≡ a ⊗ v ⊕ b ⊗ (c ⊗ v)
    spread a b c v = add-mul O L a (b ⊗ c) v ∙ ap (λ s. a ⊗ v ⊕ s) (mul_assoc b c v)

    pub turned_r : (r : ℕ) → r < k → r ≢ p → row k m (put p (row k m' v' p) v') r ≡ row k m' v' r
    unfolding others
    turned_r r b ne =
        back (row k m' v' p) r
        ∙ ap (λ s. m r p ⊗ s ⊕ others r) solved
        ∙ sym (collect (m r p) d (v' p) (others r) (others p))
        ∙ sym (sum-pick O L k p (λ c. m' r c ⊗ v' c) small
        ∙ ap₂ (λ s t. s ⊕ t) (ap (λ s. s ⊗ v' p) (t.rp r b ne))
        (rest_ext O L k p (λ c. m' r c ⊗ v' c) (λ c. m r c ⊗ v' c ⊕ (m r p ⊗ d) ⊗ (m p c ⊗ v' c))
        (λ c bc nc. ap (λ s. s ⊗ v' c) (t.rc r c b bc ne nc) ∙ spread (m r c) (m r p ⊗ d) (m p c) (v' c))
        ∙ rest-add O L k p (λ c. m r c ⊗ v' c) (λ c. (m r p ⊗ d) ⊗ (m p c ⊗ v' c))
        ∙ ap (λ s. rest O L k p (λ c. m r c ⊗ v' c) ⊕ s) (rest-mul O L k p (m r p ⊗ d) (λ c. m p c ⊗ v' c))))

  -- the first p unknowns of y = a u have changed places with values: whatever v is, u and y that agree with it solve the system
  abbrev pub Half : ℕ → (ℕ → ℕ → F) → ℕ → (ℕ → ℕ → F) → Type 0
  Half k a p m =
      (v u y : ℕ → F)
      → ((c : ℕ) → c < p → u c ≡ row k m v c) → ((c : ℕ) → p ≤ c → c < k → u c ≡ v c)
      → ((r : ℕ) → r < p → y r ≡ v r) → ((r : ℕ) → p ≤ r → r < k → y r ≡ row k m v r)
      → (r : ℕ) → r < k → y r ≡ row k a u r

  pub half_none : (k : ℕ) (a : ℕ → ℕ → F) → Half k a 0 a
  half_none k a v u y u0 u1 y0 y1 r b =
      y1 r zero-le b ∙ sum_ext O L k (λ c. a r c ⊗ v c) (λ c. a r c ⊗ u c) (λ c bc. ap (λ s. a r c ⊗ s) (sym (u1 c zero-le bc)))

  pub half_more : (k p : ℕ) (a m m' : ℕ → ℕ → F) (d : F) → Turned k p d m m' → p < k → m p p ⊗ d ≡ 1# → Half k a p m → Half k a (suc p) m'
  half_more k p a m m' d t small unit half v' u y u0 u1 y0 y1 =
      half v u y (λ c b. u0 c (omega arith) ∙ sym (turned_r k p d m m' t small unit v' c (omega arith) (ne_of_lt b)))
      (λ c h b. late c h b (ℕ_discrete c p))
      (λ r b. y0 r (omega arith) ∙ sym (put-there p w v' r (ne_of_lt b)))
      (λ r h b. late_y r h b (ℕ_discrete r p))
    where
      w : F
      w = row k m' v' p

      v : ℕ → F
      v = put p w v'

      late : (c : ℕ) → p ≤ c → c < k → Dec (c ≡ p) → u c ≡ v c
      late c h b (yes e) = subst (λ (x : ℕ). u x ≡ v x) (sym e) (u0 p (omega arith) ∙ sym (put_here p w v'))
      late c h b (no ne) = u1 c (lt_of_le-ne h (λ e. ne (sym e))) b ∙ sym (put-there p w v' c ne)

      late_y : (r : ℕ) → p ≤ r → r < k → Dec (r ≡ p) → y r ≡ row k m v r
      late_y r h b (yes e) = subst (λ (x : ℕ). y x ≡ row k m v x) (sym e) (y0 p (omega arith) ∙ sym (turned_p k p d m m' t small unit v'))
      late_y r h b (no ne) = y1 r (lt_of_le-ne h (λ e. ne (sym e))) b ∙ sym (turned_r k p d m m' t small unit v' r b ne)

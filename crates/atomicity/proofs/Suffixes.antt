-- Moments of a run as suffixes of its list: of two moments one is earlier, and what lasts goes from an earlier to a later one.
-- Assumes nothing.
use mathlib.Core.Path.{◌≡◌, refl, sym, subst}
use mathlib.Core.List.{List, [], ◌∷◌}
use mathlib.Core.Logic.{◌⊎◌, inl, inr}
use Prim.Native.Nat.{ℕ}
use native.Mathlib.Omega.{arith}
use Rattle.atomicity.specs.Lists.{Ever}

module _ {A : Type 0} where
  unfoldable pub Suf : List A → List A → Type 0
  Suf ys [] = ys ≡ []
  Suf ys (x ∷ xs) = (ys ≡ x ∷ xs) ⊎ Suf ys xs

  pub suf-refl : (xs : List A) → Suf xs xs
  unfolding Suf
  suf-refl [] = refl
  suf-refl (x ∷ xs) = inl refl

  pub suf-total : (a b xs : List A) → Suf a xs → Suf b xs → Suf a b ⊎ Suf b a
  unfolding Suf
  suf-total a b [] p q = inl (subst (λ (z : List A). Suf z b) (sym p) (subst (Suf []) (sym q) refl))
  suf-total a b (x ∷ xs) (inl p) q = inr (subst (Suf b) (sym p) q)
  suf-total a b (x ∷ xs) (inr p) (inl q) = inl (subst (Suf a) (sym q) (inr p))
  suf-total a b (x ∷ xs) (inr p) (inr q) = suf-total a b xs p q

  pub suf-up : (P : List A → Type 0) → ((x : A) (xs : List A) → P xs → P (x ∷ xs)) → (ys xs : List A) → Suf ys xs → P ys → P xs
  unfolding Suf
  suf-up P f ys [] s h = subst P s h
  suf-up P f ys (x ∷ xs) (inl e) h = subst P e h
  suf-up P f ys (x ∷ xs) (inr s) h = f x xs (suf-up P f ys xs s h)

  pub suf-trans : (a b xs : List A) → Suf a b → Suf b xs → Suf a xs
  unfolding Suf
  suf-trans a b xs p q = suf-up (Suf a) (λ x zs k. inr k) b xs q p

  pub suf-tail : (y : A) (ys xs : List A) → Suf (y ∷ ys) xs → Suf ys xs
  unfolding Suf
  suf-tail y ys [] e = absurd (let z : ◌≡◌ {A = ℕ} 0 1 = cc in omega arith)
  suf-tail y ys (x ∷ xs) (inl e) = inr (let z : ys ≡ xs = cc in subst (Suf ys) z (suf-refl ys))
  suf-tail y ys (x ∷ xs) (inr s) = inr (suf-tail y ys xs s)

  pub ever_suf : (P : A → List A → Type 0) (xs : List A) → Ever P xs → (y : A) × (ys : List A) × P y ys × Suf (y ∷ ys) xs
  unfolding Ever Suf
  ever_suf P [] e = absurd e
  ever_suf P (x ∷ xs) (inl p) = (x, xs, p, inl refl)
  ever_suf P (x ∷ xs) (inr e) = let r = ever_suf P xs e in (r.0, r.1, r.2, inr r.3)

  pub suf_ever : (P : A → List A → Type 0) (y : A) (ys xs : List A) → Suf (y ∷ ys) xs → P y ys → Ever P xs
  unfolding Ever
  suf_ever P y ys xs s h = suf-up (Ever P) (λ x zs k. inr k) (y ∷ ys) xs s (inl h)

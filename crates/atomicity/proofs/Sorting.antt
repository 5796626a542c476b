-- A strict insertion sort: a permutation, and in order.
-- Assumes nothing.
use mathlib.Core.Path.{◌≡◌, refl, sym, ◌∙◌}
use mathlib.Core.Bool.{Bool, true, false, cond, true≢false}
use mathlib.Core.List.{List, [], ◌∷◌}
use mathlib.Core.Logic.{◌⊎◌, inl, inr}
use Rattle.atomicity.specs.Lists.{All, AllPairs, Perm, nil, skip, swap, trans}
use Rattle.atomicity.proofs.Util.{all_map}

module _ {A : Type 0} where
  pub perm-refl : (xs : List A) → Perm xs xs
  perm-refl [] = nil
  perm-refl (x ∷ xs) = skip x (perm-refl xs)

module _ {A : Type 0} (less : A → A → Bool) where
  unfoldable pub insert : A → List A → List A
  insert x [] = x ∷ []
  insert x (y ∷ ys) = cond (less x y) (x ∷ y ∷ ys) (y ∷ insert x ys)

  unfoldable pub sort : List A → List A
  sort [] = []
  sort (x ∷ xs) = insert x (sort xs)

  pub perm_insert : (x : A) (ys : List A) → Perm (insert x ys) (x ∷ ys)
  unfolding insert
  perm_insert x [] = perm-refl (x ∷ [])
  perm_insert x (y ∷ ys) = go (less x y) (perm_insert x ys)
    where
      go : (b : Bool) → Perm (insert x ys) (x ∷ ys) → Perm (cond b (x ∷ y ∷ ys) (y ∷ insert x ys)) (x ∷ y ∷ ys)
      go true p = perm-refl (x ∷ y ∷ ys)
      go false p = trans (skip y p) (swap y x ys)

  pub perm_sort : (xs : List A) → Perm (sort xs) xs
  unfolding sort
  perm_sort [] = nil
  perm_sort (x ∷ xs) = trans (perm_insert x (sort xs)) (skip x (perm_sort xs))

  pub all_insert : (P : A → Type 0) (x : A) (ys : List A) → P x → All P ys → All P (insert x ys)
  unfolding insert All
  all_insert P x [] p h = (p, tt)
  all_insert P x (y ∷ ys) p h = go (less x y) (all_insert P x ys p h.1)
    where
      go : (b : Bool) → All P (insert x ys) → All P (cond b (x ∷ y ∷ ys) (y ∷ insert x ys))
      go true r = (p, h)
      go false r = (h.0, r)

  pub all_sort : (P : A → Type 0) (xs : List A) → All P xs → All P (sort xs)
  unfolding sort All
  all_sort P [] h = tt
  all_sort P (x ∷ xs) h = all_insert P x (sort xs) h.0 (all_sort P xs h.1)

  module _ (chain : (a b c : A) → less a b ≡ true → less b c ≡ true → less a c ≡ true) where
    insert_sorted : (x : A) (ys : List A) → AllPairs (λ a b. less a b ≡ true) ys →
        All (λ y. (less x y ≡ true) ⊎ (less y x ≡ true)) ys → AllPairs (λ a b. less a b ≡ true) (insert x ys)
    unfolding insert All AllPairs
    insert_sorted x [] h k = (tt, tt)
    insert_sorted x (y ∷ ys) h k = go (less x y) refl (insert_sorted x ys h.1 k.1) k.0
      where
        go : (b : Bool) → less x y ≡ b → AllPairs (λ a b. less a b ≡ true) (insert x ys) → (less x y ≡ true) ⊎ (less y x ≡ true) →
            AllPairs (λ a b. less a b ≡ true) (cond b (x ∷ y ∷ ys) (y ∷ insert x ys))
        go true e r d = ((e, all_map (λ z. less y z ≡ true) (λ z. less x z ≡ true) (λ z l. chain x y z e l) ys h.0), h)
        go false e r (inl l) = absurd (true≢false (sym l ∙ e))
        go false e r (inr l) = (all_insert (λ z. less y z ≡ true) x ys l h.0, r)

    pub sort_sorted : (xs : List A) → AllPairs (λ a b. (less a b ≡ true) ⊎ (less b a ≡ true)) xs → AllPairs (λ a b. less a b ≡ true) (sort xs)
    unfolding sort AllPairs
    sort_sorted [] h = tt
    sort_sorted (x ∷ xs) h = insert_sorted x (sort xs) (sort_sorted xs h.1) (all_sort (λ y. (less x y ≡ true) ⊎ (less y x ≡ true)) xs h.0)

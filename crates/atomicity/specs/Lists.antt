-- Lists of steps, newest first: a moment is a tail of the list. And lists of calls.
use Rattle.std.specs.Prelude.{◌≡◌, List, [], ◌∷◌, ◌⊎◌}

module _ {A : Type 0} where
  -- some step had P, of it and the steps before it
  unfoldable pub Ever : (A → List A → Type 0) → List A → Type 0
  Ever P [] = ⊥
  Ever P (x ∷ xs) = P x xs ⊎ Ever P xs

  -- every step had P
  unfoldable pub Always : (A → List A → Type 0) → List A → Type 0
  Always P [] = Unit {0}
  Always P (x ∷ xs) = P x xs × Always P xs

  -- P held at some moment: of the steps so far, or of those before one of them
  unfoldable pub Once : (List A → Type 0) → List A → Type 0
  Once P [] = P []
  Once P (x ∷ xs) = P (x ∷ xs) ⊎ Once P xs

  unfoldable pub All : (A → Type 0) → List A → Type 0
  All P [] = Unit {0}
  All P (x ∷ xs) = P x × All P xs

  unfoldable pub In : A → List A → Type 0
  In a [] = ⊥
  In a (x ∷ xs) = (a ≡ x) ⊎ In a xs

  -- R holds of each one and each later one
  unfoldable pub AllPairs : (A → A → Type 0) → List A → Type 0
  AllPairs R [] = Unit {0}
  AllPairs R (x ∷ xs) = All (R x) xs × AllPairs R xs

  -- the same elements, each as often
  pub data Perm : List A → List A → Type 0 where
    nil : Perm [] []
    skip : (x : A) {xs ys : List A} → Perm xs ys → Perm (x ∷ xs) (x ∷ ys)
    swap : (x y : A) (xs : List A) → Perm (x ∷ y ∷ xs) (y ∷ x ∷ xs)
    trans : {xs ys zs : List A} → Perm xs ys → Perm ys zs → Perm xs zs

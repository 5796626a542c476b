-- Lists whose elements are all different, and what that says of two places. Nothing is assumed.
use mathlib.Core.Logic.{◌≢◌}
use mathlib.Core.List.{List, [], ◌∷◌}
use Prim.Native.Nat.{ℕ, zero, suc, ◌<◌}
use native.Mathlib.Nat.{le_of_suc-le-suc, not-suc-le-zero}
use lib.ListN.{length, get_or}

-- x is none of the elements
abbrev pub Apart : {A : Type 0} → A → List A → Type 0
Apart x [] = Unit {0}
Apart x (y ∷ ys) = (x ≢ y) × Apart x ys

-- the elements are all different
abbrev pub Distinct : {A : Type 0} → List A → Type 0
Distinct [] = Unit {0}
Distinct (x ∷ xs) = Apart x xs × Distinct xs

pub apart_at : {A : Type 0} (d x : A) (xs : List A) → Apart x xs → (j : ℕ) → j < length xs → x ≢ get_or xs j d
apart_at d x [] a j h = absurd (not-suc-le-zero h)
apart_at d x (y ∷ ys) a zero h = a.0
apart_at d x (y ∷ ys) a (suc j) h = apart_at d x ys a.1 j (le_of_suc-le-suc h)

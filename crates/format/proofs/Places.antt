-- Places of a list: bytes put at a place are read there, other places keep theirs, and slots of one width are apart.
-- The list is what stands before the place, the bytes put, and what stands after them. Nothing is assumed.
use mathlib.Core.Path.{◌≡◌, refl, sym, ap, ◌∙◌}
use mathlib.Core.Bool.{Bool, true, false}
use mathlib.Core.List.{List, ◌∷◌, ◌++◌, append_assoc, append-nil}
use mathlib.Core.Logic.{◌≢◌, ◌⊎◌, inl, inr}
use Prim.Native.Nat.{ℕ, zero, suc, ◌+◌, ◌-◌, ◌*◌, ◌≤◌, ◌<◌}
use native.Mathlib.Omega.{arith}
use native.Mathlib.Nat.{le_of_suc-le-suc, not-suc-le-zero, mul-suc, mul-le-mul_left}
use lib.Dec.{ltb}
use lib.ListN.{length, take, drop, replicate, take-append-drop, length-append, length-drop}
use lib.Seq.{drop_at, length-take-le, drop-drop, drop-append-add, take-append-add, take-append-le, drop-append-le}
use borrow.Author.Tests.{ltb-true, ltb-false}
use Rattle.format.specs.Reading.{bytes_at, put}

take_past : (b x : List ℕ) (n : ℕ) → length b ≤ n → take n (b ++ x) ≡ b ++ take (n - length b) x
take_past b x n h =
    let e : n ≡ length b + (n - length b) = omega arith in
    ap (λ (k : ℕ). take k (b ++ x)) e ∙ take-append-add b x (n - length b)

nothing_more : (d b : List ℕ) (p : ℕ) → b ++ bytes_at d p (length b - length b) ≡ b
unfolding bytes_at
nothing_more d b p = let e : length b - length b ≡ 0 = omega arith in rw e (append-nil b)

module _ (d : List ℕ) (at : ℕ) (b : List ℕ) (fits : at + length b ≤ length d) where
  -- from the place on: the bytes put, then what was there
  pub part_put : (n : ℕ) → length b ≤ n → bytes_at (put d at b) at n ≡ b ++ bytes_at d (at + length b) (n - length b)
  unfolding bytes_at put
  part_put n h =
      ap (take n) (drop_at (take at d) (b ++ drop (at + length b) d) at (length-take-le at d (omega arith)))
      ∙ take_past b (drop (at + length b) d) n h

  -- the bytes put and no more
  pub part_same : bytes_at (put d at b) at (length b) ≡ b
  part_same = part_put (length b) (omega arith) ∙ nothing_more d b (at + length b)

  pub part-below : (p n : ℕ) → p + n ≤ at → bytes_at (put d at b) p n ≡ bytes_at d p n
  unfolding bytes_at put
  part-below p n h =
      let L : List ℕ = take at d in
      let l : length L ≡ at = length-take-le at d (omega arith) in
      let cut : (y : List ℕ) → take n (drop p (L ++ y)) ≡ take n (drop p L) =
      λ y. ap (take n) (drop-append-le p L y (omega arith)) ∙ take-append-le n (drop p L) y (omega (arith, length-drop p L)) in
      cut (b ++ drop (at + length b) d) ∙ sym (cut (drop at d)) ∙ ap (λ (z : List ℕ). take n (drop p z)) (take-append-drop at d)

  pub part-above : (p n : ℕ) → at + length b ≤ p → bytes_at (put d at b) p n ≡ bytes_at d p n
  unfolding bytes_at put
  part-above p n h =
      let X : List ℕ = take at d ++ b in
      let Y : List ℕ = drop (at + length b) d in
      let l : length X ≡ at + length b = omega (arith, length-append (take at d) b, length-take-le at d (omega arith)) in
      let e : p ≡ length X + (p - length X) = omega arith in
      let m : at + length b + (p - length X) ≡ p = omega arith in
      let f : drop p (X ++ Y) ≡ drop p d =
      ap (λ (k : ℕ). drop k (X ++ Y)) e ∙ drop-append-add X Y (p - length X) ∙ drop-drop (p - length X) (at + length b) d ∙ ap (λ (k : ℕ). drop k d)
      m in
      ap (λ (z : List ℕ). take n (drop p z)) (sym (append_assoc (take at d) b Y)) ∙ ap (take n) f

  -- another place is not touched
  pub part-other : (p n : ℕ) → (p + n ≤ at) ⊎ (at + length b ≤ p) → bytes_at (put d at b) p n ≡ bytes_at d p n
  part-other p n (inl k) = part-below p n k
  part-other p n (inr k) = part-above p n k

  pub part_inside : (j n : ℕ) → j + n ≤ length b → bytes_at (put d at b) (at + j) n ≡ bytes_at b j n
  unfolding bytes_at put
  part_inside j n h =
      let Y : List ℕ = drop (at + length b) d in
      ap (take n)
      (sym (drop-drop j at (take at d ++ (b ++ Y))) ∙ ap (drop j) (drop_at (take at d) (b ++ Y) at (length-take-le at d (omega arith)))
      ∙ drop-append-le j b Y (omega arith))
      ∙ take-append-le n (drop j b) Y (omega (arith, length-drop j b))

-- ---- zeros

pub take-zeros : (m n : ℕ) → m ≤ n → ◌≡◌ {A = List ℕ} (take m (replicate n 0)) (replicate m 0)
take-zeros zero n h = refl
take-zeros (suc m) zero h = absurd (not-suc-le-zero h)
take-zeros (suc m) (suc n) h = ap (λ (z : List ℕ). 0 ∷ z) (take-zeros m n (le_of_suc-le-suc h))

pub drop-zeros : (p n : ℕ) → ◌≡◌ {A = List ℕ} (drop p (replicate n 0)) (replicate (n - p) 0)
drop-zeros zero n = let e : n ≡ n - 0 = omega arith in ap (λ (k : ℕ). replicate k 0) e
drop-zeros (suc p) zero = let e : 0 ≡ 0 - suc p = omega arith in ap (λ (k : ℕ). replicate k 0) e
drop-zeros (suc p) (suc n) = let e : n - p ≡ suc n - suc p = omega arith in drop-zeros p n ∙ ap (λ (k : ℕ). replicate k 0) e

pub part-zeros : (n p m : ℕ) → p + m ≤ n → bytes_at (replicate n 0) p m ≡ replicate m 0
unfolding bytes_at
part-zeros n p m h = ap (take m) (drop-zeros p n) ∙ take-zeros m (n - p) (omega arith)

-- ---- slots of w bytes from a place on

pub next-slot : (w i j : ℕ) → i < j → w * i + w ≤ w * j
next-slot w i j h = omega (arith, mul-suc w i, mul-le-mul_left w h)

pub slots_apart : (from w i j len : ℕ) → len ≤ w → j ≢ i → (from + w * j + w ≤ from + w * i) ⊎ (from + w * i + len ≤ from + w * j)
slots_apart from w i j len l h = go (ltb j i) refl
  where
    go : (b : Bool) → ltb j i ≡ b → (from + w * j + w ≤ from + w * i) ⊎ (from + w * i + len ≤ from + w * j)
    go true e = inl (omega (arith, next-slot w j i (ltb-true j i e)))
    go false e =
        let k : i < j = omega (arith, ltb-false j i e, h) in
        inr (omega (arith, next-slot w i j k, l))

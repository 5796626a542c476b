-- What is read prints again as the same characters: a number in its column, and a line in its columns. So no two lines read the same.
-- By induction on the digits: each is the last one of the number read so far, and a space in front is one column more. Assumes nothing.
use mathlib.Core.Path.{◌≡◌, refl, ap, sym, subst, ◌∙◌}
use mathlib.Core.Bool.{Bool, true, false, cond, ◌&&◌}
use mathlib.Core.List.{List, [], ◌∷◌, ◌++◌, append_assoc, append-nil}
use mathlib.Core.Option.{none, some}
use Prim.Native.Nat.{ℕ, zero, suc, ◌+◌, ◌-◌, ◌*◌, ◌/◌, ◌%◌, ◌≤◌, ◌<◌}
use native.Mathlib.Omega.{arith}
use lib.Dec.{eqb, leb}
use lib.ListN.{length, get_or, take, drop, replicate, take-append-drop, length-drop}
use lib.Seq.{length-take-le}
use borrow.Author.Tests.{eq-eqb, ne_eqb, eqb-true, eqb-false, leb-true}
use Rattle.columns.specs.Columns.{column_size, EightDigits, justified, columns, digits, number, column, numbers_in, read_columns_def}
use Rattle.columns.proofs.Numbers.{tens}
use Rattle.columns.proofs.Columnwise.{first_of, numbers-length}
use Rattle.columns.proofs.Back.{last_fits, by_tens}

-- ---- a number and a digit after it

module _ (u d : ℕ) (h : d ≤ 9) where
  front_of : (10 * u + d) / 10 ≡ u
  front_of = let a = by_tens (10 * u + d) in let b = last_fits (10 * u + d) in omega arith

  last_of : (10 * u + d) % 10 ≡ d
  last_of = let a = by_tens (10 * u + d) in let b = last_fits (10 * u + d) in omega arith

  one_more : (k : ℕ) → (u ≡ 0 → ⊥) → justified (suc k) (10 * u + d) ≡ justified k u ++ ((48 + d) ∷ [])
  unfolding justified
  one_more k z = rw (front_of, last_of, ne_eqb u 0 z)

  first_one : u ≡ 0 → justified 1 (10 * u + d) ≡ (48 + d) ∷ []
  unfolding justified
  first_one z = rw (front_of, last_of, eq-eqb u 0 z)

-- a digit read, and the digits after it
pub record Digit (u y : ℕ) (l : List ℕ) (v : ℕ) : Type 0 where
  pub low : 48 ≤ y
  pub high : y ≤ 57
  pub more : digits (10 * u + (y - 48)) l ≡ some v

digit_of_lem : (u y : ℕ) (l : List ℕ) (v : ℕ) → digits u (y ∷ l) ≡ some v → Digit u y l v
unfolding digits
digit_of_lem u y l v e = go (leb 48 y) (leb y 57) refl refl e
  where
    go : (b c : Bool) → leb 48 y ≡ b → leb y 57 ≡ c → cond (b && c) (digits (10 * u + (y - 48)) l) none ≡ some v → Digit u y l v
    go true true p q e = record { low = leb-true 48 y p; high = leb-true y 57 q; more = e }
    go true false p q e = let z : ◌≡◌ {A = ℕ} 0 1 = cc in absurd (omega arith)
    go false c p q e = let z : ◌≡◌ {A = ℕ} 0 1 = cc in absurd (omega arith)

-- ---- digits

-- after a number u that was printed in k columns; none stand after 0
digits_printed : (l : List ℕ) (k u v : ℕ) → digits u l ≡ some v → (0 < length l → u ≡ 0 → ⊥) → justified (k + length l) v ≡ justified k u ++ l
unfolding digits
digits_printed [] k u v e h =
    let q : u ≡ v = cc in
    let n : k + 0 ≡ k = omega arith in
    rw (n, q, append-nil (justified k v))
digits_printed (y ∷ l) k u v e h =
    let d = digit_of_lem u y l v e in
    let p = d.low in
    let q = d.high in
    let z = h (omega arith) in
    let n : k + suc (length l) ≡ suc k + length l = omega arith in
    let c : 48 + (y - 48) ≡ y = omega arith in
    rw n (digits_printed l (suc k) (10 * u + (y - 48)) v d.more (λ a b. z (omega arith))
    ∙ ap (λ (m : List ℕ). m ++ l) (one_more u (y - 48) (omega arith) k z)
    ∙ append_assoc (justified k u) ((48 + (y - 48)) ∷ []) l ∙ ap (λ (x : ℕ). justified k u ++ (x ∷ l)) c)

digits-below : (l : List ℕ) (k u v : ℕ) → digits u l ≡ some v → u < tens k → v < tens (k + length l)
unfolding digits
digits-below [] k u v e h =
    let q : u ≡ v = cc in
    let n : k + 0 ≡ k = omega arith in
    rw n (omega arith)
digits-below (y ∷ l) k u v e h =
    let d = digit_of_lem u y l v e in
    let p = d.low in
    let q = d.high in
    let n : k + suc (length l) ≡ suc k + length l = omega arith in
    rw n (digits-below l (suc k) (10 * u + (y - 48)) v d.more (omega arith))

-- ---- a number

number_digits : (x : ℕ) (xs : List ℕ) (v : ℕ) → number (x ∷ xs) ≡ some v → digits 0 (x ∷ xs) ≡ some v
unfolding number
number_digits x [] v e = e
number_digits x (y ∷ ys) v e = go (eqb x 48) e
  where
    go : (b : Bool) → cond b none (digits 0 (x ∷ y ∷ ys)) ≡ some v → digits 0 (x ∷ y ∷ ys) ≡ some v
    go true q = let z : ◌≡◌ {A = ℕ} 0 1 = cc in absurd (omega arith)
    go false q = q

-- no digit stands after a leading 0
number-leads : (x : ℕ) (xs : List ℕ) (v : ℕ) → number (x ∷ xs) ≡ some v → 0 < length xs → x ≡ 48 → ⊥
unfolding number
number-leads x [] v e h = absurd (omega arith)
number-leads x (y ∷ ys) v e h = go (eqb x 48) refl e
  where
    go : (b : Bool) → eqb x 48 ≡ b → cond b none (digits 0 (x ∷ y ∷ ys)) ≡ some v → x ≡ 48 → ⊥
    go true p q = let z : ◌≡◌ {A = ℕ} 0 1 = cc in absurd (omega arith)
    go false p q = eqb-false x 48 p

number_printed : (x : ℕ) (xs : List ℕ) (v : ℕ) → number (x ∷ xs) ≡ some v → justified (suc (length xs)) v ≡ x ∷ xs
number_printed x xs v e =
    let d = digit_of_lem 0 x xs v (number_digits x xs v e) in
    let p = d.low in
    let q = d.high in
    let n : suc (length xs) ≡ 1 + length xs = omega arith in
    let c : 48 + (x - 48) ≡ x = omega arith in
    rw n (digits_printed xs 1 (10 * 0 + (x - 48)) v d.more (λ a b. number-leads x xs v e a (omega arith))
    ∙ ap (λ (m : List ℕ). m ++ xs) (first_one 0 (x - 48) (omega arith) refl) ∙ ap (λ (y : ℕ). y ∷ xs) c)

-- ---- a column

-- spaces in front, and no more than so many digits
column-below : (b : List ℕ) (v : ℕ) → column b ≡ some v → v < tens (length b)
unfolding column
column-below [] v e = let z : ◌≡◌ {A = ℕ} 0 1 = cc in absurd (omega arith)
column-below (x ∷ xs) v e = go (eqb x 32) e (column-below xs v)
  where
    go : (b : Bool) → cond b (column xs) (number (x ∷ xs)) ≡ some v → (column xs ≡ some v → v < tens (length xs)) → v < tens (suc (length xs))
    go true q more = let h = more q in omega arith
    go false q more =
        let n : 0 + suc (length xs) ≡ suc (length xs) = omega arith in
        subst (λ (m : ℕ). v < tens m) n (digits-below (x ∷ xs) 0 0 v (number_digits x xs v q) (omega arith))

-- a space in front where there are columns enough
space_front : (n v : ℕ) → v < tens (suc n) → justified (suc (suc n)) v ≡ 32 ∷ justified (suc n) v
unfolding justified
space_front zero v h = let k : v / 10 ≡ 0 = omega (arith, by_tens v) in rw (eq-eqb (v / 10) 0 k)
space_front (suc n) v h = go (eqb (v / 10) 0) (space_front n (v / 10) (omega (arith, by_tens v)))
  where
    go : (b : Bool) → justified (suc (suc n)) (v / 10) ≡ 32 ∷ justified (suc n) (v / 10)
        → cond b (replicate (suc (suc n)) 32) (justified (suc (suc n)) (v / 10)) ++ ((48 + v % 10) ∷ [])
        ≡ 32 ∷ (cond b (replicate (suc n) 32) (justified (suc n) (v / 10)) ++ ((48 + v % 10) ∷ []))
    go true e = refl
    go false e = ap (λ (z : List ℕ). z ++ ((48 + v % 10) ∷ [])) e

pub column_printed : (b : List ℕ) (v : ℕ) → column b ≡ some v → justified (length b) v ≡ b
unfolding column
column_printed [] v e = let z : ◌≡◌ {A = ℕ} 0 1 = cc in absurd (omega arith)
column_printed (x ∷ []) v e = go (eqb x 32) e
  where
    go : (b : Bool) → cond b none (number (x ∷ [])) ≡ some v → justified 1 v ≡ x ∷ []
    go true q = let z : ◌≡◌ {A = ℕ} 0 1 = cc in absurd (omega arith)
    go false q = number_printed x [] v q
column_printed (x ∷ y ∷ ys) v e = go (eqb x 32) refl e (column_printed (y ∷ ys) v)
  where
    go : (b : Bool) → eqb x 32 ≡ b → cond b (column (y ∷ ys)) (number (x ∷ y ∷ ys)) ≡ some v
        → (column (y ∷ ys) ≡ some v → justified (suc (length ys)) v ≡ y ∷ ys) → justified (suc (suc (length ys))) v ≡ x ∷ y ∷ ys
    go true p q more =
        space_front (length ys) v (column-below (y ∷ ys) v q) ∙ ap (λ (z : List ℕ). 32 ∷ z) (more q)
        ∙ ap (λ (z : ℕ). z ∷ y ∷ ys) (sym (eqb-true x 32 p))
    go false p q more = number_printed x (y ∷ ys) v q

-- ---- a line

columns_printed : (n : ℕ) (b vs : List ℕ) → length b ≡ column_size * n → numbers_in n b ≡ some vs → columns vs ≡ b
unfolding columns numbers_in
columns_printed zero [] vs l e = let z : vs ≡ [] = cc in ap columns z
columns_printed zero (x ∷ b) vs l e = absurd (omega arith)
columns_printed (suc n) b vs l e =
    let f = first_of n b vs e in
    let t : length (take column_size b) ≡ column_size = length-take-le column_size b (omega arith) in
    let c : justified column_size f.value ≡ take column_size b =
    ap (λ (k : ℕ). justified k f.value) (sym t) ∙ column_printed (take column_size b) f.value f.head in
    let r : columns f.rest ≡ drop column_size b =
    columns_printed n (drop column_size b) f.rest (omega (arith, length-drop column_size b)) f.tail in
    ap columns f.whole ∙ rw (c, r) (take-append-drop column_size b)

numbers-below : (n : ℕ) (b vs : List ℕ) → length b ≡ column_size * n → numbers_in n b ≡ some vs → EightDigits vs
unfolding numbers_in
numbers-below zero b vs l e i = let z : [] ≡ vs = cc in subst (λ (y : List ℕ). get_or y i 0 < 100000000) z (omega arith)
numbers-below (suc n) b vs l e i =
    let f = first_of n b vs e in
    let t : length (take column_size b) ≡ column_size = length-take-le column_size b (omega arith) in
    subst (λ (y : List ℕ). get_or y i 0 < 100000000) (sym f.whole)
    (go i f.value f.rest (subst (λ (m : ℕ). f.value < tens m) t (column-below (take column_size b) f.value f.head))
    (numbers-below n (drop column_size b) f.rest (omega (arith, length-drop column_size b)) f.tail))
  where
    go : (i v : ℕ) (rest : List ℕ) → v < 100000000 → EightDigits rest → get_or (v ∷ rest) i 0 < 100000000
    go zero v rest h k = h
    go (suc i) v rest h k = k i

-- what is known of a line that is read
pub record Reading (n : ℕ) (b vs : List ℕ) : Type 0 where
  pub size : length b ≡ column_size * n
  pub count : length vs ≡ n
  pub printed : columns vs ≡ b
  pub digits : EightDigits vs

pub line_printed : (n : ℕ) (b vs : List ℕ) → read_columns_def n b ≡ some vs → Reading n b vs
unfolding read_columns_def
line_printed n b vs e = go (eqb (length b) (column_size * n)) refl e
  where
    go : (c : Bool) → eqb (length b) (column_size * n) ≡ c → cond c (numbers_in n b) none ≡ some vs → Reading n b vs
    go true p q =
        let l = eqb-true (length b) (column_size * n) p in
        record { size = l; count = numbers-length n b vs q; printed = columns_printed n b vs l q; digits = numbers-below n b vs l q }
    go false p q = let z : ◌≡◌ {A = ℕ} 0 1 = cc in absurd (omega arith)

-- a line has one reading, and a reading one line
pub one_reading : (n m : ℕ) (b vs ws : List ℕ) → read_columns_def n b ≡ some vs → read_columns_def m b ≡ some ws → vs ≡ ws
one_reading n m b vs ws e f =
    let p = line_printed n b vs e in
    let q = line_printed m b ws f in
    let k : n ≡ m = omega (arith, p.size, q.size) in
    let z : some vs ≡ some ws = sym e ∙ ap (λ (i : ℕ). read_columns_def i b) k ∙ f in
    cc

pub one_line : (n m : ℕ) (b c vs : List ℕ) → read_columns_def n b ≡ some vs → read_columns_def m c ≡ some vs → b ≡ c
one_line n m b c vs e f = sym (line_printed n b vs e).printed ∙ (line_printed m c vs f).printed

-- What is printed is read: a number of at most eight digits from its column, and a line of such numbers from its row. So different lists of numbers
-- print different lines. By induction on the digits: the last one is read after the others. Assumes nothing.
use mathlib.Core.Path.{◌≡◌, refl, ap, sym, subst, ◌∙◌}
use mathlib.Core.Bool.{Bool, true, false, cond}
use mathlib.Core.List.{List, [], ◌∷◌, ◌++◌}
use mathlib.Core.Option.{none, some}
use Prim.Native.Nat.{ℕ, zero, suc, ◌+◌, ◌-◌, ◌*◌, ◌/◌, ◌%◌, ◌≤◌, ◌<◌}
use native.Mathlib.Omega.{arith}
use native.Mathlib.Nat.{div-add-mod', mod-lt}
use lib.Dec.{eqb}
use lib.ListN.{length, take, replicate, length-append}
use lib.Seq.{take_at, drop_at}
use borrow.Author.Tests.{eq-eqb, ne_eqb, eqb-true, eqb-false, le-leb}
use Rattle.cluster.specs.Ranges.{within}
use Rattle.columns.specs.Columns.{column_size, EightDigits, justified, columns, row, digits, number, column, numbers_in, read_columns_def}
use Rattle.columns.proofs.Numbers.{tens}
use Rattle.columns.proofs.Printed.{justified-length, columns-length}

-- ---- the last digit, and the number before it

module _ (v : ℕ) where
  pub last_fits : v % 10 ≤ 9
  last_fits = let h = mod-lt v {m = 10} (omega arith) in omega arith

  digit_in : within 48 57 (48 + v % 10) ≡ true
  digit_in = let h = last_fits in rw (le-leb 48 (48 + v % 10) (omega arith), le-leb (48 + v % 10) 57 (omega arith))

  pub by_tens : 10 * (v / 10) + v % 10 ≡ v
  by_tens = let h = div-add-mod' v 10 in omega arith

-- one digit more at the end
digits-end : (l : List ℕ) (u w v : ℕ) → digits u l ≡ some w → digits u (l ++ ((48 + v % 10) ∷ [])) ≡ some (10 * w + v % 10)
unfolding digits
digits-end [] u w v e =
    let q : u ≡ w = cc in
    let k : 48 + v % 10 - 48 ≡ v % 10 = omega arith in
    rw (digit_in v, k, q)
digits-end (x ∷ l) u w v e = go (within 48 57 x) e (digits-end l (10 * u + (x - 48)) w v)
  where
    go : (b : Bool) → cond b (digits (10 * u + (x - 48)) l) none ≡ some w
        → (digits (10 * u + (x - 48)) l ≡ some w → digits (10 * u + (x - 48)) (l ++ ((48 + v % 10) ∷ [])) ≡ some (10 * w + v % 10))
        → cond b (digits (10 * u + (x - 48)) (l ++ ((48 + v % 10) ∷ []))) none ≡ some (10 * w + v % 10)
    go true q more = more q
    go false q more = let z : ◌≡◌ {A = ℕ} 0 1 = cc in absurd (omega arith)

number-end : (x : ℕ) (xs : List ℕ) (w v : ℕ) → number (x ∷ xs) ≡ some w → (w ≡ 0 → ⊥)
    → number (x ∷ (xs ++ ((48 + v % 10) ∷ []))) ≡ some (10 * w + v % 10)
unfolding number digits
number-end x [] w v e h = go (eqb x 48) refl
  where
    go : (b : Bool) → eqb x 48 ≡ b → cond b none (digits 0 (x ∷ (48 + v % 10) ∷ [])) ≡ some (10 * w + v % 10)
    go true q =
        let k : x ≡ 48 = eqb-true x 48 q in
        let z : some 0 ≡ some w = subst (λ (y : ℕ). digits 0 (y ∷ []) ≡ some w) k e in
        let y : w ≡ 0 = cc in
        absurd (h y)
    go false q = digits-end (x ∷ []) 0 w v e
number-end x (y ∷ ys) w v e h = go (eqb x 48) e
  where
    go : (b : Bool) → cond b none (digits 0 (x ∷ y ∷ ys)) ≡ some w
        → cond b none (digits 0 (x ∷ y ∷ (ys ++ ((48 + v % 10) ∷ [])))) ≡ some (10 * w + v % 10)
    go true q = let z : ◌≡◌ {A = ℕ} 0 1 = cc in absurd (omega arith)
    go false q = digits-end (x ∷ y ∷ ys) 0 w v q

column-end : (l : List ℕ) (w v : ℕ) → column l ≡ some w → (w ≡ 0 → ⊥) → column (l ++ ((48 + v % 10) ∷ [])) ≡ some (10 * w + v % 10)
unfolding column
column-end [] w v e h = let z : ◌≡◌ {A = ℕ} 0 1 = cc in absurd (omega arith)
column-end (x ∷ l) w v e h = go (eqb x 32) e (λ q. column-end l w v q h)
  where
    go : (b : Bool) → cond b (column l) (number (x ∷ l)) ≡ some w → (column l ≡ some w → column (l ++ ((48 + v % 10) ∷ [])) ≡ some (10 * w + v % 10))
        → cond b (column (l ++ ((48 + v % 10) ∷ []))) (number (x ∷ (l ++ ((48 + v % 10) ∷ [])))) ≡ some (10 * w + v % 10)
    go true q more = more q
    go false q more = number-end x l w v q h

spaces-digit : (m v : ℕ) → column (replicate m 32 ++ ((48 + v % 10) ∷ [])) ≡ some (v % 10)
unfolding column number
spaces-digit zero v =
    let k : 10 * 0 + v % 10 ≡ v % 10 = omega arith in
    rw (ne_eqb (48 + v % 10) 32 (λ q. omega arith)) (digits-end [] 0 0 v (unfold digits in refl) ∙ ap some k)
spaces-digit (suc m) v = spaces-digit m v

-- spaces before the one digit, or the number without its last digit
by_front : (n v : ℕ) → ((v / 10 ≡ 0 → ⊥) → column (justified n (v / 10)) ≡ some (v / 10)) → column (justified (suc n) v) ≡ some v
unfolding justified
by_front n v more = go (eqb (v / 10) 0) refl
  where
    go : (b : Bool) → eqb (v / 10) 0 ≡ b → column (cond b (replicate n 32) (justified n (v / 10)) ++ ((48 + v % 10) ∷ [])) ≡ some v
    go true q = let k = eqb-true (v / 10) 0 q in spaces-digit n v ∙ ap some (omega (arith, by_tens v))
    go false q = let k = eqb-false (v / 10) 0 q in column-end (justified n (v / 10)) (v / 10) v (more k) k ∙ ap some (by_tens v)

-- a number of at most n + 1 digits
pub number_back : (n v : ℕ) → v < tens (suc n) → column (justified (suc n) v) ≡ some v
number_back zero v h = by_front zero v (λ k. absurd (k (omega (arith, by_tens v))))
number_back (suc n) v h = by_front (suc n) v (λ k. number_back n (v / 10) (omega (arith, by_tens v)))

columns_back : (vs : List ℕ) → EightDigits vs → numbers_in (length vs) (columns vs) ≡ some vs
unfolding columns numbers_in
columns_back [] h = refl
columns_back (v ∷ vs) h =
    let l = justified-length column_size v in
    rw (
      take_at (justified column_size v) (columns vs) column_size l,
      drop_at (justified column_size v) (columns vs) column_size l,
      number_back 7 v (h 0),
      columns_back vs (λ i. h (suc i)),
    )

pub line_back : (vs : List ℕ) → EightDigits vs → read_columns_def (length vs) (columns vs) ≡ some vs
unfolding read_columns_def
line_back vs h = rw (eq-eqb (length (columns vs)) (column_size * length vs) (columns-length vs)) (columns_back vs h)

-- different lists print different lines
pub row_injective : (vs ws : List ℕ) → EightDigits vs → EightDigits ws → row vs ≡ row ws → vs ≡ ws
unfolding row
row_injective vs ws h k e =
    let l : length (columns vs) ≡ length (columns ws) =
    omega (arith, ap length e, length-append (columns vs) (10 ∷ []), length-append (columns ws) (10 ∷ [])) in
    let c : columns vs ≡ columns ws =
    sym (take_at (columns vs) (10 ∷ []) (length (columns vs)) refl) ∙ ap (take (length (columns vs))) e
    ∙ take_at (columns ws) (10 ∷ []) (length (columns vs)) (sym l) in
    let n : length vs ≡ length ws = omega (arith, columns-length vs, columns-length ws) in
    let r : some vs ≡ some ws =
    sym (line_back vs h) ∙ ap (λ (z : List ℕ). read_columns_def (length vs) z) c ∙ ap (λ (m : ℕ). read_columns_def m (columns ws)) n ∙ line_back ws k in
    cc

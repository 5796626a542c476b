-- Marks put back: a byte that stands for its mark stays, one more mark is one byte set, and no marks are zeros.
-- Place by place. Nothing is assumed.
use mathlib.Core.Path.{◌≡◌, refl, sym, ap, ◌∙◌}
use mathlib.Core.Bool.{Bool, true, false, cond, not}
use mathlib.Core.List.{List, [], ◌∷◌}
use Prim.Native.Nat.{ℕ, zero, suc, ◌+◌, ◌-◌, ◌<◌, ◌≤◌}
use native.Mathlib.Omega.{arith}
use lib.Dec.{eqb}
use lib.ListN.{length, get_or, set, replicate, length-set}
use lib.Seq.{ext_get_or, get_or-set_same, get_or-set_other}
use borrow.Author.Tests.{eqb-true, eqb-false, ne_eqb, not-false}
use Rattle.cluster.specs.Ranges.{most_servers}
use Rattle.protocol.specs.Rules.{ByServer, upd, nobody}
use Rattle.protocol.specs.View.{marked}
use Rattle.protocol.specs.ClientBytes.{put_marks}

marks-length : (i : ℕ) (xs : List ℕ) (m : ByServer Bool) → length (put_marks i xs m) ≡ length xs
unfolding put_marks
marks-length i [] m = refl
marks-length i (x ∷ xs) m = ap suc (marks-length (suc i) xs m)

pub marks_at_lem : (i : ℕ) (xs : List ℕ) (m : ByServer Bool) (j : ℕ) → j < length xs
    → get_or (put_marks i xs m) j 0 ≡ cond (m (suc (i + j))) (cond (eqb (get_or xs j 0) 0) 1 (get_or xs j 0)) 0
unfolding put_marks
marks_at_lem i [] m j h = absurd (omega arith)
marks_at_lem i (x ∷ xs) m zero h = let e : i + 0 ≡ i = omega arith in rw e
marks_at_lem i (x ∷ xs) m (suc j) h = let e : i + suc j ≡ suc i + j = omega arith in rw e (marks_at_lem (suc i) xs m j (omega arith))

-- a byte that stands for its mark
stands : (x : ℕ) → cond (not (eqb x 0)) (cond (eqb x 0) 1 x) 0 ≡ x
stands zero = refl
stands (suc x) = rw (ne_eqb (suc x) 0 (λ e. omega arith))

-- the same marks, none, and one more
pub marks-same : (ms : List ℕ) → put_marks 0 ms (marked ms) ≡ ms
unfolding marked
marks-same ms =
    ext_get_or 0 _ _ (marks-length 0 ms (marked ms)) (λ j h.
    let l : j < length ms = omega (arith, marks-length 0 ms (marked ms)) in
    let e : 0 + j ≡ j = omega arith in
    marks_at_lem 0 ms (marked ms) j l ∙ rw e (stands (get_or ms j 0)))

marks_none : (ms : List ℕ) → put_marks 0 ms nobody ≡ replicate (length ms) 0
unfolding put_marks nobody
marks_none ms = go 0 ms
  where
    go : (i : ℕ) (xs : List ℕ) → put_marks i xs nobody ≡ replicate (length xs) 0
    go i [] = refl
    go i (x ∷ xs) = ap (λ (z : List ℕ). 0 ∷ z) (go (suc i) xs)

marks_one : (ms : List ℕ) (i : ℕ) → i < length ms → marked ms (suc i) ≡ false → put_marks 0 ms (upd (marked ms) (suc i) true) ≡ set ms i 1
unfolding marked upd
marks_one ms i l new =
    ext_get_or 0 _ _ (marks-length 0 ms m ∙ sym (length-set ms i 1)) (λ j h.
    let k : j < length ms = omega (arith, marks-length 0 ms m) in
    let e : 0 + j ≡ j = omega arith in
    marks_at_lem 0 ms m j k ∙ rw e (at j))
  where
    m : ByServer Bool
    m = upd (marked ms) (suc i) true

    at : (j : ℕ) → cond (cond (eqb (suc j) (suc i)) true (not (eqb (get_or ms j 0) 0))) (cond (eqb (get_or ms j 0) 0) 1 (get_or ms j 0)) 0
        ≡ get_or (set ms i 1) j 0
    at j = go (eqb (suc j) (suc i)) refl
      where
        zero_is : get_or ms i 0 ≡ 0
        zero_is = eqb-true (get_or ms i 0) 0 (not-false (eqb (get_or ms i 0) 0) new)

        go : (b : Bool) → eqb (suc j) (suc i) ≡ b
            → cond (cond b true (not (eqb (get_or ms j 0) 0))) (cond (eqb (get_or ms j 0) 0) 1 (get_or ms j 0)) 0 ≡ get_or (set ms i 1) j 0
        go true e = let q : j ≡ i = omega (arith, eqb-true (suc j) (suc i) e) in rw (q, zero_is, get_or-set_same ms i 1 0 l)
        go false e = stands (get_or ms j 0) ∙ sym (get_or-set_other ms i j 1 0 (λ q. eqb-false (suc j) (suc i) e (ap suc q)))

-- the same at the most servers, and at a server's own number
pub marks-fresh : (ms : List ℕ) → length ms ≡ most_servers → put_marks 0 ms nobody ≡ replicate most_servers 0
marks-fresh ms wide = marks_none ms ∙ ap (λ (n : ℕ). replicate n 0) wide

pub marks-noted : (ms : List ℕ) (b : ℕ) → 1 ≤ b → b ≤ length ms → marked ms b ≡ false → put_marks 0 ms (upd (marked ms) b true) ≡ set ms (b - 1) 1
marks-noted ms b lo hi new =
    let e : suc (b - 1) ≡ b = omega arith in
    ap (λ (i : ℕ). put_marks 0 ms (upd (marked ms) i true)) (sym e) ∙ marks_one ms (b - 1) (omega arith) (ap (marked ms) e ∙ new)

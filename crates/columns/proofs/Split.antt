-- The lines of a text, read from a place on: the line there is the first of them, and the others stand from the next place on.
-- By induction over the characters of the line. Assumes nothing.
use mathlib.Core.Path.{◌≡◌, refl, ap, sym, subst, ◌∙◌}
use mathlib.Core.Bool.{Bool, true, false, cond}
use mathlib.Core.List.{List, [], ◌∷◌}
use Prim.Native.Nat.{ℕ, suc, ◌+◌, ◌≤◌, ◌<◌}
use native.Mathlib.Omega.{arith}
use lib.Dec.{ltb, eqb}
use lib.ListN.{length, get_or, take, drop, drop_of_length-le, length-drop}
use lib.Seq.{drop-cons, drop-drop}
use borrow.Author.Tests.{lt-ltb, le-ltb, ltb-true, ltb-false}
use Rattle.columns.specs.Lines.{Text, newline, before, lines, line_length, line_end_def, line_at, next_at}

-- ---- where a line ends

line-fits : (s : List ℕ) → line_length s ≤ length s
unfolding line_length
line-fits [] = omega arith
line-fits (x ∷ xs) = go (eqb x newline) (line-fits xs)
  where
    go : (b : Bool) → line_length xs ≤ length xs → cond b 0 (suc (line_length xs)) ≤ suc (length xs)
    go true h = omega arith
    go false h = omega arith

module _ (s : List ℕ) (at : ℕ) where
  pub end_after : at ≤ line_end_def s at
  unfolding line_end_def
  end_after = omega arith

  pub end-within : at ≤ length s → line_end_def s at ≤ length s
  unfolding line_end_def
  end-within h = omega (arith, line-fits (drop at s), length-drop at s)

-- ---- the first of the lines

ltb-suc : (k n : ℕ) → ltb (suc k) (suc n) ≡ ltb k n
ltb-suc k n = go (ltb k n) refl
  where
    go : (b : Bool) → ltb k n ≡ b → ltb (suc k) (suc n) ≡ ltb k n
    go true e = let h = ltb-true k n e in lt-ltb (suc k) (suc n) (omega arith) ∙ sym e
    go false e = let h = ltb-false k n e in le-ltb (suc k) (suc n) (omega arith) ∙ sym e

-- the first line of a text that is not empty, and the text after it
first_line_lem : (x : ℕ) (xs : List ℕ) → lines (x ∷ xs)
    ≡ record { bytes = take (line_length (x ∷ xs)) (x ∷ xs); ended = ltb (line_length (x ∷ xs)) (length (x ∷ xs)) }
    ∷ lines (drop (suc (line_length (x ∷ xs))) (x ∷ xs))
unfolding lines line_length before
first_line_lem x [] = go (eqb x newline)
  where
    go : (b : Bool) → cond b (record { bytes = []; ended = true } ∷ []) (before x [])
        ≡ record { bytes = take (cond b 0 1) (x ∷ []); ended = ltb (cond b 0 1) 1 } ∷ lines (drop (suc (cond b 0 1)) (x ∷ []))
    go true = refl
    go false = refl
first_line_lem x (y ∷ ys) = go (eqb x newline) (line_length (y ∷ ys)) (first_line_lem y ys)
  where
    go : (b : Bool) (k : ℕ) → lines (y ∷ ys) ≡ record { bytes = take k (y ∷ ys); ended = ltb k (length (y ∷ ys)) } ∷ lines (drop (suc k) (y ∷ ys))
        → cond b (record { bytes = []; ended = true } ∷ lines (y ∷ ys)) (before x (lines (y ∷ ys)))
        ≡ record { bytes = take (cond b 0 (suc k)) (x ∷ y ∷ ys); ended = ltb (cond b 0 (suc k)) (suc (length (y ∷ ys))) }
        ∷ lines (drop (suc (cond b 0 (suc k))) (x ∷ y ∷ ys))
    go true k e = rw (lt-ltb 0 (suc (length (y ∷ ys))) (omega arith))
    go false k e = rw (e, ltb-suc k (length (y ∷ ys)))

module _ (s : List ℕ) (at : ℕ) (h : at < length s) where
  first_at_lem : lines (drop at s) ≡ line_at s at ∷ lines (drop (line_end_def s at + 1) s)
  unfolding line_at line_end_def
  first_at_lem =
      let l : List ℕ = drop at s in
      let d : l ≡ get_or s at 0 ∷ drop (suc at) s = drop-cons s at 0 h in
      let e : at + suc (line_length l) ≡ at + line_length l + 1 = omega arith in
      let r : drop (suc (line_length l)) l ≡ drop (at + line_length l + 1) s = drop-drop (suc (line_length l)) at s ∙ ap (λ (k : ℕ). drop k s) e in
      subst (λ (z : List ℕ). lines z ≡ record { bytes = take (line_length z) z; ended = ltb (line_length z) (length z) }
      ∷ lines (drop (suc (line_length z)) z)) (sym d) (first_line_lem (get_or s at 0) (drop (suc at) s)) ∙ rw r

  rest_at : drop (next_at s at) s ≡ drop (line_end_def s at + 1) s
  unfolding next_at
  rest_at = go (ltb (line_end_def s at) (length s)) refl
    where
      go : (b : Bool) → ltb (line_end_def s at) (length s) ≡ b → drop (cond b (line_end_def s at + 1) (length s)) s ≡ drop (line_end_def s at + 1) s
      go true e = refl
      go false e =
          let k = ltb-false (line_end_def s at) (length s) e in
          rw (drop_of_length-le s {i = length s} (omega arith), drop_of_length-le s {i = line_end_def s at + 1} (omega arith))

  -- the line at a place, and the lines after it
  pub lines_at : lines (drop at s) ≡ line_at s at ∷ lines (drop (next_at s at) s)
  lines_at = first_at_lem ∙ rw rest_at

  pub next-later : (at < next_at s at) × (next_at s at ≤ length s)
  unfolding next_at
  next-later = go (ltb (line_end_def s at) (length s)) refl
    where
      go : (b : Bool) → ltb (line_end_def s at) (length s) ≡ b → (at < cond b (line_end_def s at + 1) (length s))
          × (cond b (line_end_def s at + 1) (length s) ≤ length s)
      go true e = let j = ltb-true (line_end_def s at) (length s) e in let k = end_after s at in (omega arith, omega arith)
      go false e = (omega arith, omega arith)

  pub one_line_less : length (lines (drop at s)) ≡ suc (length (lines (drop (next_at s at) s)))
  one_line_less = ap length lines_at

module _ (s : List ℕ) (at : ℕ) where
  pub next_here : line_end_def s at < length s → line_end_def s at + 1 ≡ next_at s at
  unfolding next_at
  next_here h = rw (lt-ltb (line_end_def s at) (length s) h)

  pub next_none : length s ≤ line_end_def s at → length s ≡ next_at s at
  unfolding next_at
  next_none h = rw (le-ltb (line_end_def s at) (length s) h)

-- ---- how many

before-length : (x : ℕ) (ls : List Text) (n : ℕ) → length ls ≤ n → length (before x ls) ≤ suc n
unfolding before
before-length x [] n h = omega arith
before-length x (l ∷ ls) n h = omega arith

one-or : (b : Bool) (x : ℕ) (ls : List Text) (n : ℕ) → length ls ≤ n → length (cond b (record { bytes = []; ended = true } ∷ ls) (before x ls)) ≤ suc
    n
one-or true x ls n h = omega arith
one-or false x ls n h = before-length x ls n h

-- no more lines than characters
few-lines : (s : List ℕ) → length (lines s) ≤ length s
unfolding lines
few-lines [] = omega arith
few-lines (x ∷ xs) = one-or (eqb x newline) x (lines xs) (length xs) (few-lines xs)

-- the lines from a place on, and how many stood before it
pub record Counted (s : List ℕ) (at n : ℕ) : Type 0 where
  pub within : at ≤ length s
  pub whole : n + length (lines (drop at s)) ≡ length (lines s)

module _ (s : List ℕ) (at n : ℕ) (p : Counted s at n) where
  pub counted_more : at < length s → Counted s (next_at s at) (n + 1)
  counted_more h = record { within = (next-later s at h).1; whole = omega (arith, p.whole, one_line_less s at h) }

  pub counted-room : at < length s → n + 1 ≤ length s
  counted-room h = omega (arith, p.whole, one_line_less s at h, few-lines s)

  pub counted_all : length s ≤ at → n ≡ length (lines s)
  unfolding lines
  counted_all h = let z : drop at s ≡ [] = drop_of_length-le s h in omega (arith, rw z at p.whole)

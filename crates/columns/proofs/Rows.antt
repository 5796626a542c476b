-- A row printed at the start of a text is its first line, and is read from there: no character of a column is 0Ah.
-- By induction on the digits and the columns. Assumes nothing.
use mathlib.Core.Path.{◌≡◌, refl, ◌∙◌}
use mathlib.Core.Bool.{Bool, true, false, cond}
use mathlib.Core.List.{List, [], ◌∷◌, ◌++◌, append_assoc}
use mathlib.Core.Option.{some}
use Prim.Native.Nat.{ℕ, zero, suc, ◌+◌, ◌/◌, ◌%◌, ◌<◌}
use native.Mathlib.Omega.{arith}
use lib.Dec.{eqb}
use lib.ListN.{length, replicate, length-append}
use lib.Seq.{take_at}
use borrow.Author.Tests.{ne_eqb, lt-ltb}
use Rattle.columns.specs.Lines.{newline, line_length, line_at}
use Rattle.columns.specs.Columns.{column_size, EightDigits, justified, columns, row, read_text}
use Rattle.columns.proofs.Back.{line_back}

-- no 0Ah stands in these characters: a line goes on over them
abbrev Within : List ℕ → Type 0
Within l = (r : List ℕ) → line_length (l ++ r) ≡ length l + line_length r

within-join : (l m : List ℕ) → Within l → Within m → Within (l ++ m)
within-join l m h k r = rw (append_assoc l m r) (h (m ++ r) ∙ omega (arith, k r, length-append l m))

within_one : (x : ℕ) → (x ≡ newline → ⊥) → Within (x ∷ [])
unfolding line_length
within_one x h r = rw (ne_eqb x newline h) (omega arith)

within_spaces : (n : ℕ) → Within (replicate n 32)
unfolding line_length
within_spaces zero r = omega arith
within_spaces (suc n) r = let h = within_spaces n r in omega arith

within-column : (n v : ℕ) → Within (justified n v)
unfolding justified
within-column zero v = λ r. omega arith
within-column (suc n) v = go (eqb (v / 10) 0) (within-column n (v / 10))
  where
    digit : Within ((48 + v % 10) ∷ [])
    digit = within_one (48 + v % 10) (λ q. omega arith)

    go : (b : Bool) → Within (justified n (v / 10)) → Within (cond b (replicate n 32) (justified n (v / 10)) ++ ((48 + v % 10) ∷ []))
    go true h = within-join (replicate n 32) ((48 + v % 10) ∷ []) (within_spaces n) digit
    go false h = within-join (justified n (v / 10)) ((48 + v % 10) ∷ []) h digit

within-columns : (vs : List ℕ) → Within (columns vs)
unfolding columns
within-columns [] = λ r. omega arith
within-columns (v ∷ vs) = within-join (justified column_size v) (columns vs) (within-column column_size v) (within-columns vs)

pub row_first : (vs rest : List ℕ) → line_at (row vs ++ rest) 0 ≡ record { bytes = columns vs; ended = true }
unfolding line_at line_length row
row_first vs rest =
    let s : List ℕ = columns vs ++ (newline ∷ rest) in
    let e : columns vs ++ (newline ∷ []) ++ rest ≡ s = append_assoc (columns vs) (newline ∷ []) rest in
    let k : line_length s ≡ length (columns vs) = within-columns vs (newline ∷ rest) ∙ omega arith in
    let f : length (columns vs) < length s = omega (arith, length-append (columns vs) (newline ∷ rest)) in
    rw (e, k, lt-ltb (length (columns vs)) (length s) f, take_at (columns vs) (newline ∷ rest) (length (columns vs)) refl)

-- what is printed is read, whatever stands after it
pub row_back : (vs rest : List ℕ) → EightDigits vs → read_text (length vs) (line_at (row vs ++ rest) 0) ≡ some vs
unfolding read_text
row_back vs rest h = rw (row_first vs rest) (line_back vs h)

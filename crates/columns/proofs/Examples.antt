-- Document 01's examples of numbers in columns, and lines, by computation. Assumes nothing.
use mathlib.Core.Path.{◌≡◌, refl}
use mathlib.Core.List.{List, [], ◌∷◌, ◌++◌}
use mathlib.Core.Option.{none, some}
use Prim.Native.Nat.{ℕ}
use lib.ListN.{length, replicate}
use Rattle.columns.specs.Lines.{lines, before}
use Rattle.columns.specs.Columns.{justified, columns, digits, number, column, numbers_in, read_columns_def}

spaces : ℕ → List ℕ
spaces n = replicate n 32

-- ---- numbers in 8 columns

zero-stands : column (spaces 7 ++ (48 ∷ [])) ≡ some 0
unfolding column number digits spaces
zero-stands = refl

all-columns : column (replicate 8 57) ≡ some 99999999
unfolding column number digits
all-columns = refl

no_digit : column (spaces 8) ≡ none
unfolding column number digits spaces
no_digit = refl

leading-zero : column (spaces 6 ++ (48 ∷ 49 ∷ [])) ≡ none
unfolding column number digits spaces
leading-zero = refl

space-after : column (spaces 6 ++ (49 ∷ 32 ∷ [])) ≡ none
unfolding column number digits spaces
space-after = refl

justified-number : justified 8 1024 ≡ spaces 4 ++ (49 ∷ 48 ∷ 50 ∷ 52 ∷ [])
unfolding justified spaces
justified-number = refl

-- ---- lines

three-lines : length (lines (49 ∷ 10 ∷ 10 ∷ 50 ∷ [])) ≡ 3
unfolding lines before
three-lines = refl

two-columns : read_columns_def 2 (columns (7 ∷ 99999999 ∷ [])) ≡ some (7 ∷ 99999999 ∷ [])
unfolding read_columns_def numbers_in columns justified column number digits
two-columns = refl

-- a short column is none, though its characters alone are a number
short-column : read_columns_def 1 (55 ∷ []) ≡ none
unfolding read_columns_def
short-column = refl

-- Document 01's examples of first lines, by computation. Assumes nothing.
use mathlib.Core.Path.{◌≡◌, refl}
use mathlib.Core.List.{List, [], ◌∷◌}
use Prim.Native.Nat.{ℕ}
use Rattle.columns.specs.Lines.{lines, before}
use Rattle.columns.specs.Columns.{justified, columns, row, digits, number, column, numbers_in, read_columns_def, read_text}
use Rattle.drill.specs.Sheet.{fields_of, read_line_def, first_line_def}
use Rattle.drill.specs.Listing.{last_row, listed, listing}

-- a line of five numbers
line : ℕ → ℕ → ℕ → ℕ → ℕ → List ℕ
line v c s n f = row (v ∷ c ∷ s ∷ n ∷ f ∷ [])

-- a first line whose t alone is wrong; one with another fault; an unended one
wrong-t : listing (line 0 5 0 0 0) ≡ last_row 1 103
unfolding listing listed lines before first_line_def read_line_def fields_of read_text read_columns_def numbers_in column number digits line row columns justified
wrong-t = refl

wrong_first : listing (line 0 5 1 0 0) ≡ last_row 1 117
unfolding listing listed lines before first_line_def read_line_def fields_of read_text read_columns_def numbers_in column number digits line row columns justified
wrong_first = refl

unended : listing (columns (0 ∷ 1 ∷ 0 ∷ 0 ∷ 0 ∷ [])) ≡ last_row 1 117
unfolding listing listed lines before first_line_def read_line_def fields_of read_text read_columns_def numbers_in column number digits columns justified
unended = refl

nothing : listing [] ≡ []
unfolding listing listed lines
nothing = refl

-- Numbers in columns (document 01, "Drill sheets"): right-justified in 8 columns with spaces and no leading zeros; how they are printed, and read.
-- That each undoes the other is shown in proofs/Back.
use Rattle.std.specs.Prelude.{cond, List, [], ◌∷◌, ◌++◌, ℕ, zero, suc, ◌+◌, ◌-◌, ◌*◌, ◌/◌, ◌%◌, ◌<◌, eqb, length, get_or, take, drop, replicate}
use Rattle.std.proofs.Math.Option.{Option, none, some}
use Rattle.cluster.specs.Ranges.{within}
use Rattle.columns.specs.Lines.{Text, newline}

abbrev pub column_size : ℕ
column_size = 8

-- no number of a list has more than eight digits
abbrev pub EightDigits : List ℕ → Type 0
EightDigits vs = (i : ℕ) → get_or vs i 0 < 100000000

-- ---- printing

-- a number right-justified in n columns: its last digit, before it the rest of the number, and spaces where nothing is left.
-- A number of more digits would lose its first ones
unfoldable pub justified : ℕ → ℕ → List ℕ
justified zero v = []
justified (suc n) v = cond (eqb (v / 10) 0) (replicate n 32) (justified n (v / 10)) ++ ((48 + v % 10) ∷ [])

unfoldable pub columns : List ℕ → List ℕ
columns [] = []
columns (v ∷ vs) = justified column_size v ++ columns vs

-- the columns of a line, and 0Ah
unfoldable pub row : List ℕ → List ℕ
row vs = columns vs ++ (newline ∷ [])

-- ---- reading

abbrev pub on_some : {A B : Type 0} → Option A → (A → Option B) → Option B
on_some none f = none
on_some (some a) f = f a

-- digits 0 to 9, after others with the value v
unfoldable pub digits : ℕ → List ℕ → Option ℕ
digits v [] = some v
digits v (x ∷ xs) = cond (within 48 57 x) (digits (10 * v + (x - 48)) xs) none

-- at least one digit, and no leading zero
unfoldable pub number : List ℕ → Option ℕ
number [] = none
number (x ∷ []) = digits 0 (x ∷ [])
number (x ∷ y ∷ ys) = cond (eqb x 48) none (digits 0 (x ∷ y ∷ ys))

-- spaces, then a number
unfoldable pub column : List ℕ → Option ℕ
column [] = none
column (x ∷ xs) = cond (eqb x 32) (column xs) (number (x ∷ xs))

-- the numbers of the first n columns
unfoldable pub numbers_in : ℕ → List ℕ → Option (List ℕ)
numbers_in zero b = some []
numbers_in (suc n) b = on_some (column (take column_size b)) (λ v. on_some (numbers_in n (drop column_size b)) (λ vs. some (v ∷ vs)))

-- n columns and nothing after them
unfoldable pub read_columns_def : ℕ → List ℕ → Option (List ℕ)
read_columns_def n b = cond (eqb (length b) (column_size * n)) (numbers_in n b) none

-- a line of n columns
unfoldable pub read_text : ℕ → Text → Option (List ℕ)
read_text n x = cond x.ended (read_columns_def n x.bytes) none

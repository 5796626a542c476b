-- What the functions on columns answer. A line that is not read has no number here: who reads it gives its own refusal (17 in a drill).
use Rattle.std.specs.Prelude.{◌≡◌, Bool, true, false, cond, List, ◌++◌, ℕ, ◌+◌, ◌*◌, ltb, length, take, drop, Option, Some, None}
use Rattle.std.proofs.Math.Option as maybe
use Rattle.columns.specs.Columns.{column_size, row, numbers_in}

-- what was read, in the definitions' words
abbrev pub told : {A : Type 0} → Option A → maybe.Option A
told None = maybe.none
told (Some a) = maybe.some a

-- what private functions promise each other: whether a number was read, and its value; 0 where none was
abbrev pub is_read : {A : Type 0} → maybe.Option A → Bool
is_read maybe.none = false
is_read (maybe.some a) = true

abbrev pub or_zero : maybe.Option ℕ → ℕ
or_zero maybe.none = 0
or_zero (maybe.some v) = v

-- n values for n columns that all hold a number
pub record Fills (text old new : List ℕ) : Type 0 where
  pub filled : (vs : List ℕ) → numbers_in (length old) text ≡ maybe.some vs → new ≡ vs

-- whether a line was read, and the values that the caller lent
pub record LineRead : Type 0 where
  pub read : Bool
  pub values : List ℕ

-- its numbers; where it is not read, nothing changes
abbrev pub read_into : maybe.Option (List ℕ) → List ℕ → LineRead
read_into (maybe.some vs) old = record { read = true; values = vs }
read_into maybe.none old = record { read = false; values = old }

-- the place past what was printed, and the output
pub record RowPrinted : Type 0 where
  pub next : ℕ
  pub output : List ℕ

-- a row over the bytes from a place on; where it has no room, nothing changes
unfoldable pub row_at : List ℕ → ℕ → List ℕ → RowPrinted
row_at d at vs =
    cond (ltb (at + column_size * length vs) (length d))
    (record { next = at + length (row vs); output = take at d ++ (row vs ++ drop (at + length (row vs)) d) })
    (record { next = at; output = d })

-- The lines of a text (document 01, "Drill sheets"): what ends at 0Ah, and an unended rest.
use Rattle.std.specs.Prelude.{Bool, true, false, cond, List, [], ◌∷◌, ℕ, suc, ◌+◌, ltb, eqb, length, take, drop}

-- a line's characters, and whether 0Ah ended it
pub record Text : Type 0 where
  pub bytes : List ℕ
  pub ended : Bool

abbrev pub newline : ℕ
newline = 10

-- a character before the first line
unfoldable pub before : ℕ → List Text → List Text
before x [] = record { bytes = x ∷ []; ended = false } ∷ []
before x (l ∷ ls) = record { bytes = x ∷ l.bytes; ended = l.ended } ∷ ls

unfoldable pub lines : List ℕ → List Text
lines [] = []
lines (x ∷ xs) = cond (eqb x newline) (record { bytes = []; ended = true } ∷ lines xs) (before x (lines xs))

-- ---- the line from a place on: the first of the lines from there on, and the others stand from the next place on (`lines_at` in proofs/Split)

-- characters before the first 0Ah, or all of them
unfoldable pub line_length : List ℕ → ℕ
line_length [] = 0
line_length (x ∷ xs) = cond (eqb x newline) 0 (suc (line_length xs))

-- the place of the 0Ah that ends it, or the end of the text
unfoldable pub line_end_def : List ℕ → ℕ → ℕ
line_end_def s at = at + line_length (drop at s)

unfoldable pub line_at : List ℕ → ℕ → Text
line_at s at = record { bytes = take (line_length (drop at s)) (drop at s); ended = ltb (line_length (drop at s)) (length (drop at s)) }

-- the place of the next line; past the last one the end of the text
unfoldable pub next_at : List ℕ → ℕ → ℕ
next_at s at = cond (ltb (line_end_def s at) (length s)) (line_end_def s at + 1) (length s)

-- Places in a list of bytes, and what a reader or a writer of a field does there: the words in which the code's contracts speak of formats.
-- `Wrote` is for what private functions promise; no public contract names it.
use Rattle.std.specs.Prelude.{◌≡◌, List, ◌++◌, ℕ, ◌+◌, ◌≤◌, length, take, drop, get_or}
use Rattle.std.proofs.Math.Option.{none, some}
use Rattle.format.specs.Format.{Fmt, value4}

-- d with the bytes b from the place at on
unfoldable pub put : List ℕ → ℕ → List ℕ → List ℕ
put d at b = take at d ++ (b ++ drop (at + length b) d)

-- bytes written at the start of the output buffer, the rest untouched
unfoldable pub over : List ℕ → List ℕ → List ℕ
over new old = new ++ drop (length new) old

-- n bytes from the place at on
unfoldable pub bytes_at : List ℕ → ℕ → ℕ → List ℕ
bytes_at d at n = take n (drop at d)

-- the number that the first four bytes are; a byte past the end is 0
abbrev pub number4_at : List ℕ → ℕ
number4_at d = value4 (get_or d 0 0) (get_or d 1 0) (get_or d 2 0) (get_or d 3 0)

-- F reads a from the bytes of s at the place at, up to the place next
pub record Leaves {A : Type 0} (F : Fmt A) (s : List ℕ) (at : ℕ) (a : A) (next : ℕ) : Type 0 where
  pub parsed : F.parse (drop at s) ≡ some (a, drop next s)
  pub within : next ≤ length s
  pub ok : F.Ok a

-- F takes nothing there
pub record Stops {A : Type 0} (F : Fmt A) (s : List ℕ) (at : ℕ) : Type 0 where
  pub stopped : F.parse (drop at s) ≡ none

-- the bytes b were written over d from the place at on, which leaves e, and next is the place past them
pub record Wrote (d : List ℕ) (at : ℕ) (b : List ℕ) (e : List ℕ) (next : ℕ) : Type 0 where
  pub bytes : e ≡ put d at b
  pub place : next ≡ at + length b

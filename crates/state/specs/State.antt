-- A client's small state as bytes: numbers big-endian, then round, count and marks. `state_back` in proofs/ says that what is put is read.
use Rattle.std.specs.Prelude.{List, [], ◌∷◌, ◌++◌, ℕ, ◌+◌, drop, get_or}
use Rattle.cluster.specs.Ranges.{most_servers}
use Rattle.protocol.specs.declared.Call.{Call}
use Rattle.protocol.specs.declared.Tally.{Tally}
use Rattle.wire.specs.Places.{padded}
use Rattle.format.specs.Format.{print2, print4, value2}
use Rattle.format.specs.Reading.{number4_at}

-- bytes before the marks, and of the whole
abbrev pub numbers_size : ℕ
numbers_size = 16

abbrev pub state_size : ℕ
state_size = numbers_size + most_servers

-- the place of the kept bytes where they follow the state in one run
abbrev pub kept_place : ℕ
kept_place = 64

unfoldable pub numbers : Call → List ℕ
numbers c =
    print4 c.number ++ (print4 c.last ++ (print4 c.high ++ (print2 c.length ++ (c.tally.round ∷ c.tally.count ∷ []))))

unfoldable pub call_bytes : Call → List ℕ
call_bytes c = numbers c ++ c.tally.marks

-- ---- reading: a byte past the end is 0

unfoldable pub length_at : List ℕ → ℕ
length_at d = value2 (get_or d 12 0) (get_or d 13 0)

unfoldable pub marks_at_def : List ℕ → List ℕ
marks_at_def d = padded most_servers (drop numbers_size d)

unfoldable pub tally_at_def : List ℕ → Tally
tally_at_def d = record { round = get_or d 14 0; count = get_or d 15 0; marks = marks_at_def d }

unfoldable pub call_at : List ℕ → Call
call_at d = record { number = number4_at d; last = number4_at (drop 4 d); high = number4_at (drop 8 d); length = length_at d; tally = tally_at_def d }

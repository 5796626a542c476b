-- What private functions promise each other; no public contract names these.
-- The slots of a list of candidates, and the order in which they are tried: by rank from the highest down, the first among equals.
use Rattle.std.specs.Prelude.{cond, List, ℕ, zero, suc, ◌+◌, ◌-◌, ◌*◌, ◌%◌, ltb, max, Option, Some, None}
use Rattle.cluster.specs.Config.{Config}
use Rattle.protocol.specs.Values.{rank, candidate_size_def}
use Rattle.protocol.specs.View.{stamp_at_def}
use Rattle.format.specs.Reading.{bytes_at}

-- the bytes of slot i of a list
unfoldable pub slot_of : Config → List ℕ → ℕ → List ℕ
slot_of s y i = bytes_at y (candidate_size_def s * i) (candidate_size_def s)

-- the rank of slot i, at most 255: no two slots have one, and the earlier of equals is higher
unfoldable pub rank_of : Config → List ℕ → ℕ → ℕ
rank_of s y i = 256 * rank (stamp_at_def (slot_of s y i)) + (255 - i)

unfoldable pub slot_with_def : ℕ → ℕ
slot_with_def r = 255 - r % 256

-- the higher of a rank, if there is one, and another
abbrev pub higher_of : Option ℕ → ℕ → Option ℕ
higher_of None r = Some r
higher_of (Some a) r = Some (max a r)

-- the highest rank below bound among the first n slots, if there is one
unfoldable pub next_rank_def : Config → List ℕ → ℕ → ℕ → Option ℕ
next_rank_def s y zero bound = None
next_rank_def s y (suc n) bound =
    cond (ltb (rank_of s y n) bound) (higher_of (next_rank_def s y n bound) (rank_of s y n)) (next_rank_def s y n bound)

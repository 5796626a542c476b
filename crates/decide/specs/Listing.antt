-- The list of candidates, slot by slot. A slot is counted from 0: slot i is that of server i + 1.
use Rattle.std.specs.Prelude.{Bool, false, cond, not, ◌&&◌, ◌||◌, List, ℕ, zero, suc, ltb, eqb, length}
use Rattle.cluster.specs.Config.{shelf}
use Rattle.cluster.specs.Ranges.{within, top_faults}
use Rattle.protocol.specs.Values.{Candidate, same_candidate, is_blank_def}
use Rattle.protocol.specs.Rules.{ByServer, any, gather}
use Rattle.protocol.specs.View.{kept_size, candidates_in}

-- the arguments mean a shelf's kept bytes: t in its range, and their length
unfoldable pub usable : ℕ → List ℕ → Bool
usable t kept = within 1 top_faults t && eqb (length kept) kept_size

-- server i's candidate enters the list: it is not blank, and the servers before it have put no equal one
unfoldable pub enters : ByServer Candidate → ℕ → Bool
enters g zero = false
enters g (suc n) = not (is_blank_def (g (suc n)).stamp || any (same_candidate (g (suc n))) (gather g n))

-- slot i is listed; of other arguments nothing is
unfoldable pub listed_in : ℕ → List ℕ → ℕ → Bool
listed_in t kept i = usable t kept && (ltb i (shelf t).servers && enters (candidates_in (shelf t) kept) (suc i))

-- how many are listed
unfoldable pub listed_count : ℕ → List ℕ → ℕ
listed_count t kept = cond (usable t kept) (length (gather (candidates_in (shelf t) kept) (shelf t).servers)) 0

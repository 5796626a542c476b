-- How far the round in hand has come: its number, which servers have replied in it, and how many. The marks decide, and not the count beside them.
use Rattle.std.specs.Prelude.{Bool, cond, List, ℕ, zero, suc, ◌+◌, ◌^◌}
use Rattle.cluster.specs.Ranges.{most_servers}
use Rattle.cluster.specs.Refusals.{on_refusal}
use Rattle.protocol.specs.declared.Call.{Call}
use Rattle.protocol.specs.Rules.{ByServer, count_to}
use Rattle.protocol.specs.View.{marked}
use Rattle.protocol.specs.ClientBytes.{in_hand}
use Rattle.state.specs.State.{call_at}
use Rattle.embed.specs.Packing.{packed}
use Rattle.embed.specs.Clients.{sized}

-- the marked ones of servers 1 to n, server i as bit i - 1
unfoldable pub bits_to : ℕ → ByServer Bool → ℕ
bits_to zero m = 0
bits_to (suc n) m = cond (m (suc n)) (2 ^ n) 0 + bits_to n m

-- 1 clock, 2 store, 3 complete, 4 collect, 5 filter, 6 repair; 0 where no call is in hand
unfoldable pub round_now : Call → ℕ
round_now c = cond (in_hand c) c.tally.round 0

unfoldable pub round_told : Call → ℕ
round_told c = let m = marked c.tally.marks in packed 0 (round_now c) (bits_to most_servers m) (count_to most_servers m)

unfoldable pub round_in : List ℕ → ℕ
round_in d = let n = sized d in on_refusal n (round_told (call_at d)) (packed n 0 0 0)

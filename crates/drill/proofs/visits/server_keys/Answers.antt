-- Key after key. Assumes nothing.
use Rattle.std.proofs.Common.{[], ◌≡◌, ℕ, ◌+◌, ◌<◌, get_or, replicate, rules}
use Rattle.drill.proofs.Visiting.{keys_are}
use Rattle.drill.proofs.visits.server_keys.Goals as goal

pub returns : goal.returns
returns c =
    let each : (i : ℕ) → i < 13 → get_or c.from_fn.result i [] ≡ replicate 32 (i + 1) =
    λ i h. let (a, b, k) = c.from_fn.ensures.items.at i [] h in search rules in
    keys_are 0 c.from_fn.result c.from_fn.ensures.items.long each

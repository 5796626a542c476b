-- No number of a plan is large, so that the machine's arithmetic is that of the definitions: each length is a sum over a shelf of at most 13 servers,
-- and each product is of two such numbers. By counting. Nothing is assumed.
use Prim.Native.Nat.{ℕ, ◌+◌, ◌*◌, ◌≤◌}
use native.Mathlib.Nat.{mul-le-mul}
use native.Mathlib.Omega.{arith}
use Rattle.cluster.specs.Config.{shelf}
use Rattle.cluster.specs.Ranges.{top_faults, most_servers, top_length}
use Rattle.erasure.specs.Fragments.{fragment_size_def}
use Rattle.protocol.specs.Values.{candidate_size_def}
use Rattle.protocol.specs.Packet.{share_size_def}
use Rattle.wire.proofs.Lengths.{fragment-few}
use Rattle.planner.specs.Plan.{stored_size_def}

-- more than any of them
abbrev pub plenty : ℕ
plenty = 4096

pub servers-most : (t : ℕ) → t ≤ top_faults → (shelf t).servers ≤ most_servers
unfolding shelf
servers-most t h = omega arith

pub candidate-most : (t : ℕ) → t ≤ top_faults → candidate_size_def (shelf t) ≤ plenty
unfolding shelf
candidate-most t h = omega arith

few : (t n : ℕ) → fragment_size_def (t + 1) n ≤ n + t
few t n = unfold shelf in fragment-few t n

pub share-most : (t n : ℕ) → t ≤ top_faults → n ≤ top_length → share_size_def (shelf t) n ≤ plenty
unfolding share_size_def shelf
share-most t n h l = omega (arith, few t n)

pub stored-most : (t n : ℕ) → t ≤ top_faults → n ≤ top_length → stored_size_def (shelf t) n ≤ plenty
unfolding share_size_def shelf
stored-most t n h l = omega (arith, few t n)

pub product-most : (a b : ℕ) → a ≤ plenty → b ≤ plenty → a * b ≤ plenty * plenty
product-most a b h l = mul-le-mul h l

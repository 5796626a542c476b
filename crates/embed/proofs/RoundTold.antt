-- What cendrulas_client_round tells: the bits and the count of the marks, server by server, and the round in hand.
-- A bit is below the next server's, so that their sum has room in 13 bits. By induction over the servers. Assumes nothing.
use mathlib.Core.Path.{◌≡◌, refl}
use mathlib.Core.Logic.{◌≢◌}
use mathlib.Core.Bool.{Bool, true, false, cond}
use mathlib.Core.List.{List}
use Prim.Native.Nat.{ℕ, zero, suc, ◌+◌, ◌^◌, ◌≤◌, ◌<◌}
use native.Mathlib.Nat.{pow-succ', pow-le-pow_right}
use native.Mathlib.Omega.{arith}
use lib.Dec.{lit<}
use lib.ListN.{get_or}
use borrow.Author.Tests.{eq-eqb, ne_eqb}
use Rattle.cluster.specs.Ranges.{within, most_servers}
use Rattle.cluster.proofs.Tests.{within_in, within-high}
use Rattle.protocol.specs.declared.Call.{Call}
use Rattle.protocol.specs.Rules.{ByServer, count_to}
use Rattle.protocol.specs.View.{marked}
use Rattle.protocol.specs.ClientBytes.{in_hand}
use Rattle.embed.specs.Rounds.{bits_to, round_now}

-- ---- bits and counts, one more server at a time

add-one : (n : ℕ) → n + 1 ≡ suc n
add-one n = omega arith

pub bits_none : (m : ByServer Bool) → bits_to 0 m ≡ 0
unfolding bits_to
bits_none m = refl

pub count_none : (m : ByServer Bool) → count_to 0 m ≡ 0
unfolding count_to
count_none m = refl

-- the mark of server n + 1
module _ (ms : List ℕ) (n : ℕ) where
  pub bits_more : get_or ms n 0 ≢ 0 → bits_to (n + 1) (marked ms) ≡ bits_to n (marked ms) + 2 ^ n
  unfolding bits_to marked
  bits_more e = rw (add-one, ne_eqb (get_or ms n 0) 0 e) (omega arith)

  pub bits-same : get_or ms n 0 ≡ 0 → bits_to (n + 1) (marked ms) ≡ bits_to n (marked ms)
  unfolding bits_to marked
  bits-same e = rw (add-one, eq-eqb (get_or ms n 0) 0 e) (omega arith)

  pub count_more : get_or ms n 0 ≢ 0 → count_to (n + 1) (marked ms) ≡ count_to n (marked ms) + 1
  unfolding count_to marked
  count_more e = rw (add-one, ne_eqb (get_or ms n 0) 0 e) (omega arith)

  pub count-same : get_or ms n 0 ≡ 0 → count_to (n + 1) (marked ms) ≡ count_to n (marked ms)
  unfolding count_to marked
  count-same e = rw (add-one, eq-eqb (get_or ms n 0) 0 e) (omega arith)

-- a bit of the servers 1 to 13, and of one more
pub bit-room : (n : ℕ) → n ≤ most_servers → 2 ^ n ≤ 8192
bit-room n h = pow-le-pow_right {n = 2} (lit< tt) h

pub for-le : (b : Bool) (n : ℕ) → cond b n 0 ≤ n
for-le true n = omega arith
for-le false n = omega arith

pub bits_below : (n : ℕ) (m : ByServer Bool) → bits_to n m < 2 ^ n
unfolding bits_to
bits_below zero m = lit< tt
bits_below (suc n) m = omega (arith, bits_below n m, for-le (m (suc n)) (2 ^ n), pow-succ' 2 n)

-- ---- the round

pub round-low : (c : Call) → c.tally.round ≤ 6 → round_now c ≡ c.tally.round
unfolding round_now in_hand
round-low c h = go c.tally.round h
  where
    go : (r : ℕ) → r ≤ 6 → cond (within 1 6 r) r 0 ≡ r
    go zero k = refl
    go (suc r) k = rw (within_in 1 6 (suc r) (omega arith) k) refl

pub round-high : (c : Call) → 6 < c.tally.round → round_now c ≡ 0
unfolding round_now in_hand
round-high c h = rw (within-high 1 6 c.tally.round (omega arith) h) refl

pub ruleset rounds = (round-low, round-high)

-- ---- the answer

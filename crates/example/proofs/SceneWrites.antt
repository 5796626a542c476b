-- The example's writes: the worlds that client 1's write leads through, with a liar that answers each round, and client 2's write up to its first
-- reply.
-- What each exchange does is computed; tags and digests stand in it as they are.
-- Assumes nothing.
use mathlib.Core.Path.{refl, ap}
use mathlib.Core.Bool.{Bool, true, cond}
use mathlib.Core.List.{[], ◌∷◌}
use Prim.Native.Nat.{ℕ}
use native.Mathlib.Omega.{arith}
use Rattle.cluster.specs.Config.{shelf, quorum}
use Rattle.format.specs.Format.{byte, such}
use Rattle.protocol.specs.Values.{blank_stamp, blank_candidate, is_blank_def, below}
use Rattle.protocol.specs.Packet.{clock_reply, store_reply, complete_reply, code_f}
use Rattle.protocol.specs.Memory.{lookup}
use Rattle.protocol.specs.Rules.{ByServer, upd, nobody, count_to}
use Rattle.protocol.specs.Server.{Server, on_store_def, raise, act, barred, reply_to, server_refusal, blank_server}
use Rattle.protocol.specs.Client.{Hand, Turn, Result, new_client, more, written, idle, clocking, storing, completing, awaits, is_idle, stamp_of}
use Rattle.protocol.specs.Client.{candidate_made, shares_made, prepared, made, onto, checks, higher, is_full_def, update, too_high, make_refusal_def}
use Rattle.protocol.specs.Client.{take_refusal, turn_on, high_at, begun}
use Rattle.runs.specs.Runs.{Lent}
use Rattle.runs.proofs.ValueRuns.{World}
use Rattle.example.proofs.Playing.{Hashing, functions, desk, s, nonce1}
use Rattle.example.proofs.ServeSteps.{served}
use Rattle.example.proofs.TakeSteps.{took}
use Rattle.example.proofs.CallSteps.{began}
use Rattle.example.proofs.Talks.{Talk, talk_of}
use Rattle.example.proofs.Lies.{Lie, lie_of}
use Rattle.example.proofs.Scene.{content1, label1, pieces, cand, share, stored, high_stamp, high_unchecked, holding, blank_one}
use Rattle.example.proofs.SceneBytes.{stamp-bytes, cand-bytes, share-bytes, high-bytes, high-ok}
use Rattle.example.proofs.Printed.{StampBytes, bytes_ok}

-- ---- keys that are lent, marks and turns

-- a writer's keys are the shelf's own
abbrev pub ours : Lent
ours = record { writers = desk.writers; keys = desk.keys }

abbrev pub one : ByServer Bool
one = upd nobody 1 true

abbrev pub one_two : ByServer Bool
one_two = upd one 2 true

-- a client in its first call, with the number of its last stamp, marks and hand
abbrev pub goes : ℕ → ByServer Bool → Hand → Turn
goes k m h = record { client = record { calls = 1; last = k; marks = m; hand = h }; result = more }

abbrev pub ends : ℕ → Result → Turn
ends k r = record { client = record { calls = 1; last = k; marks = nobody; hand = idle }; result = r }

blank-bytes : StampBytes blank_stamp
blank-bytes = record { number = omega arith; writer = omega arith; tag = bytes_ok _ refl }

abbrev pub clocks : Hand
clocks = clocking content1 nonce1 0

module _ (H : Hashing) where
  -- ---- client 1's write

  abbrev pub stores : Hand
  stores = storing (cand H) (shares_made (functions H) (s H).config 1 (s H).writers (s H).keys content1 nonce1 1)

  abbrev pub completes : Hand
  completes = completing (cand H)

  -- server b keeps the write
  abbrev pub keeping : ℕ → Server
  keeping b = record { latest = blank_candidate (s H).config; history = stored H b ∷ [] }

  unfoldable pub w0 : World
  w0 = record { client = λ c. new_client; server = λ b. blank_server (s H).config }

  unfoldable pub w1 : World
  w1 = began H w0 1 clocks

  -- clock
  unfoldable pub w2 : World
  w2 = took H w1 1 (goes 0 one clocks)

  unfoldable pub w3 : World
  w3 = took H (served H w2 2 (blank_one H)) 1 (goes 0 one_two clocks)

  unfoldable pub w4 : World
  w4 = took H (served H w3 3 (blank_one H)) 1 (goes 1 nobody stores)

  -- store
  unfoldable pub w5 : World
  w5 = took H w4 1 (goes 1 one stores)

  unfoldable pub w6 : World
  w6 = took H (served H w5 2 (keeping 2)) 1 (goes 1 one_two stores)

  unfoldable pub w7 : World
  w7 = took H (served H w6 3 (keeping 3)) 1 (goes 1 nobody completes)

  -- complete
  unfoldable pub w8 : World
  w8 = took H w7 1 (goes 1 one completes)

  unfoldable pub w9 : World
  w9 = took H (served H w8 2 (holding H 2)) 1 (goes 1 one_two completes)

  unfoldable pub w10 : World
  w10 = took H (served H w9 3 (holding H 3)) 1 (ends 1 (written label1))

  -- the exchanges of its rounds. The liar's clock reply has a high number, whose tag does not check
  pub record Writes : Type 0 where
    pub clock-1 : Lie H w1 1 ours (clock_reply (high_stamp H)) (goes 0 one clocks)
    pub clock-2 : Talk H w2 1 2 ours (blank_one H) (clock_reply blank_stamp) (goes 0 one_two clocks)
    pub clock-3 : Talk H w3 1 3 ours (blank_one H) (clock_reply blank_stamp) (goes 1 nobody stores)
    pub store-1 : Lie H w4 1 ours (store_reply 0) (goes 1 one stores)
    pub store-2 : Talk H w5 1 2 ours (keeping 2) (store_reply 0) (goes 1 one_two stores)
    pub store-3 : Talk H w6 1 3 ours (keeping 3) (store_reply 0) (goes 1 nobody completes)
    pub complete-1 : Lie H w7 1 ours complete_reply (goes 1 one completes)
    pub complete-2 : Talk H w8 1 2 ours (holding H 2) complete_reply (goes 1 one_two completes)
    pub complete-3 : Talk H w9 1 3 ours (holding H 3) complete_reply (ends 1 (written label1))

  pub writes : Writes
  unfolding w0 w1 w2 w3 w4 w5 w6 w7 w8 w9 upd nobody begun shelf quorum awaits is_idle
      made make_refusal_def take_refusal server_refusal barred act on_store_def lookup raise below turn_on high_at update too_high is_full_def count_to higher checks
      is_blank_def onto reply_to prepared cand candidate_made stamp_of shares_made share high_stamp code_f such byte
  writes =
      record {
        clock-1 = lie_of H w1 1 ours _ _ refl (λ own. (refl, refl)) (high-ok H) (high-bytes H)
            (ap (λ (q : Bool). goes 0 one (clocking content1 nonce1 (cond q 99999998 0))) (high_unchecked H));
        clock-2 = talk_of H w2 1 2 ours (blank_one H) _ _ refl (λ own. (refl, refl)) tt blank-bytes refl refl;
        clock-3 = talk_of H w3 1 3 ours (blank_one H) _ _ refl (λ own. (refl, refl)) tt blank-bytes refl refl;
        store-1 = lie_of H w4 1 ours (store_reply 0) _ refl (λ own. (refl, refl)) (refl, (omega arith, omega arith)) (omega arith) refl;
        store-2 = talk_of H w5 1 2 ours (keeping 2) (store_reply 0) _ refl (λ own. (refl, refl)) (stamp-bytes H, share-bytes H 2 pieces.1)
            (omega arith) refl refl;
        store-3 = talk_of H w6 1 3 ours (keeping 3) (store_reply 0) _ refl (λ own. (refl, refl)) (stamp-bytes H, share-bytes H 3 pieces.2)
            (omega arith) refl refl;
        complete-1 = lie_of H w7 1 ours complete_reply _ refl (λ own. (refl, refl)) tt tt refl;
        complete-2 = talk_of H w8 1 2 ours (holding H 2) complete_reply _ refl (λ own. (refl, refl)) (cand-bytes H) tt refl refl;
        complete-3 = talk_of H w9 1 3 ours (holding H 3) complete_reply _ refl (λ own. (refl, refl)) (cand-bytes H) tt refl refl;
      }

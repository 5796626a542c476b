-- The vocabulary of the proof: a system's runs on values, the ways into a moment and the account of runs, the writes that have a stamp (marks)
-- with what they send, and the laws of digest, tag, fragments and packets that the proof rests on. The laws are proved for the real functions in
-- the module Real.
-- Assumes nothing.
use mathlib.Core.Path.{◌≡◌}
use mathlib.Core.Bool.{Bool, true, false, cond}
use mathlib.Core.List.{List, [], ◌∷◌, ◌++◌, map}
use mathlib.Core.Option.{Option, some}
use Prim.Native.Nat.{ℕ, ◌≤◌}
use lib.Dec.{eqb}
use lib.ListN.{length}
use Rattle.cluster.specs.Ranges.{within, top_client}
use Rattle.hmac.specs.Hmac.{tag_size}
use Rattle.protocol.specs.declared.Stamp.{Stamp}
use Rattle.format.specs.Format.{Bytes}
use Rattle.protocol.specs.Values.{Candidate, Share, Write, nth, run_of, digest_size, no_share}
use Rattle.protocol.specs.Packet.{Body, Packet, decode}
use Rattle.protocol.specs.Primitives.{stamp_message_def, candidate_message}
use Rattle.protocol.specs.Rules.{ByServer, upd}
use Rattle.protocol.specs.Server.{Server, Acted, blank_server, by_history_def, by_tag, valid, best, act}
use Rattle.protocol.specs.Client.{Client, Hand, Result, Turn, is_full_def, update, stamp_of, tags_of, prepared}
use Rattle.runs.specs.Runs.{Step, Account, steps, sent_of}
use Rattle.runs.proofs.ValueRuns.{World, After, do_values, now_values}
use Rattle.atomicity.specs.Lists.{All, AllPairs}
use Rattle.atomicity.specs.Steps.{StepIn, System, Stamped, stamped_at}

abbrev pub Run : System → Type 0
Run s = List (StepIn s)

module _ (s : System) where
  abbrev pub perform : World → Step → After
  perform w x = do_values s.P s.config s.writers s.keys w x

  abbrev pub now : Run s → World
  now xs = now_values s.P s.config s.writers s.keys (steps xs)

  -- ---- the ways into a moment, the one after the steps xs: its clients and servers, and what a step x then gives

  abbrev pub client_at_def : Run s → ℕ → Client
  client_at_def xs c = (now xs).client c

  abbrev pub server_at_def : Run s → ℕ → Server
  server_at_def xs b = (now xs).server b

  abbrev pub result_at : StepIn s → Run s → Result
  result_at x xs = (perform (now xs) x.step).result

  abbrev pub sent_at : StepIn s → Run s → Option Packet
  sent_at x xs = (perform (now xs) x.step).sent

  -- a client's hand, the number of its calls, that of its last stamp, and who has replied in its round
  abbrev pub hand_at : Run s → ℕ → Hand
  hand_at xs c = (client_at_def xs c).hand

  abbrev pub calls_at : Run s → ℕ → ℕ
  calls_at xs c = (client_at_def xs c).calls

  abbrev pub last_at : Run s → ℕ → ℕ
  last_at xs c = (client_at_def xs c).last

  abbrev pub replied_at : Run s → ℕ → ByServer Bool
  replied_at xs c = (client_at_def xs c).marks

  -- a server's latest stamp and its history
  abbrev pub latest_at : Run s → ℕ → Stamp
  latest_at xs b = (server_at_def xs b).latest.stamp

  abbrev pub history_at : Run s → ℕ → List Write
  history_at xs b = (server_at_def xs b).history

  -- what by_values tells, field by field
  abbrev pub account : Account (StepIn s)
  account =
      record {
        result = result_at;
        sent = λ x xs. sent_of (sent_at x xs);
        client = client_at_def;
        server = λ xs b. cond (within 1 s.config.servers b) (server_at_def xs b) (blank_server s.config);
      }

  -- ---- a server's rules with its own key

  abbrev pub acts : ℕ → Server → Body → Acted
  acts j v x = act s.P s.config (s.keys j) j v x

  abbrev pub vouched : ℕ → Server → Candidate → Bool
  vouched j v c = by_history_def s.P s.config (s.keys j) j v c

  abbrev pub tagged : ℕ → Candidate → Bool
  tagged j c = by_tag s.P s.config (s.keys j) j c

  abbrev pub is_valid : ℕ → Server → Candidate → Bool
  is_valid j v c = valid s.P s.config (s.keys j) j v c

  abbrev pub best_of : ℕ → Server → Candidate → List Candidate → Candidate
  best_of j v c cs = best s.P s.config (s.keys j) j v c cs

  -- ---- a client's rules with the shelf's keys

  abbrev pub updated : ℕ → Client → ℕ → Body → ByServer Bool → Bool → Hand → Turn
  updated c cl b x m full h = update s.P s.config c s.writers s.keys cl b x m full h

  abbrev pub turn : ℕ → Client → Packet → Turn
  turn c cl p =
      updated c cl p.head.server p.body (upd cl.marks p.head.server true) (is_full_def s.config (upd cl.marks p.head.server true))
      cl.hand

  abbrev pub stamp_for : ℕ → ℕ → Stamp
  stamp_for c k = stamp_of s.P s.config c s.writers s.keys k

  abbrev pub prepared_for : ℕ → List ℕ → List ℕ → ℕ → Hand
  prepared_for c r n k = prepared s.P s.config c s.writers s.keys r n k

  abbrev pub fragment_for : List ℕ → ℕ → List ℕ
  fragment_for r i = s.P.fragment s.config.points s.config.threshold r i

  -- ---- what a write that has its stamp sends

  abbrev pub tags_for : Stamped → List ℕ
  tags_for m = tags_of s.P s.config m.client s.writers s.keys m.stamp m.nonce

  abbrev pub candidate_for : Stamped → Candidate
  candidate_for m = record { stamp = m.stamp; nonce = m.nonce; tags = tags_for m }

  abbrev pub share_for : Stamped → ℕ → Share
  share_for m b =
      record {
        size = length m.content;
        fragment = fragment_for m.content b;
        digests = run_of s.config.servers (λ i. s.P.digest (fragment_for m.content i));
        nonce_digest_def = s.P.digest m.nonce;
        tags = tags_for m;
      }

  abbrev pub shares_for : Stamped → ByServer Share
  shares_for m b = cond (within 1 s.config.servers b) (share_for m b) no_share

  abbrev pub write_for : Stamped → ℕ → Write
  write_for m b = record { stamp = m.stamp; share = share_for m b }

  -- the writes that have got a stamp, newest first
  unfoldable pub marks : Run s → List Stamped
  marks [] = []
  marks (x ∷ xs) = stamped_at s account x xs ++ marks xs

  -- ---- the laws that the proof rests on

  pub record Laws : Type 0 where
    -- bytes that were sent and decode to p were sent as p
    pub reads : (x : StepIn s) (xs : Run s) (p : Packet) → decode (sent_of (sent_at x xs)) ≡ some p → sent_at x xs ≡ some p
    -- the ranges of a packet's head
    pub heads : (b : List ℕ) (p : Packet) → decode b ≡ some p → p.head.t ≡ s.config.t
        → (1 ≤ p.head.client) × (p.head.client ≤ top_client) × (1 ≤ p.head.server) × (p.head.server ≤ s.config.servers)
    -- entry i of a run
    pub digest_at : (f : ℕ → List ℕ) (i : ℕ) → 1 ≤ i → i ≤ s.config.servers →
        nth digest_size (run_of s.config.servers (λ j. s.P.digest (f j))) i ≡ s.P.digest (f i)
    pub tag_at : (k f : ℕ → List ℕ) (i : ℕ) → 1 ≤ i → i ≤ s.config.servers →
        nth tag_size (run_of s.config.servers (λ j. s.P.tag (k j) (f j))) i ≡ s.P.tag (k i) (f i)
    -- the tagged bytes tell what is tagged
    pub stamp_inj : (a b c d : ℕ) → stamp_message_def a b ≡ stamp_message_def c d → (a ≡ c) × (b ≡ d)
    pub candidate_inj : (a b : Stamp) (m n : List ℕ) → candidate_message a (s.P.digest m) ≡ candidate_message b (s.P.digest n) → (a ≡ b)
        × (s.P.digest m ≡ s.P.digest n)
    pub apart : (a : Stamp) (m : List ℕ) (c d : ℕ) → candidate_message a (s.P.digest m) ≡ stamp_message_def c d → ⊥
    -- k fragments of different servers give a content back
    pub restores : (r : List ℕ) → Bytes r → (is : List ℕ) → AllPairs (λ a b. eqb a b ≡ false) is → All (λ i. (1 ≤ i) × (i ≤ s.config.servers)) is →
        s.config.threshold ≤ length is
        → s.P.restored s.config.points s.config.threshold (length r) (map (λ i. record { server = i; bytes = fragment_for r i }) is) ≡ r

-- A pending call (Algorithms 4 and 6 as document 01, "The client", amends them): its rounds, what a write makes, its packets, and what a reply holds,
-- on values. Document 01 says call in hand for pending call and giving up for abort.
-- `new_client` is for the proof; the contracts have `new_call_def` of ClientBytes.
use Rattle.std.specs.Prelude.{Bool, true, false, cond, List, ℕ, leb, eqb, length}
use Rattle.cluster.specs.Config.{Config}
use Rattle.cluster.specs.Ranges.{within}
use Rattle.protocol.specs.declared.Stamp.{Stamp}
use Rattle.protocol.specs.declared.Label.{Label}
use Rattle.protocol.specs.Values.{Candidate, Share, Held, run_of, blank_stamp, blank_candidate, no_held, no_share}
use Rattle.protocol.specs.Packet.{Body, Packet, kind_of, clock, clock_reply, store, store_reply, complete, complete_reply, collect, collect_reply, filter, filter_reply, repair, repair_reply}
use Rattle.protocol.specs.Primitives.{Primitives, stamp_message_def, candidate_message}
use Rattle.protocol.specs.Rules.{ByServer, nobody}

-- ---- the state

-- a pending call by its round
pub data Hand : Type 0 where
  idle : Hand
  -- high: the highest number so far
  clocking : (content nonce : List ℕ) → (high : ℕ) → Hand
  -- the candidate that the write will show, and each server's share
  storing : (candidate : Candidate) → (shares : ByServer Share) → Hand
  completing : (candidate : Candidate) → Hand
  -- what each server sent
  collecting : (sent : ByServer Candidate) → Hand
  -- the list as collect left it, and what each server replied
  filtering : (list : List Candidate) → (replies : ByServer Held) → Hand
  -- the candidate with the proven tags, and the content read
  repairing : (candidate : Candidate) → (content : List ℕ) → Hand

pub record Client : Type 0 where
  -- the number of the last call. Amended: one counter for writes and reads takes the place of ts and tsr in every packet
  pub calls : ℕ
  -- the number of the last stamp made
  pub last : ℕ
  -- who replied in this round
  pub marks : ByServer Bool
  pub hand : Hand

abbrev pub new_client : Client
new_client = record { calls = 0; last = 0; marks = nobody; hand = idle }

-- the kind of the replies that a round awaits: twice the round's number
unfoldable pub awaits : Hand → ℕ
awaits idle = 0
awaits (clocking content nonce high) = 2
awaits (storing candidate shares) = 4
awaits (completing candidate) = 6
awaits (collecting sent) = 8
awaits (filtering list replies) = 10
awaits (repairing candidate content) = 12

unfoldable pub is_idle : Hand → Bool
is_idle h = eqb (awaits h) 0

-- a write awaits kind 2, 4 or 6
abbrev pub of_write : ℕ → Bool
of_write kind = within 2 6 kind

-- a write in its last round; a read in any
abbrev pub in_complete : Hand → Bool
in_complete h = eqb (awaits h) 6

abbrev pub is_reading : Hand → Bool
is_reading h = leb 8 (awaits h)

pub data Result : Type 0 where
  refused : ℕ → Result
  more : Result
  -- the stamp's number and writer
  written : Label → Result
  -- those of the stamp read, and the content
  gave : Label → List ℕ → Result
  gave_blank : Result
  -- given up, and whether in the complete round
  aborted : Bool → Result

-- the step was done
abbrev pub accepted : Result → Bool
accepted (refused n) = false
accepted more = true
accepted (written k) = true
accepted (gave k r) = true
accepted gave_blank = true
accepted (aborted b) = true

pub record Turn : Type 0 where
  pub client : Client
  pub result : Result

-- ---- what a write makes at the end of clock

module _ (P : Primitives) (s : Config) (client : ℕ) (writers : List ℕ) (keys : ByServer (List ℕ)) where
  -- line 96
  unfoldable pub stamp_of : ℕ → Stamp
  stamp_of k = record { number = k; writer = client; tag = P.tag writers (stamp_message_def k client) }

  -- line 88
  unfoldable pub tags_of : Stamp → List ℕ → List ℕ
  tags_of a nonce = run_of s.servers (λ i. P.tag (keys i) (candidate_message a (P.digest nonce)))

  -- what complete will show (line 90)
  unfoldable pub candidate_made : List ℕ → ℕ → Candidate
  candidate_made nonce k = record { stamp = stamp_of k; nonce = nonce; tags = tags_of (stamp_of k) nonce }

  -- what store sends to server b (lines 87, 102 to 104)
  unfoldable pub share_made : List ℕ → List ℕ → ℕ → ℕ → Share
  share_made r nonce k b =
      record {
        size = length r;
        fragment = P.fragment s.points s.threshold r b;
        digests = run_of s.servers (λ i. P.digest (P.fragment s.points s.threshold r i));
        nonce_digest_def = P.digest nonce;
        tags = tags_of (stamp_of k) nonce;
      }

  unfoldable pub shares_made : List ℕ → List ℕ → ℕ → ByServer Share
  shares_made r nonce k b = cond (within 1 s.servers b) (share_made r nonce k b) no_share

  unfoldable pub prepared : List ℕ → List ℕ → ℕ → Hand
  prepared r nonce k = storing (candidate_made nonce k) (shares_made r nonce k)

-- ---- the packet of the round: lines 93, 104, 107, 140, 141, 158

abbrev pub request : Hand → ℕ → Body
request idle b = collect
request (clocking content nonce high) b = clock
request (storing candidate shares) b = store (record { stamp = candidate.stamp; share = shares b })
request (completing candidate) b = complete candidate
request (collecting sent) b = collect
-- the list as collect left it, whoever has left it since
request (filtering list replies) b = filter list
request (repairing candidate content) b = repair candidate

unfoldable pub made : ℕ → ℕ → Client → ℕ → Packet
made t client cl b =
    let x = request cl.hand b in
    record { head = record { kind = kind_of x; client = client; server = b; t = t; call = cl.calls }; body = x }

-- ---- what a reply of the awaited kind holds

-- of a clock, store, collect or filter reply what f, g, h or k makes of what it holds; d of any other body
abbrev pub on_reply : {A : Type 0} → (Stamp → A) → (ℕ → A) → (Candidate → A) → (Held → A) → A → Body → A
on_reply f g h k d (clock_reply x) = f x
on_reply f g h k d (store_reply x) = g x
on_reply f g h k d (collect_reply x) = h x
on_reply f g h k d (filter_reply x) = k x
on_reply f g h k d clock = d
on_reply f g h k d (store x) = d
on_reply f g h k d (complete x) = d
on_reply f g h k d complete_reply = d
on_reply f g h k d collect = d
on_reply f g h k d (filter x) = d
on_reply f g h k d (repair x) = d
on_reply f g h k d repair_reply = d

abbrev pub stamp_in : Body → Stamp
stamp_in x = on_reply (λ a. a) (λ a. blank_stamp) (λ a. blank_stamp) (λ a. blank_stamp) blank_stamp x

abbrev pub code_in : Body → ℕ
code_in x = on_reply (λ a. 0) (λ a. a) (λ a. 0) (λ a. 0) 0 x

abbrev pub candidate_in : Config → Body → Candidate
candidate_in s x = on_reply (λ a. blank_candidate s) (λ a. blank_candidate s) (λ a. a) (λ a. blank_candidate s) (blank_candidate s) x

abbrev pub held_in_def : Body → Held
held_in_def x = on_reply (λ a. no_held) (λ a. no_held) (λ a. no_held) (λ a. a) no_held x

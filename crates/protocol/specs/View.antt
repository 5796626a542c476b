-- A client's bytes, and the client that they stand for. Every value of the bytes stands for one: they are read by place, and none is refused.
-- A length above 1,024 counts as 1,024, any byte but 0 as 1, and of a number past the servers nothing is told.
use Rattle.std.specs.Prelude.{Bool, false, cond, not, ◌&&◌, List, ℕ, zero, suc, ◌+◌, ◌-◌, ◌*◌, leb, ltb, eqb, drop, get_or}
use Rattle.std.proofs.Math.Option.{none, some}
use Rattle.cluster.specs.Config.{Config}
use Rattle.cluster.specs.Ranges.{within, most_servers, top_length}
use Rattle.hmac.specs.Hmac.{tag_size}
use Rattle.erasure.specs.Fragments.{fragment_size_def}
use Rattle.protocol.specs.declared.Stamp.{Stamp}
use Rattle.protocol.specs.declared.Call.{Call}
use Rattle.format.specs.Format.{value2}
use Rattle.format.specs.Reading.{bytes_at, number4_at}
use Rattle.protocol.specs.Values.{Candidate, Share, Held, blank_candidate, no_held, no_share, digest_size, nonce_size, stamp_size, digests_size_def, tags_size_def}
use Rattle.protocol.specs.Kinds.{round_number}
use Rattle.protocol.specs.declared.rounds.Round.TheVariants as rounds
use Rattle.protocol.specs.Rules.{ByServer, gather}
use Rattle.protocol.specs.Client.{Client, Hand, idle, clocking, storing, completing, collecting, filtering, repairing}

-- ---- readers by place

unfoldable pub stamp_at_def : List ℕ → Stamp
stamp_at_def d = record { number = number4_at d; writer = get_or d 4 0; tag = bytes_at d 5 tag_size }

unfoldable pub candidate_at : Config → List ℕ → Candidate
candidate_at s d = record { stamp = stamp_at_def d; nonce = bytes_at d stamp_size nonce_size; tags = bytes_at d (stamp_size + nonce_size) (tags_size_def s) }

-- a share of a content of n bytes
unfoldable pub share_of_size : Config → ℕ → List ℕ → Share
share_of_size s n d =
    let f = fragment_size_def s.threshold n in
    record {
      size = n;
      fragment = bytes_at d 2 f;
      digests = bytes_at d (2 + f) (digests_size_def s);
      nonce_digest_def = bytes_at d (2 + f + digests_size_def s) digest_size;
      tags = bytes_at d (2 + f + digests_size_def s + digest_size) (tags_size_def s);
    }

unfoldable pub share_at : Config → List ℕ → Share
share_at s d = share_of_size s (value2 (get_or d 0 0) (get_or d 1 0)) d

unfoldable pub held_at : Config → List ℕ → Held
held_at s d = record { stamp = stamp_at_def d; share = cond (eqb (get_or d stamp_size 0) 0) none (some (share_at s (drop (stamp_size + 1) d))) }

-- ---- the kept bytes: content, nonce, the write's or repair's candidate, and for each server a slot for its candidate and one for its share or reply

abbrev pub kept_size : ℕ
kept_size = 24576

-- the places and sizes of its parts, for the most servers; a reply's slot takes the longest reply of any shelf (`legal-fits` of proofs/Room)
abbrev pub nonce_place : ℕ
nonce_place = top_length

abbrev pub chosen_place : ℕ
chosen_place = nonce_place + nonce_size

abbrev pub candidate_slot : ℕ
candidate_slot = stamp_size + nonce_size + tag_size * most_servers

abbrev pub candidates_place : ℕ
candidates_place = chosen_place + candidate_slot

abbrev pub replies_place : ℕ
replies_place = candidates_place + candidate_slot * most_servers

abbrev pub reply_slot : ℕ
reply_slot = 1200

unfoldable pub content_of : Call → List ℕ → List ℕ
content_of c kept = bytes_at kept 0 (cond (leb c.length top_length) c.length top_length)

unfoldable pub nonce_of_def : List ℕ → List ℕ
nonce_of_def kept = bytes_at kept nonce_place nonce_size

unfoldable pub chosen_of : Config → List ℕ → Candidate
chosen_of s kept = candidate_at s (bytes_at kept chosen_place candidate_slot)

unfoldable pub reply_slot_of : List ℕ → ℕ → List ℕ
reply_slot_of kept i = bytes_at kept (replies_place + reply_slot * i) reply_slot

unfoldable pub marked : List ℕ → ByServer Bool
marked ms zero = false
marked ms (suc i) = not (eqb (get_or ms i 0) 0)

-- past the servers there is nothing
unfoldable pub candidates_in : Config → List ℕ → ByServer Candidate
candidates_in s kept zero = blank_candidate s
candidates_in s kept (suc i) = cond (ltb i most_servers) (candidate_at s (bytes_at kept (candidates_place + candidate_slot * i) candidate_slot))
    (blank_candidate s)

unfoldable pub replies_in : Config → List ℕ → List ℕ → ByServer Held
replies_in s ms kept zero = no_held
replies_in s ms kept (suc i) = cond (ltb i most_servers && marked ms (suc i)) (held_at s (reply_slot_of kept i)) no_held

unfoldable pub shares_in : Config → List ℕ → ByServer Share
shares_in s kept b = cond (within 1 s.servers b) (share_at s (reply_slot_of kept (b - 1))) no_share

-- by the round's number; any other: no call in hand
unfoldable pub hand_of : Config → ℕ → Call → List ℕ → Hand
hand_of s r c kept =
    cond (eqb r (round_number rounds.Clock)) (clocking (content_of c kept) (nonce_of_def kept) c.high)
    (cond (eqb r (round_number rounds.Store)) (storing (chosen_of s kept) (shares_in s kept))
    (cond (eqb r (round_number rounds.Complete)) (completing (chosen_of s kept))
    (cond (eqb r (round_number rounds.Collect)) (collecting (candidates_in s kept))
    (cond (eqb r (round_number rounds.Filter)) (filtering (gather (candidates_in s kept) s.servers) (replies_in s c.tally.marks kept))
    (cond (eqb r (round_number rounds.Repair)) (repairing (chosen_of s kept) (content_of c kept)) idle)))))

unfoldable pub view : Config → Call → List ℕ → Client
view s c kept = record { calls = c.number; last = c.last; marks = marked c.tally.marks; hand = hand_of s c.tally.round c kept }

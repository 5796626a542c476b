-- What stands at the places of a packet. A packet that is let through is told by its head and its bytes alone:
-- every field of its body is read by place, in the words of crate protocol's View.
-- `held_size` is for what private functions promise; no public contract names it.
use Rattle.std.specs.Prelude.{Bool, cond, ◌&&◌, List, [], ◌∷◌, ◌++◌, ℕ, zero, suc, ◌+◌, ◌*◌, eqb, length, take, drop, get_or, replicate}
use Rattle.std.proofs.Math.Option.{Option, none, some}
use Rattle.cluster.specs.Config.{Config, shelf}
use Rattle.protocol.specs.declared.Head.{Head}
use Rattle.protocol.specs.declared.Label.{Label}
use Rattle.format.specs.Format.{value2}
use Rattle.protocol.specs.Values.{Candidate, Share, Write, blank_stamp, is_some, label_of, same_list, same_stamp, nonce_size, stamp_size, candidate_size_def}
use Rattle.protocol.specs.Packet.{Body, clock, clock_reply, store, store_reply, complete, complete_reply, collect, collect_reply, filter, filter_reply, repair, repair_reply, Packet, head_size}
unfoldable pub use Rattle.protocol.specs.Packet.{share_size_def}
use Rattle.protocol.specs.View.{stamp_at_def, candidate_at, share_at, held_at}
use Rattle.wire.specs.declared.values.CandidateHead.{CandidateHead}

abbrev pub blank_head : CandidateHead
blank_head = record { stamp = blank_stamp; nonce = replicate nonce_size 0 }

-- equality of candidates without their tags
unfoldable pub same_head : CandidateHead → CandidateHead → Bool
same_head a b = same_stamp a.stamp b.stamp && same_list a.nonce b.nonce

-- the first n bytes, 0 past the end
unfoldable pub padded : ℕ → List ℕ → List ℕ
padded n d = take n (d ++ replicate n 0)

-- the candidate's head at the start of bytes
unfoldable pub head_at_def : List ℕ → CandidateHead
head_at_def d = record { stamp = stamp_at_def (padded stamp_size d); nonce = padded nonce_size (drop stamp_size d) }

-- the record length at the start of a share
unfoldable pub length_at : List ℕ → ℕ
length_at d = value2 (get_or d 0 0) (get_or d 1 0)

unfoldable pub write_at_def : Config → List ℕ → Write
write_at_def s d = record { stamp = stamp_at_def d; share = share_at s (drop stamp_size d) }

-- n candidates, one after the other
unfoldable pub candidate_list : Config → ℕ → List ℕ → List Candidate
candidate_list s zero d = []
candidate_list s (suc n) d = candidate_list s n d ++ (candidate_at s (drop (candidate_size_def s * n) d) ∷ [])

-- bytes of a stamp, a byte 0 or 1 and, after 1, a share
unfoldable pub held_size : Config → List ℕ → ℕ
held_size s d = stamp_size + 1 + cond (eqb (get_or d stamp_size 0) 0) 0 (share_size_def s (length_at (drop (stamp_size + 1) d)))

-- the body of kind k, by the places of its fields
unfoldable pub body_at : Config → ℕ → List ℕ → Body
body_at s k d =
    cond (eqb k 1) clock
    (cond (eqb k 2) (clock_reply (stamp_at_def d))
    (cond (eqb k 3) (store (write_at_def s d))
    (cond (eqb k 4) (store_reply (get_or d 0 0))
    (cond (eqb k 5) (complete (candidate_at s d))
    (cond (eqb k 6) complete_reply
    (cond (eqb k 7) collect
    (cond (eqb k 8) (collect_reply (candidate_at s d))
    (cond (eqb k 9) (filter (candidate_list s (get_or d 0 0) (drop 1 d)))
    (cond (eqb k 10) (filter_reply (held_at s d))
    (cond (eqb k 11) (repair (candidate_at s d)) repair_reply))))))))))

unfoldable pub packet_at : Head → List ℕ → Packet
packet_at h b = record { head = h; body = body_at (shelf h.t) h.kind (drop head_size b) }

-- number and writer of the stamp that a body begins with; those of the blank stamp, 0 and 0, where it begins with none
abbrev pub no_label : Label
no_label = label_of blank_stamp

unfoldable pub body_label : Body → Label
body_label clock = no_label
body_label (clock_reply x) = label_of x
body_label (store x) = label_of x.stamp
body_label (store_reply x) = no_label
body_label (complete x) = label_of x.stamp
body_label complete_reply = no_label
body_label collect = no_label
body_label (collect_reply x) = label_of x.stamp
body_label (filter x) = no_label
body_label (filter_reply x) = label_of x.stamp
body_label (repair x) = label_of x.stamp
body_label repair_reply = no_label

-- the number that a body's reader reads: the record length of a store's share, the code of its reply, the count of a filter, and of its reply the
-- byte that says whether a share follows; 0 where there is none
unfoldable pub body_number : Body → ℕ
body_number clock = 0
body_number (clock_reply x) = 0
body_number (store x) = x.share.size
body_number (store_reply x) = x
body_number (complete x) = 0
body_number complete_reply = 0
body_number collect = 0
body_number (collect_reply x) = 0
body_number (filter x) = length x
body_number (filter_reply x) = cond (is_some x.share) 1 0
body_number (repair x) = 0
body_number repair_reply = 0

-- the fragment of a packet of kind 3 or 10; none in a broken packet and in any other
unfoldable pub fragment_held : Option Share → List ℕ
fragment_held none = []
fragment_held (some h) = h.fragment

unfoldable pub fragment_of : Body → List ℕ
fragment_of clock = []
fragment_of (clock_reply x) = []
fragment_of (store x) = x.share.fragment
fragment_of (store_reply x) = []
fragment_of (complete x) = []
fragment_of complete_reply = []
fragment_of collect = []
fragment_of (collect_reply x) = []
fragment_of (filter x) = []
fragment_of (filter_reply x) = fragment_held x.share
fragment_of (repair x) = []
fragment_of repair_reply = []

unfoldable pub fragment_in : Option Packet → List ℕ
fragment_in none = []
fragment_in (some p) = fragment_of p.body

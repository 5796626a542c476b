-- Packets: a value for each kind, and the bytes that it fixes (document 01, "Packets").
-- The layout goes by the packet's own t. A field out of its range breaks the layout, and so does a byte too many or too few: refusal 7.
-- `PacketOk` is for the laws that packet and fields fix each other; no contract names it.
use Rattle.std.specs.Prelude.{◌≡◌, cond, ◌||◌, List, [], ℕ, ◌+◌, length, leb, eqb}
use Rattle.std.proofs.Math.Option.{Option, none, some}
use Rattle.cluster.specs.Config.{Config, shelf}
use Rattle.cluster.specs.Ranges.{top_faults, most_servers, top_writer, top_client, top_number, top_length}
use Rattle.hmac.specs.Hmac.{tag_size}
use Rattle.erasure.specs.Fragments.{fragment_size_def}
use Rattle.protocol.specs.declared.Stamp.{Stamp}
use Rattle.protocol.specs.declared.Head.{Head}
use Rattle.format.specs.Format.{Fmt, and_then, whole, empty, byte, number2, number4, run, seq, via, such, or_blank, many, optional}
use Rattle.protocol.specs.Kinds.{kind_number}
use Rattle.protocol.specs.declared.kinds.Kind.TheVariants as kinds
use Rattle.protocol.specs.Values.{Candidate, Share, Write, Held, blank_stamp, blank_candidate, digest_size, nonce_size, stamp_size, digests_size_def, tags_size_def, candidate_size_def}

-- ---- the layouts of the parts

-- a stamp: number, writer, tag; and one that may be blank
unfoldable pub stamp_f : Fmt Stamp
stamp_f =
    via (λ x. record { number = x.0; writer = x.1.0; tag = x.1.1 }) (λ s. (s.number, (s.writer, s.tag)))
    (seq (number4 1 top_number) (λ n. seq (byte 1 top_writer) (λ w. run tag_size)))

unfoldable pub any_stamp_f : Fmt Stamp
any_stamp_f = or_blank stamp_size blank_stamp stamp_f

-- a share: record length (amended by W-202: 0 too), fragment, S digests, nonce digest, S tags
unfoldable pub share_f : Config → Fmt Share
share_f s =
    via
    (λ x. record { size = x.0; fragment = x.1.0; digests = x.1.1.0; nonce_digest_def = x.1.1.1.0; tags = x.1.1.1.1 })
    (λ h. (h.size, (h.fragment, (h.digests, (h.nonce_digest_def, h.tags)))))
    (seq (number2 0 top_length)
    (λ n. seq (run (fragment_size_def s.threshold n)) (λ p. seq (run (digests_size_def s)) (λ d. seq (run digest_size) (λ e. run (tags_size_def s))))))

-- the bytes of a share of a content of n bytes
unfoldable pub share_size_def : Config → ℕ → ℕ
share_size_def s n = 2 + fragment_size_def s.threshold n + digests_size_def s + digest_size + tags_size_def s

-- a stored write: its stamp and its share
unfoldable pub write_f : Config → Fmt Write
write_f s = via (λ x. record { stamp = x.0; share = x.1 }) (λ w. (w.stamp, w.share)) (seq stamp_f (λ a. share_f s))

-- a candidate: stamp, nonce, S tags; and one that may be blank, which is then all zero
unfoldable pub candidate_f : Config → Fmt Candidate
candidate_f s =
    via (λ x. record { stamp = x.0; nonce = x.1.0; tags = x.1.1 }) (λ c. (c.stamp, (c.nonce, c.tags)))
    (seq stamp_f (λ a. seq (run nonce_size) (λ n. run (tags_size_def s))))

unfoldable pub any_candidate_f : Config → Fmt Candidate
any_candidate_f s = or_blank (candidate_size_def s) (blank_candidate s) (candidate_f s)

-- a count from 0 to S and so many candidates
unfoldable pub candidates_f : Config → Fmt (List Candidate)
candidates_f s = via (λ x. x.1) (λ l. (length l, l)) (seq (byte 0 s.servers) (λ n. many n (candidate_f s)))

-- a stamp, a byte 0 or 1 and, after 1, a share; a blank stamp is followed by byte 0
abbrev pub held_most_def : Stamp → ℕ
held_most_def a = cond (eqb a.number 0) 0 1

unfoldable pub held_f : Config → Fmt Held
held_f s = via (λ x. record { stamp = x.0; share = x.1 }) (λ h. (h.stamp, h.share)) (seq any_stamp_f (λ a. optional (held_most_def a) (share_f s)))

-- the answer to store: 0, 10 or 11
unfoldable pub code_f : Fmt ℕ
code_f = such (λ c. eqb c 0 || leb 10 c) (byte 0 11)

-- ---- bodies by kind

pub data Body : Type 0 where
  clock : Body
  clock_reply : Stamp → Body
  store : Write → Body
  store_reply : ℕ → Body
  complete : Candidate → Body
  complete_reply : Body
  collect : Body
  collect_reply : Candidate → Body
  filter : List Candidate → Body
  filter_reply : Held → Body
  repair : Candidate → Body
  repair_reply : Body

abbrev pub kind_of : Body → ℕ
kind_of clock = kind_number kinds.Clock
kind_of (clock_reply x) = kind_number kinds.ClockReply
kind_of (store x) = kind_number kinds.Store
kind_of (store_reply x) = kind_number kinds.StoreReply
kind_of (complete x) = kind_number kinds.Complete
kind_of complete_reply = kind_number kinds.CompleteReply
kind_of collect = kind_number kinds.Collect
kind_of (collect_reply x) = kind_number kinds.CollectReply
kind_of (filter x) = kind_number kinds.Filter
kind_of (filter_reply x) = kind_number kinds.FilterReply
kind_of (repair x) = kind_number kinds.Repair
kind_of repair_reply = kind_number kinds.RepairReply

abbrev pub print_body : Config → Body → List ℕ
print_body s clock = []
print_body s (clock_reply x) = any_stamp_f.print x
print_body s (store x) = (write_f s).print x
print_body s (store_reply x) = code_f.print x
print_body s (complete x) = (candidate_f s).print x
print_body s complete_reply = []
print_body s collect = []
print_body s (collect_reply x) = (any_candidate_f s).print x
print_body s (filter x) = (candidates_f s).print x
print_body s (filter_reply x) = (held_f s).print x
print_body s (repair x) = (candidate_f s).print x
print_body s repair_reply = []

abbrev pub BodyOk : Config → Body → Type 0
BodyOk s clock = Unit {0}
BodyOk s (clock_reply x) = any_stamp_f.Ok x
BodyOk s (store x) = (write_f s).Ok x
BodyOk s (store_reply x) = code_f.Ok x
BodyOk s (complete x) = (candidate_f s).Ok x
BodyOk s complete_reply = Unit {0}
BodyOk s collect = Unit {0}
BodyOk s (collect_reply x) = (any_candidate_f s).Ok x
BodyOk s (filter x) = (candidates_f s).Ok x
BodyOk s (filter_reply x) = (held_f s).Ok x
BodyOk s (repair x) = (candidate_f s).Ok x
BodyOk s repair_reply = Unit {0}

abbrev pub parse_body : Config → ℕ → List ℕ → Option (Body × List ℕ)
parse_body s k b =
    cond (eqb k 1) (and_then (empty.parse b) (λ x r. some (clock, r)))
    (cond (eqb k 2) (and_then (any_stamp_f.parse b) (λ x r. some (clock_reply x, r)))
    (cond (eqb k 3) (and_then ((write_f s).parse b) (λ x r. some (store x, r)))
    (cond (eqb k 4) (and_then (code_f.parse b) (λ x r. some (store_reply x, r)))
    (cond (eqb k 5) (and_then ((candidate_f s).parse b) (λ x r. some (complete x, r)))
    (cond (eqb k 6) (and_then (empty.parse b) (λ x r. some (complete_reply, r)))
    (cond (eqb k 7) (and_then (empty.parse b) (λ x r. some (collect, r)))
    (cond (eqb k 8) (and_then ((any_candidate_f s).parse b) (λ x r. some (collect_reply x, r)))
    (cond (eqb k 9) (and_then ((candidates_f s).parse b) (λ x r. some (filter x, r)))
    (cond (eqb k 10) (and_then ((held_f s).parse b) (λ x r. some (filter_reply x, r)))
    (cond (eqb k 11) (and_then ((candidate_f s).parse b) (λ x r. some (repair x, r)))
    (cond (eqb k 12) (and_then (empty.parse b) (λ x r. some (repair_reply, r)))
    none)))))))))))

unfoldable pub body_f : Config → ℕ → Fmt Body
body_f s k = record { Ok = λ x. (kind_of x ≡ k) × BodyOk s x; print = print_body s; parse = parse_body s k }

-- ---- packets

pub record Packet : Type 0 where
  pub head : Head
  pub body : Body

-- the head: kind, client, server, t (1 byte each), call (4 bytes)
unfoldable pub head_f : Fmt Head
head_f =
    such (λ h. leb h.server (shelf h.t).servers)
    (via (λ x. record { kind = x.0; client = x.1.0; server = x.1.1.0; t = x.1.1.1.0; call = x.1.1.1.1 })
    (λ h. (h.kind, (h.client, (h.server, (h.t, h.call)))))
    (seq (byte 1 12) (λ k. seq (byte 1 top_client) (λ c. seq (byte 1 most_servers) (λ b. seq (byte 1 top_faults) (λ t. number4 1 top_number))))))

abbrev pub head_size : ℕ
head_size = 8

unfoldable pub packet_f : Fmt Packet
packet_f = via (λ x. record { head = x.0; body = x.1 }) (λ p. (p.head, p.body)) (seq head_f (λ h. body_f (shelf h.t) h.kind))

unfoldable pub decode : List ℕ → Option Packet
decode b = whole (packet_f.parse b)

-- the refusal of bytes that are no packet
abbrev pub broken_packet : ℕ
broken_packet = 7

unfoldable pub encode : Packet → List ℕ
encode p = packet_f.print p

unfoldable pub PacketOk : Packet → Type 0
PacketOk p = packet_f.Ok p

-- The server (Algorithm 5 as document 01, "The box", amends it): its answer to each request, on values.
-- Document 01 says box for server and stored write for what the paper's Hist holds.
use Rattle.std.specs.Prelude.{Bool, true, false, cond, not, ◌&&◌, ◌||◌, List, [], ◌∷◌, ◌++◌, ℕ, leb, ltb, eqb, length}
use Rattle.std.proofs.Math.Option.{Option, none, some}
use Rattle.cluster.specs.Config.{Config}
use Rattle.cluster.specs.Ranges.{capacity, top_writer, packet_room}
use Rattle.cluster.specs.Refusals.{refuse, first_of}
use Rattle.hmac.specs.Hmac.{tag_size}
use Rattle.protocol.specs.Values.{Candidate, Share, Write, same_list, nth, below, blank_candidate, is_some, of_some}
use Rattle.protocol.specs.Packet.{Body, Packet, kind_of, broken_packet, clock, clock_reply, store, store_reply, complete, complete_reply, collect, collect_reply, filter, filter_reply, repair, repair_reply}
use Rattle.protocol.specs.Kinds.{code_number}
use Rattle.protocol.specs.declared.codes.Code.TheVariants as codes
use Rattle.protocol.specs.Memory.{Memory, lookup, no_record}
use Rattle.protocol.specs.Primitives.{Primitives, candidate_message}

-- lines 110, 111: lc and Hist. Amended: Hist is in order of arrival and has at most 32 stored writes
pub record Server : Type 0 where
  pub latest : Candidate
  pub history : List Write

abbrev pub blank_server : Config → Server
blank_server s = record { latest = blank_candidate s; history = [] }

-- in a memory of t, as server b
abbrev pub memory_of : ℕ → ℕ → Server → Memory
memory_of t b v = record { t = t; server = b; latest = v.latest; writes = v.history }

-- what a request does, and its answer
pub record Acted : Type 0 where
  pub server : Server
  pub reply : Body

abbrev pub has_digest : List ℕ → Option Share → Bool
has_digest d none = false
has_digest d (some h) = same_list h.nonce_digest_def d

-- the latest becomes c if c's stamp is higher
unfoldable pub raise : Candidate → Server → Server
raise c v = cond (below v.latest.stamp c.stamp) (record { latest = c; history = v.history }) v

-- lines 114 to 116. Amended: a held stamp is answered 10 and left as it is, a full history 11, and 0 means kept
unfoldable pub on_store_def : Server → Write → Acted
on_store_def v w =
    cond (is_some (lookup w.stamp v.history)) (record { server = v; reply = store_reply (code_number codes.Held) })
    (cond (leb capacity (length v.history)) (record { server = v; reply = store_reply (code_number codes.Full) })
    (record { server = record { latest = v.latest; history = v.history ++ (w ∷ []) }; reply = store_reply (code_number codes.Kept) }))

module _ (P : Primitives) (s : Config) (key : List ℕ) (number : ℕ) where
  -- line 131: the history holds its stamp with the digest of its nonce, or its tag of this server checks
  unfoldable pub by_history_def : Server → Candidate → Bool
  by_history_def v c = has_digest (P.digest c.nonce) (lookup c.stamp v.history)

  unfoldable pub by_tag : Candidate → Bool
  by_tag c = same_list (nth tag_size c.tags number) (P.tag key (candidate_message c.stamp (P.digest c.nonce)))

  unfoldable pub valid : Server → Candidate → Bool
  valid v c = by_history_def v c || by_tag c

  -- line 123: the highest valid one, or the one given. Amended: the first among equals
  unfoldable pub best : Server → Candidate → List Candidate → Candidate
  best v c [] = c
  best v c (d ∷ ds) = best v (cond (valid v d && below c.stamp d.stamp) d c) ds

  unfoldable pub act : Server → Body → Acted
  -- lines 112, 113
  act v clock = record { server = v; reply = clock_reply v.latest.stamp }
  act v (store w) = on_store_def v w
  -- lines 117 to 119: higher only, and no test of validity
  act v (complete c) = record { server = raise c v; reply = complete_reply }
  -- lines 120, 121
  act v collect = record { server = v; reply = collect_reply v.latest }
  -- lines 122 to 126. Amended: the answer has length and nonce digest too, and says where nothing is held
  act v (filter cs) =
      let c = best v (blank_candidate s) cs in
      record { server = raise c v; reply = filter_reply (record { stamp = c.stamp; share = lookup c.stamp v.history }) }
  -- lines 127 to 129
  act v (repair c) = record { server = cond (valid v c) (raise c v) v; reply = repair_reply }
  -- a reply is no request: refused with 9 before
  act v (clock_reply x) = record { server = v; reply = complete_reply }
  act v (store_reply x) = record { server = v; reply = complete_reply }
  act v complete_reply = record { server = v; reply = complete_reply }
  act v (collect_reply x) = record { server = v; reply = complete_reply }
  act v (filter_reply x) = record { server = v; reply = complete_reply }
  act v repair_reply = record { server = v; reply = complete_reply }

-- refusal 9 of a packet from client c: lines 112, 114 and 117 take requests of writers only. Amended: and a write only from its stamp's writer
unfoldable pub barred : ℕ → Body → Bool
barred c clock = ltb top_writer c
barred c (store w) = ltb top_writer c || not (eqb w.stamp.writer c)
barred c (complete d) = ltb top_writer c || not (eqb d.stamp.writer c)
barred c collect = false
barred c (filter cs) = false
barred c (repair d) = false
barred c (clock_reply x) = true
barred c (store_reply x) = true
barred c complete_reply = true
barred c (collect_reply x) = true
barred c (filter_reply x) = true
barred c repair_reply = true

-- ---- reply and refusals: a packet that breaks the layout is `none`, and room is the output buffer's length

-- the reply to a packet, of the same call
unfoldable pub reply_to : Packet → Body → Packet
reply_to p x =
    record { head = record { kind = kind_of x; client = p.head.client; server = p.head.server; t = p.head.t; call = p.head.call }; body = x }

-- sized: the memory has its length; m: the record that it is; o: the packet
unfoldable pub server_refusal : Bool → Option Memory → Option Packet → ℕ → ℕ
server_refusal sized m o room =
    first_of
    (refuse 1 (not sized) ∷ refuse no_record (not (is_some m)) ∷ refuse broken_packet (not (is_some o))
    ∷ refuse 8 (of_some m (λ k. of_some o (λ p. not (eqb p.head.t k.t && eqb p.head.server k.server))))
    ∷ refuse 9 (of_some o (λ p. barred p.head.client p.body))
    ∷ refuse 15 (ltb room packet_room) ∷ [])

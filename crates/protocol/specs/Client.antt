-- The client (Algorithms 4 and 6 as document 01, "The client", amends them), on values: what a reply does to a pending call, refusals, and steps.
use Rattle.std.specs.Prelude.{Bool, true, false, cond, not, ◌&&◌, ◌||◌, List, [], ◌∷◌, ℕ, suc, leb, ltb, eqb, length}
use Rattle.std.proofs.Math.Option.{Option, none, some}
use Rattle.cluster.specs.Config.{Config, quorum}
use Rattle.cluster.specs.Ranges.{within, top_faults, top_writer, top_client, top_number, top_length, packet_room, content_room}
use Rattle.cluster.specs.Refusals.{refuse, first_of, on_refusal}
use Rattle.protocol.specs.declared.Stamp.{Stamp}
use Rattle.protocol.specs.Values.{Candidate, Held, same_list, label_of, blank_candidate, no_held, is_some, of_some}
use Rattle.protocol.specs.Packet.{Body, Packet, kind_of, broken_packet}
use Rattle.protocol.specs.Primitives.{Primitives, stamp_message_def}
use Rattle.protocol.specs.Rules.{ByServer, upd, nobody, count_to, gather, live, choice, leader, restored_by, tags_in}
-- passed on to those who import the client
pub use Rattle.protocol.specs.Pending.{in_complete, is_reading, of_write, Hand, idle, clocking, storing, completing, collecting, filtering, repairing, Client, new_client, Result, refused, more, written, gave, gave_blank, aborted, accepted, Turn, request, stamp_in, code_in, candidate_in, held_in_def}
unfoldable pub use Rattle.protocol.specs.Pending.{awaits, is_idle, stamp_of, tags_of, candidate_made, share_made, shares_made, prepared, made}

-- ---- a reply is taken

unfoldable pub onto : Client → ByServer Bool → Hand → Client
onto cl m h = record { calls = cl.calls; last = cl.last; marks = m; hand = h }

-- line 100: the tag of a stamp checks (verify)
unfoldable pub checks : Primitives → List ℕ → Stamp → Bool
checks P writers a = same_list a.tag (P.tag writers (stamp_message_def a.number a.writer))

-- line 100. Amended: by the number alone, which is all that the new stamp takes over
unfoldable pub higher : Primitives → List ℕ → ℕ → Stamp → ℕ
higher P writers h a = cond (ltb h a.number && checks P writers a) a.number h

-- lines 94, 105, 108, 159, and 59 and 66 of Algorithm 3: S - t servers have replied
unfoldable pub is_full_def : Config → ByServer Bool → Bool
is_full_def s m = leb (quorum s) (count_to s.servers m)

module _ (P : Primitives) (s : Config) (client : ℕ) (writers : List ℕ) (keys : ByServer (List ℕ)) where
  -- lines 143 to 145, 147 and 154 to 158: c is chosen, and server b leads its group. With other tags than the group's it is repaired first;
  -- the content waits
  unfoldable pub found : Client → ByServer Bool → ByServer Held → Candidate → ℕ → Turn
  found cl m g c b =
      let content = restored_by P s m g c b (g b).share in
      let tags = tags_in P s c (g b).share in
      cond (same_list tags c.tags) (record { client = onto cl nobody idle; result = gave (label_of c.stamp) content })
      (record { client = onto cl nobody (repairing (record { stamp = c.stamp; nonce = c.nonce; tags = tags }) content); result = more })

  -- lines 141, 142 and 146, of those still in the list and of the choice; without a choice the wait of line 66 goes on
  unfoldable pub judge : Client → ByServer Bool → List Candidate → ByServer Held → List Candidate → Option Candidate → Turn
  judge cl m cs g [] o = record { client = onto cl nobody idle; result = gave_blank }
  judge cl m cs g (l ∷ ls) none = record { client = onto cl m (filtering cs g); result = more }
  judge cl m cs g (l ∷ ls) (some c) = found cl m g c (leader P s m g c s.servers)

  -- an accepted reply of a server, with what it holds; marks: with that server's; full: they are a quorum
  unfoldable pub update : Client → ℕ → Body → ByServer Bool → Bool → Hand → Turn
  update cl server reply marks full idle = record { client = cl; result = more }
  -- lines 94 to 100
  update cl server reply marks full (clocking content nonce high) =
      let top = higher P writers high (stamp_in reply) in
      cond full
      (record {
        client = record { calls = cl.calls; last = suc top; marks = nobody; hand = prepared P s client writers keys content nonce (suc top) };
        result = more;
      })
      (record { client = onto cl marks (clocking content nonce top); result = more })
  -- line 105. Amended: 11 changes nothing and isn't counted
  update cl server reply marks full (storing candidate shares) =
      cond (eqb (code_in reply) 11) (record { client = cl; result = more })
      (cond full (record { client = onto cl nobody (completing candidate); result = more })
      (record { client = onto cl marks (storing candidate shares); result = more }))
  -- line 108
  update cl server reply marks full (completing candidate) =
      cond full (record { client = onto cl nobody idle; result = written (label_of candidate.stamp) })
      (record { client = onto cl marks (completing candidate); result = more })
  -- lines 148 to 150; filter is sent even when the list is empty
  update cl server reply marks full (collecting sent) =
      let now = upd sent server (candidate_in s reply) in
      cond full (record { client = onto cl nobody (filtering (gather now s.servers) (λ i. no_held)); result = more })
      (record { client = onto cl marks (collecting now); result = more })
  -- lines 151 to 153
  update cl server reply marks full (filtering list replies) =
      let now = upd replies server (held_in_def reply) in
      cond full (judge cl marks list now (live P s marks now list) (choice P s marks now list))
      (record { client = onto cl marks (filtering list now); result = more })
  -- line 159
  update cl server reply marks full (repairing candidate content) =
      cond full (record { client = onto cl nobody idle; result = gave (label_of candidate.stamp) content })
      (record { client = onto cl marks (repairing candidate content); result = more })

-- the stamp number would pass its top at the reply that would end clock
unfoldable pub too_high : Primitives → List ℕ → Body → Bool → Hand → Bool
too_high P writers reply full idle = false
too_high P writers reply full (clocking content nonce high) = full && leb top_number (higher P writers high (stamp_in reply))
too_high P writers reply full (storing candidate shares) = false
too_high P writers reply full (completing candidate) = false
too_high P writers reply full (collecting sent) = false
too_high P writers reply full (filtering list replies) = false
too_high P writers reply full (repairing candidate content) = false

-- ---- refusals, in document 01's order

abbrev pub bad_faults : Config → Bool
bad_faults s = not (within 1 top_faults s.t)

-- 5: a client outside 1 to 16; a write by 9 to 16
abbrev pub bad_client_def : Bool → ℕ → Bool
bad_client_def writing client = not (within 1 (cond writing top_writer top_client) client)

-- pending: a call is in hand
unfoldable pub write_refusal_def : Config → ℕ → ℕ → Bool → ℕ → ℕ
write_refusal_def s client n pending calls =
    first_of
    (refuse 3 (bad_faults s) ∷ refuse 5 (bad_client_def true client) ∷ refuse 6 (ltb top_length n)
    ∷ refuse 13 pending ∷ refuse 14 (leb top_number calls) ∷ [])

unfoldable pub read_refusal_def : Config → ℕ → Bool → ℕ → ℕ
read_refusal_def s client pending calls =
    first_of (refuse 3 (bad_faults s) ∷ refuse 5 (bad_client_def false client) ∷ refuse 13 pending ∷ refuse 14 (leb top_number calls) ∷ [])

-- kind: what the round awaits, 0 with no call in hand
unfoldable pub make_refusal_def : Config → ℕ → ℕ → ℕ → ℕ → ℕ
make_refusal_def s client b kind room =
    first_of
    (refuse 3 (bad_faults s) ∷ refuse 4 (not (within 1 s.servers b)) ∷ refuse 5 (bad_client_def (of_write kind) client)
    ∷ refuse 13 (eqb kind 0) ∷ refuse 15 (ltb room packet_room) ∷ [])

unfoldable pub abort_refusal_def : Config → ℕ → ℕ → ℕ
abort_refusal_def s client kind = first_of (refuse 3 (bad_faults s) ∷ refuse 5 (bad_client_def (of_write kind) client) ∷ refuse 13 (eqb kind 0) ∷ [])

-- a reply that breaks the layout is `none`; replied: who has replied in this round; high: this reply would end clock with too high a number
unfoldable pub take_refusal : Config → ℕ → Option Packet → ℕ → ℕ → ByServer Bool → (ℕ → Body → Bool) → ℕ → ℕ
take_refusal s client o calls kind replied high room =
    first_of
    (refuse 3 (bad_faults s) ∷ refuse 5 (bad_client_def (of_write kind) client) ∷ refuse broken_packet (not (is_some o))
    ∷ refuse 8 (of_some o (λ p. not (eqb p.head.t s.t && eqb p.head.client client)))
    ∷ refuse 12
    (of_some o (λ p. not (eqb kind 0) && (not (eqb p.head.call calls && eqb (kind_of p.body) kind) || replied p.head.server)))
    ∷ refuse 13 (eqb kind 0)
    ∷ refuse 14 (of_some o (λ p. high p.head.server p.body))
    ∷ refuse 15 (ltb room content_room) ∷ [])

-- ---- the steps

unfoldable pub begun : Client → Hand → Client
begun cl h = record { calls = suc cl.calls; last = cl.last; marks = nobody; hand = h }

-- lines 83 to 86, 92 and 93. Amended: the nonce of line 86 is given at the begin
unfoldable pub write_step : Config → ℕ → Client → List ℕ → List ℕ → Turn
write_step s client cl r n =
    let k = write_refusal_def s client (length r) (not (is_idle cl.hand)) cl.calls in
    on_refusal k (record { client = begun cl (clocking r n cl.last); result = more }) (record { client = cl; result = refused k })

-- lines 137 to 140
unfoldable pub read_step : Config → ℕ → Client → Turn
read_step s client cl =
    let k = read_refusal_def s client (not (is_idle cl.hand)) cl.calls in
    on_refusal k (record { client = begun cl (collecting (λ b. blank_candidate s)); result = more }) (record { client = cl; result = refused k })

-- amended: giving up leaves no call in hand; the call number and the last stamp made stay
unfoldable pub abort_step : Config → ℕ → Client → Turn
abort_step s client cl =
    let k = abort_refusal_def s client (awaits cl.hand) in
    on_refusal k (record { client = onto cl nobody idle; result = aborted (in_complete cl.hand) }) (record { client = cl; result = refused k })

-- making a packet changes nothing
pub record Made : Type 0 where
  pub number : ℕ
  pub packet : Option Packet

unfoldable pub make_step : Config → ℕ → Client → ℕ → ℕ → Made
make_step s client cl b room =
    let k = make_refusal_def s client b (awaits cl.hand) room in
    on_refusal k (record { number = 0; packet = some (made s.t client cl b) }) (record { number = k; packet = none })

module _ (P : Primitives) (s : Config) (client : ℕ) (writers : List ℕ) (keys : ByServer (List ℕ)) where
  unfoldable pub turn_on : Client → Option Packet → Turn
  turn_on cl none = record { client = cl; result = more }
  turn_on cl (some p) =
      let m = upd cl.marks p.head.server true in
      update P s client writers keys cl p.head.server p.body m (is_full_def s m) cl.hand

  unfoldable pub high_at : Client → ℕ → Body → Bool
  high_at cl b x = too_high P writers x (is_full_def s (upd cl.marks b true)) cl.hand

  unfoldable pub take_step : Client → Option Packet → ℕ → Turn
  take_step cl o room =
      let k = take_refusal s client o cl.calls (awaits cl.hand) cl.marks (high_at cl) room in
      on_refusal k (turn_on cl o) (record { client = cl; result = refused k })

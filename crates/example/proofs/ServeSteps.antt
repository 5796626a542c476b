-- Making and serving a packet on the example's shelf keep what is known of a run (the module Playing), from what is known of the step on values: a
-- packet that was made is read as it was made, so that nothing of it has to be computed from bytes.
-- Assumes nothing.
use mathlib.Core.Path.{◌≡◌, refl, sym, ap, ◌∙◌, subst}
use mathlib.Core.Bool.{Bool, true, false, cond}
use mathlib.Core.List.{List, [], ◌∷◌, map, flat_map}
use mathlib.Core.Option.{none, some, some-injective}
use mathlib.Core.Logic.{inl}
use Prim.Native.Nat.{ℕ}
use native.Mathlib.Omega.{arith}
use lib.ListN.{length, replicate, length-replicate}
use Rattle.cluster.specs.Ranges.{within, top_writer, packet_room, content_room}
use Rattle.cluster.specs.Refusals.{on_refusal}
use Rattle.format.specs.Format.{Bytes}
use Rattle.protocol.specs.Values.{Candidate}
use Rattle.protocol.specs.Packet.{Body, Packet, PacketOk, kind_of, encode, decode}
use Rattle.protocol.specs.Rules.{upd}
use Rattle.protocol.specs.Server.{memory_of, Server, Acted, blank_server, act, reply_to, server_refusal}
use Rattle.protocol.proofs.ServerStep.{Stepped, answered, server_step}
use Rattle.protocol.specs.Client.{awaits, Made as Making, accepted, made, make_refusal_def, make_step}
use Rattle.protocol.specs.ClientBytes.{key_of}
use Rattle.protocol.specs.View.{kept_size}
use Rattle.runs.specs.Runs.{Lent, write, make, take-reply, serve, result_of, steps}
use Rattle.protocol.proofs.Bodies.{decode-encode, decode-nothing}
use Rattle.runs.proofs.RunLift.{AllFed, run-agrees}
use Rattle.runs.proofs.ValueRuns.{World, After, do_values}
use Rattle.atomicity.specs.Lists.{All}
use Rattle.atomicity.specs.Steps.{StepIn, makes, serves, of_packet, offered, server_checks, judged, checked_by, digested_by, nonces_by}
use Rattle.atomicity.specs.Premises.{Authentic, Begins, FreshNonce, Sent, odd}
use Rattle.atomicity.specs.Claim.{Logged, log, note}
use Rattle.atomicity.proofs.Util.{clash, no_some}
use Rattle.atomicity.proofs.Model.{Run, perform, now}
use Rattle.example.proofs.Playing.{Hashing, functions, function-lengths, desk, who, nonce1, s, A, servers_of_def, checked_in, digested_in}
use Rattle.example.proofs.Playing.{nonces_in, Made, Timely, Play, play_on}

-- ---- output buffers

unfoldable pub packet_buffer : List ℕ
packet_buffer = replicate packet_room 0

unfoldable pub content_buffer : List ℕ
content_buffer = replicate content_room 0

packet-room : length packet_buffer ≡ packet_room
unfolding packet_buffer
packet-room = length-replicate {A = ℕ} packet_room 0

pub content-room : length content_buffer ≡ content_room
unfolding content_buffer
content-room = length-replicate {A = ℕ} content_room 0

-- ---- lists that may be empty

pub cond-nil : {B : Type 0} (b : Bool) → ◌≡◌ {A = List B} (cond b [] []) []
cond-nil true = refl
cond-nil false = refl

pub all_none : {B : Type 0} (P : B → Type 0) (b : Bool) → All P (cond b [] [])
unfolding All
all_none P true = tt
all_none P false = tt

pub all_if : {B : Type 0} (P : B → Type 0) (b : Bool) (xs : List B) → All P xs → All P (cond b xs [])
unfolding All
all_if P true xs h = h
all_if P false xs h = tt

module _ (H : Hashing) where
  -- ---- steps

  abbrev pub makes_it : ℕ → ℕ → StepIn (s H)
  makes_it c b = record { step = make c b packet_buffer; fed = tt }

  abbrev pub serves_it : (b : ℕ) (p : Packet) → within 1 (s H).config.servers b ≡ true → Bytes (encode p) → StepIn (s H)
  serves_it b p i e = record { step = serve b (encode p) packet_buffer; fed = (i, e) }

  -- the keys that are lent: a writer's are the shelf's
  abbrev pub Owned : ℕ → Lent → Type 0
  Owned c lent = within 1 top_writer c ≡ true → (lent.writers ≡ (s H).writers) × (key_of lent.keys ≡ (s H).keys)

  abbrev pub takes_it : (c : ℕ) (lent : Lent) (q : Packet) → Owned c lent → Bytes (encode q) → StepIn (s H)
  takes_it c lent q own e = record { step = take-reply c lent (encode q) content_buffer; fed = (e, own) }

  -- ---- what correct parties send is a packet

  fed : (l : Run (s H)) → AllFed (functions H) (function-lengths H) desk (omega arith, omega arith) (steps l)
  unfolding AllFed
  fed [] = tt
  fed (x ∷ xs) = (x.fed, fed xs)

  pub sent-ok : (x : StepIn (s H)) (xs : Run (s H)) (p : Packet) → (perform (s H) (now (s H) xs) x.step).sent ≡ some p → PacketOk p
  sent-ok x xs p e = (run-agrees (functions H) (function-lengths H) desk (omega arith, omega arith) (λ c. replicate kept_size 0)
      (λ c. length-replicate {A = ℕ} kept_size 0) x.step (steps xs) x.fed (fed xs)).ok p e

  -- ---- a client makes a packet

  pub not_write : (x : StepIn (s H)) (xs : Run (s H)) → ((c : ℕ) (r n : List ℕ) → x.step ≡ write c r n → ⊥) → (c : ℕ) (n : List ℕ) →
      Begins (s H) (A H) c n x xs → ⊥
  unfolding Begins
  not_write x xs f c n (r, e, o) = f c r n e

  pub play_make : (c b : ℕ) (two : Bool) (xs : Run (s H)) (w : World) (cs : List Logged) → Play H two xs w cs → who.client c ≡ true →
      Play H two (makes_it c b ∷ xs) w cs
  unfolding do_values log note Authentic FreshNonce checked_by digested_by nonces_by
  play_make c b two xs w cs p right = play_on H two two xs w cs (makes_it c b) w cs p (λ y. y) (record {
    world = refl;
    noted = p.calls;
    party = right;
    authentic = λ q e o. absurd (no_some (sym decode-nothing ∙ e));
    fresh = λ d n h. absurd (none-begins d n h);
    write = λ d n h. absurd (none-begins d n h);
    unforged = all_none _ (accepted (perform (s H) w (make c b packet_buffer)).result);
    digests = all_none _ (accepted (perform (s H) w (make c b packet_buffer)).result);
    nonces = inl (cond-nil (accepted (perform (s H) w (make c b packet_buffer)).result));
  })
    where
      none-begins : (d : ℕ) (n : List ℕ) → Begins (s H) (A H) d n (makes_it c b) xs → ⊥
      none-begins d n h = not_write (makes_it c b) xs (λ d r n e. (let z : ◌≡◌ {A = ℕ} 0 1 = cc in omega arith)) d n h

  -- the packet that it makes is sent
  pub made-sent : (c b : ℕ) (xs : Run (s H)) (w : World) → now (s H) xs ≡ w →
      make_refusal_def (s H).config c b (awaits (w.client c).hand) packet_room ≡ 0 →
      (perform (s H) (now (s H) xs) (make c b packet_buffer)).sent ≡ some (made (s H).config.t c (w.client c) b)
  unfolding do_values make_step
  made-sent c b xs w here go =
      ap (λ (v : World). (make_step (s H).config c (v.client c) b (length packet_buffer)).packet) here
      ∙ ap (λ (n : ℕ). (make_step (s H).config c (w.client c) b n).packet) packet-room
      ∙ ap (λ (k : ℕ). (on_refusal {A = Making} k (record { number = 0; packet = some (made (s H).config.t c (w.client c) b) })
      (record { number = k; packet = none })).packet) go

  -- ---- a server takes a packet

  abbrev pub acts : ℕ → World → Body → Acted
  acts b w x = act (functions H) (s H).config ((s H).keys b) b (w.server b) x

  abbrev pub served : World → ℕ → Server → World
  served w b v = record { client = w.client; server = upd w.server b v }

  -- what is known of it, in the world w: the packet is not refused, and what it does
  pub record Serves (w : World) (b : ℕ) (p : Packet) (v : Server) (r : Body) : Type 0 where
    pub right : who.server b ≡ true
    pub inside : within 1 (s H).config.servers b ≡ true
    pub ok : PacketOk p
    pub bytes : Bytes (encode p)
    pub request : odd (kind_of p.body) ≡ true
    pub lets : server_refusal true (some (memory_of (s H).config.t b (w.server b))) (some p) packet_room ≡ 0
    pub does : acts b w p.body ≡ record { server = v; reply = r }

  module _ (w : World) (b : ℕ) (p : Packet) (v : Server) (r : Body) (k : Serves w b p v r) where
    abbrev pub serving : StepIn (s H)
    serving = serves_it b p k.inside k.bytes

    stepped : server_step (functions H) (s H).config ((s H).keys b) b (w.server b) (length packet_buffer) (decode (encode p)) ≡
        record { number = 0; server = v; reply = some (reply_to p r) }
    unfolding server_step answered
    stepped =
        (λ i. server_step (functions H) (s H).config ((s H).keys b) b (w.server b) (packet-room i) (decode-encode p k.ok i))
        ∙ ap (λ (n : ℕ). on_refusal n (answered (functions H) (s H).config ((s H).keys b) b (w.server b) packet_room (some p))
        (record { number = n; server = w.server b; reply = none })) k.lets
        ∙ ap (λ (a : Acted). record { number = 0; server = a.server; reply = some (reply_to p a.reply) }) k.does

    pub performed : perform (s H) w (serve b (encode p) packet_buffer) ≡ record {
      world = served w b v;
      result = result_of 0;
      sent = some
          (reply_to p r);
    }
    unfolding do_values
    performed =
        ap (λ (d : Stepped). record { world = served w b d.server; result = result_of d.number; sent = d.reply }) stepped

    pub reply-sent : (xs : Run (s H)) → now (s H) xs ≡ w →
        (perform (s H) (now (s H) xs) (serve b (encode p) packet_buffer)).sent ≡ some (reply_to p r)
    reply-sent xs here = ap (λ (u : World). (perform (s H) u (serve b (encode p) packet_buffer)).sent) here ∙ ap (λ (a : After). a.sent) performed

    -- ---- what the premises ask about: tags that check, what is digested, nonces that it gets

    reads : decode (encode p) ≡ some p
    reads = decode-encode p k.ok

    there : servers_of_def H w b ≡ w.server b
    there = ap (λ (q : Bool). cond q (w.server b) (blank_server (s H).config)) k.inside

    done : accepted (perform (s H) w (serve b (encode p) packet_buffer)).result ≡ true
    done = ap (λ (a : After). accepted a.result) performed

    pub serve-checks : checked_in H w (serve b (encode p) packet_buffer)
        ≡ flat_map (server_checks (s H) b (w.server b)) (judged (s H) b (w.server b) p.body)
    unfolding checked_by
    serve-checks = λ i. cond (done i) (of_packet (λ q. flat_map (server_checks (s H) b (there i)) (judged (s H) b (there i) q.body)) (reads i)) []

    pub serve-digests : digested_in H w (serve b (encode p) packet_buffer) ≡ map (λ c. c.nonce) (judged (s H) b (w.server b) p.body)
    unfolding digested_by
    serve-digests = λ i. cond (done i) (map (λ (c : Candidate). c.nonce) (of_packet (λ q. judged (s H) b (there i) q.body) (reads i))) []

    pub serve_nonces : nonces_in H w (serve b (encode p) packet_buffer) ≡ map (λ c. c.nonce) (offered p.body)
    unfolding nonces_by
    serve_nonces = λ i. cond (done i) (map (λ (c : Candidate). c.nonce) (of_packet (λ q. offered q.body) (reads i))) []

    -- it is its client's own, unless the client is wild; tags that check have been made; and it digests and gets known nonces
    pub play-serve : (two : Bool) (xs : Run (s H)) (cs : List Logged) → Play H two xs w cs →
        (who.client p.head.client ≡ true → Sent (s H) (A H) (makes p.head.client) (encode p) xs) →
        All (λ kb. Made H kb xs) (flat_map (server_checks (s H) b (w.server b)) (judged (s H) b (w.server b) p.body)) →
        All (λ u. u ≡ nonce1) (map (λ c. c.nonce) (judged (s H) b (w.server b) p.body)) →
        Timely H xs (map (λ c. c.nonce) (offered p.body)) →
        Play H two (serving ∷ xs) (served w b v) cs
    unfolding log note Authentic FreshNonce
    play-serve two xs cs pl source tags digs news = play_on H two two xs w cs serving (served w b v) cs pl (λ y. y) (record {
      world = ap (λ (a : After). a.world) performed;
      noted = pl.calls;
      party = k.right;
      authentic = λ q e o. subst Source (some-injective _ _ (sym reads ∙ e)) (λ y z. source z, λ y z. clash k.request y);
      fresh = λ d n h. absurd (none-begins d n h);
      write = λ d n h. absurd (none-begins d n h);
      unforged = subst (All (λ kb. Made H kb xs)) (sym serve-checks) tags;
      digests = subst (All (λ u. u ≡ nonce1)) (sym serve-digests) digs;
      nonces = subst (Timely H xs) (sym serve_nonces) news;
    })
      where
        Source : Packet → Type 0
        Source q =
            (odd (kind_of q.body) ≡ true → who.client q.head.client ≡ true → Sent (s H) (A H) (makes q.head.client) (encode p) xs)
            × (odd (kind_of q.body) ≡ false → who.server q.head.server ≡ true → Sent (s H) (A H) (serves q.head.server) (encode p) xs)

        none-begins : (d : ℕ) (n : List ℕ) → Begins (s H) (A H) d n serving xs → ⊥
        none-begins d n h = not_write serving xs (λ d r n e. (let z : ◌≡◌ {A = ℕ} 0 1 = cc in omega arith)) d n h

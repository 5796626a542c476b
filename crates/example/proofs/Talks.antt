-- An exchange on the example's shelf, of a correct client with a correct server: it keeps what is known of a run, as its steps do, each of which gets
-- a packet that a correct party made. What can be computed of it is one test.
-- Assumes nothing.
use mathlib.Core.Path.{◌≡◌, refl, ap}
use mathlib.Core.Bool.{Bool, true, false, not, ◌&&◌}
use mathlib.Core.List.{List, ◌∷◌, ◌++◌, map, flat_map}
use mathlib.Core.Option.{some}
use mathlib.Core.Logic.{inl, inr}
use Prim.Native.Nat.{ℕ, suc}
use lib.ListN.{length}
use lib.Dec.{eqb}
use borrow.Author.Tests.{eq-eqb, eqb-true, not-true}
use Rattle.cluster.specs.Ranges.{within, packet_room, content_room}
use Rattle.protocol.specs.Packet.{Body, Packet, kind_of, encode}
use Rattle.protocol.specs.Server.{memory_of, Server, reply_to, server_refusal}
use Rattle.protocol.specs.Client.{Turn, made, make_refusal_def, take_refusal, high_at, awaits}
use Rattle.runs.specs.Runs.{Lent, make, serve, sent_of}
use Rattle.runs.proofs.ValueRuns.{World}
use Rattle.atomicity.specs.Lists.{Ever, All}
use Rattle.atomicity.specs.Steps.{offered, stamped_from, server_checks, client_checks, judged, compared, digests_with}
use Rattle.atomicity.specs.Premises.{odd}
use Rattle.atomicity.specs.Claim.{Logged}
use Rattle.atomicity.proofs.Util.{and_left, and_right, all_map}
use Rattle.atomicity.proofs.Model.{Run, perform, now}
use Rattle.example.proofs.Playing.{Hashing, functions, who, nonce1, s, Made, Timely, Play}
use Rattle.example.proofs.Printed.{BodyBytes, PacketBytes, packet-bytes, head_fits, packet_of}
use Rattle.example.proofs.ServeSteps.{packet_buffer, serves_it, takes_it, makes_it, sent-ok, play_make, made-sent, acts, served, Serves}
use Rattle.example.proofs.ServeSteps.{reply-sent, play-serve, Owned}
use Rattle.example.proofs.TakeSteps.{turned, took, followed, Takes, play_take}

module _ (H : Hashing) where
  -- ---- an exchange: client c asks server b, which does this and answers r, and the client's turn is t

  pub record Talk (w : World) (c b : ℕ) (lent : Lent) (v : Server) (r : Body) (t : Turn) : Type 0 where
    pub client : who.client c ≡ true
    pub server : who.server b ≡ true
    pub inside : within 1 (s H).config.servers b ≡ true
    pub own : Owned H c lent
    pub ask-bytes : PacketBytes (made (s H).config.t c (w.client c) b)
    pub answer-bytes : PacketBytes (reply_to (made (s H).config.t c (w.client c) b) r)
    pub asks : odd (kind_of (made (s H).config.t c (w.client c) b).body) ≡ true
    pub answers : odd (kind_of r) ≡ false
    pub makes_on : make_refusal_def (s H).config c b (awaits (w.client c).hand) packet_room ≡ 0
    pub serves_on : server_refusal true (some (memory_of (s H).config.t b (w.server b))) (some (made (s H).config.t c (w.client c) b)) packet_room
        ≡ 0
    pub does : acts H b w (made (s H).config.t c (w.client c) b).body ≡ record { server = v; reply = r }
    pub takes_on : let cl = w.client c in take_refusal (s H).config c (some (reply_to (made (s H).config.t c cl b) r)) cl.calls
        (awaits cl.hand)
        cl.marks (high_at (functions H) (s H).config c (s H).writers (s H).keys cl) content_room ≡ 0
    pub turns : turned H c (w.client c) (reply_to (made (s H).config.t c (w.client c) b) r) ≡ t

  module _ (w : World) (c b : ℕ) (lent : Lent) (v : Server) (r : Body) (t : Turn) (k : Talk w c b lent v r t) where
    abbrev pub asked : Packet
    asked = made (s H).config.t c (w.client c) b

    abbrev pub answered : Packet
    answered = reply_to asked r

    abbrev pub exchanged : Run (s H) → Run (s H)
    exchanged xs =
        takes_it H c lent answered k.own (packet-bytes answered k.answer-bytes)
        ∷ serves_it H b asked k.inside (packet-bytes asked k.ask-bytes) ∷ makes_it H c b ∷ xs

    -- ---- the steps that get a packet: both packets have their layout, as a correct party made them

    module _ (two : Bool) (xs : Run (s H)) (cs : List Logged) (p : Play H two xs w cs) where
      pub making : Play H two (makes_it H c b ∷ xs) w cs
      making = play_make H c b two xs w cs p k.client

      pub sent : (perform (s H) (now (s H) xs) (make c b packet_buffer)).sent ≡ some asked
      sent = made-sent H c b xs w p.here k.makes_on

      unfoldable pub serves : Serves H w b asked v r
      serves =
          record {
            right = k.server;
            inside = k.inside;
            ok = sent-ok H (makes_it H c b) xs asked sent;
            bytes = packet-bytes asked k.ask-bytes;
            request = k.asks;
            lets = k.serves_on;
            does = k.does;
          }

      pub back : (perform (s H) (now (s H) (makes_it H c b ∷ xs)) (serve b (encode asked) packet_buffer)).sent ≡ some answered
      back = reply-sent H w b asked v r serves (makes_it H c b ∷ xs) making.here

      unfoldable pub takes : Takes H (served H w b v) c lent answered t
      unfolding reply_to made
      takes =
          record {
            right = k.client;
            own = k.own;
            ok = sent-ok H (serves_it H b asked k.inside (packet-bytes asked k.ask-bytes)) (makes_it H c b ∷ xs) answered back;
            bytes = packet-bytes answered k.answer-bytes;
            reply = k.answers;
            lets = k.takes_on;
            does = k.turns;
          }

      -- tags that check have been made before; nonces that the server gets are timely
      pub play-asked : All (λ kb. Made H kb xs) (flat_map (server_checks (s H) b (w.server b)) (judged (s H) b (w.server b) asked.body)) →
          All (λ u. u ≡ nonce1) (map (λ d. d.nonce) (judged (s H) b (w.server b) asked.body)) →
          Timely H (makes_it H c b ∷ xs) (map (λ d. d.nonce) (offered asked.body)) →
          Play H two (serves_it H b asked k.inside (packet-bytes asked k.ask-bytes) ∷ makes_it H c b ∷ xs) (served H w b v) cs
      unfolding Ever made serves
      play-asked tags digests timely = play-serve H w b asked v r serves two (makes_it H c b ∷ xs) cs making
          (λ y. inl (eq-eqb c c refl, ap sent_of sent)) (all_map _ _ (λ kb h. inr h) _ tags) digests timely

      pub play-answered : Play H two (serves_it H b asked k.inside (packet-bytes asked k.ask-bytes) ∷ makes_it H c b ∷ xs) (served H w b v) cs →
          All (λ kb. Made H kb xs) (client_checks (s H) (w.client c).hand r) →
          All (λ u. u ≡ nonce1)
          (flat_map (digests_with (s H)) (stamped_from c (w.client c).hand t.client.hand)
          ++ compared (s H) (w.client c)
          (w.client c).hand answered) →
          Play H two (exchanged xs) (took H (served H w b v) c t) (followed H w c t (suc (suc (length xs))) cs)
      unfolding Ever reply_to made takes
      play-answered q tags digests = play_take H (served H w b v) c lent answered t takes two _ cs q
          (λ y. inl (eq-eqb b b refl, ap sent_of back)) (all_map _ _ (λ kb h. inr (inr h)) _ tags) digests

    pub play_exchange : (two : Bool) (xs : Run (s H)) (cs : List Logged) → Play H two xs w cs →
        All (λ kb. Made H kb xs) (flat_map (server_checks (s H) b (w.server b)) (judged (s H) b (w.server b) asked.body)) →
        All (λ u. u ≡ nonce1) (map (λ d. d.nonce) (judged (s H) b (w.server b) asked.body)) →
        Timely H (makes_it H c b ∷ xs) (map (λ d. d.nonce) (offered asked.body)) →
        All (λ kb. Made H kb xs) (client_checks (s H) (w.client c).hand r) →
        All (λ u. u ≡ nonce1)
        (flat_map (digests_with (s H)) (stamped_from c (w.client c).hand t.client.hand)
        ++ compared (s H) (w.client c) (w.client c).hand answered)
        →
        Play H two (exchanged xs) (took H (served H w b v) c t) (followed H w c t (suc (suc (length xs))) cs)
    play_exchange two xs cs p served-tags served-digests timely taken-tags taken-digests =
        play-answered two xs cs p (play-asked two xs cs p served-tags served-digests timely) taken-tags taken-digests

  -- what is computed of it
  abbrev pub talk_fits : World → ℕ → ℕ → Body → Bool
  talk_fits w c b r =
      let cl = w.client c in let p = made (s H).config.t c cl b in let q = reply_to p r in
      (who.client c && (who.server b && within 1 (s H).config.servers b))
      && ((head_fits p && head_fits q)
      && ((odd (kind_of p.body) && not (odd (kind_of r)))
      && (eqb (make_refusal_def (s H).config c b (awaits cl.hand) packet_room) 0
      && (eqb (server_refusal true (some (memory_of (s H).config.t b (w.server b))) (some p) packet_room) 0
      && eqb (take_refusal (s H).config c (some q) cl.calls (awaits cl.hand) cl.marks
      (high_at (functions H) (s H).config c (s H).writers (s H).keys cl) content_room) 0))))

  pub talk_of : (w : World) (c b : ℕ) (lent : Lent) (v : Server) (r : Body) (t : Turn) → talk_fits w c b r ≡ true → Owned H c lent →
      BodyBytes (made (s H).config.t c (w.client c) b).body → BodyBytes r →
      acts H b w (made (s H).config.t c (w.client c) b).body ≡ record { server = v; reply = r } →
      turned H c (w.client c) (reply_to (made (s H).config.t c (w.client c) b) r) ≡ t → Talk w c b lent v r t
  unfolding reply_to
  talk_of w c b lent v r t e own pb qb does turns =
      let cl = w.client c in
      let p = made (s H).config.t c cl b in
      let q = reply_to p r in
      let parties = and_left (who.client c && (who.server b && within 1 (s H).config.servers b)) _ e in
      let rest = and_right (who.client c && (who.server b && within 1 (s H).config.servers b)) _ e in
      let heads = and_left (head_fits p && head_fits q) _ rest in
      let more = and_right (head_fits p && head_fits q) _ rest in
      let kinds = and_left (odd (kind_of p.body) && not (odd (kind_of r))) _ more in
      let goes = and_right (odd (kind_of p.body) && not (odd (kind_of r))) _ more in
      let m = eqb (make_refusal_def (s H).config c b (awaits cl.hand) packet_room) 0 in
      let n = eqb (server_refusal true (some (memory_of (s H).config.t b (w.server b))) (some p) packet_room) 0 in
      record {
        client = and_left (who.client c) _ parties;
        server = and_left (who.server b) _ (and_right (who.client c) _ parties);
        inside = and_right (who.server b) _ (and_right (who.client c) _ parties);
        own = own;
        ask-bytes = packet_of p (and_left (head_fits p) _ heads) pb;
        answer-bytes = packet_of q (and_right (head_fits p) _ heads) qb;
        asks = and_left (odd (kind_of p.body)) _ kinds;
        answers = not-true _ (and_right (odd (kind_of p.body)) _ kinds);
        makes_on = eqb-true _ 0 (and_left m _ goes);
        serves_on = eqb-true _ 0 (and_left n _ (and_right m _ goes));
        does = does;
        takes_on = eqb-true _ 0 (and_right n _ (and_right m _ goes));
        turns = turns;
      }

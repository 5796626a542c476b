-- Where the example asks something of each premise: at which steps a packet of a correct party is let in, a second write begins, a tag checks,
-- something is digested, a server gets a nonce, a reply is refused.
-- Assumes nothing.
use mathlib.Core.Path.{◌≡◌, refl, ap, ◌∙◌}
use mathlib.Core.Bool.{Bool, true, false, cond}
use mathlib.Core.List.{List, [], ◌∷◌, ◌++◌, map, flat_map}
use mathlib.Core.Logic.{inl, inr}
use mathlib.Core.Option.{some}
use Prim.Native.Nat.{ℕ, zero, suc}
use lib.ListN.{drop}
use Rattle.cluster.specs.Config.{shelf, up_to}
use Rattle.protocol.specs.Packet.{Body, Packet, kind_of, encode}
use Rattle.protocol.specs.Primitives.{stamp_message_def, candidate_message}
use Rattle.protocol.specs.Rules.{upd}
use Rattle.protocol.specs.Server.{Server, reply_to}
use Rattle.protocol.specs.Client.{Turn, accepted, refused, awaits, is_idle, write_refusal_def, write_step, begun, made, candidate_made}
use Rattle.runs.specs.Runs.{Lent, Account, write, take-reply, serve}
use Rattle.protocol.proofs.Bodies.{decode-encode}
use Rattle.runs.proofs.ValueRuns.{World, After, do_values, now_values, set_client}
use Rattle.atomicity.specs.Lists.{Ever}
use Rattle.atomicity.specs.Steps.{System, packet_in, StepIn, tags_checked, digested, nonces_got, offered, judged, server_checks, client_checks}
use Rattle.atomicity.specs.Steps.{stamped_from}
use Rattle.atomicity.specs.Steps.{compared, digests_with}
use Rattle.atomicity.specs.Premises.{Begins, odd}
use Rattle.atomicity.specs.Claim.{Logged}
use Rattle.atomicity.proofs.Model.{Run, perform, now}
use Rattle.example.proofs.Playing.{Hashing, s, A, who, nonce1, nonce2, nonce3, checked_in, digested_in, nonces_in, Play}
use Rattle.example.proofs.Printed.{packet-bytes}
use Rattle.example.proofs.ServeSteps.{packet_buffer, content_buffer, makes_it, serves_it, takes_it, served, performed, serve-checks}
use Rattle.example.proofs.ServeSteps.{serve_nonces}
use Rattle.example.proofs.TakeSteps.{performed_on, take-checks, take-digests}
use Rattle.example.proofs.Talks.{Talk, asked, answered, making, serves, takes}
use Rattle.example.proofs.Scene.{content1, content2, cand, made_up, blank_one, pieces}
use Rattle.example.proofs.SceneBytes.{wild_packet}
use Rattle.example.proofs.SceneWrites.{writes, w0, w1, w2, w3, w4, w5, w6, w7, w8, w9, w10}
use Rattle.example.proofs.SceneReads.{others, reads, w11, w12, w13, w14, w15, w16, w17, w18, w19, w20, w21}
use Rattle.example.proofs.SceneStored.{x1, x2, x3, x4, x5, x6, x7, x8, x9, x10, p2, p3, p8, p10}
use Rattle.example.proofs.SceneShown.{x11, x12, x13, x14, p11, p13, wild, tag-checks}
use Rattle.example.proofs.SceneChecks.{judged-tagged, tag-checks-4}
use Rattle.example.proofs.SceneEnds.{x15, x16, x17, x18, x19, x20, x21, x22, x23, x24, x25, p16, p21, the_lie, again}

-- what some earlier step had, some step had
pub ever-later : {X : Type 0} (P : X → List X → Type 0) (n : ℕ) (xs : List X) → Ever P (drop n xs) → Ever P xs
unfolding Ever
ever-later P zero xs h = h
ever-later P (suc n) [] h = h
ever-later P (suc n) (x ∷ xs) h = inr (ever-later P n xs h)

-- a packet of a correct client is let in by a server, one of a correct server by a client: then `Authentic` asks who made it
abbrev pub FromClient : (s : System) (B : Account (StepIn s)) → StepIn s → List (StepIn s) → Type 0
FromClient s B x xs =
    (p : Packet) × (packet_in x.step ≡ some p) × (accepted (B.result x xs) ≡ true) × (odd (kind_of p.body) ≡ true)
    × (who.client p.head.client ≡ true)

abbrev pub FromServer : (s : System) (B : Account (StepIn s)) → StepIn s → List (StepIn s) → Type 0
FromServer s B x xs =
    (p : Packet) × (packet_in x.step ≡ some p) × (accepted (B.result x xs) ≡ true) × (odd (kind_of p.body) ≡ false)
    × (who.server p.head.server ≡ true)

module _ (H : Hashing) where
  -- ---- the two steps of an exchange that get a packet

  module _ (w : World) (c b : ℕ) (lent : Lent) (v : Server) (r : Body) (t : Turn) (k : Talk H w c b lent v r t) (two : Bool) (xs : Run (s H))
      (cs : List Logged) (p : Play H two xs w cs) where
    abbrev request : Packet
    request = asked H w c b lent v r t k

    abbrev reply : Packet
    reply = answered H w c b lent v r t k

    ask-checks : checked_in H (now (s H) (makes_it H c b ∷ xs)) (serve b (encode request) packet_buffer)
        ≡ flat_map (server_checks (s H) b (w.server b)) (judged (s H) b (w.server b) request.body)
    ask-checks =
        ap (λ (u : World). checked_in H u (serve b (encode request) packet_buffer)) (making H w c b lent v r t k two xs cs p).here
        ∙ serve-checks H w b request v r (serves H w c b lent v r t k two xs cs p)

    ask_nonces : nonces_in H (now (s H) (makes_it H c b ∷ xs)) (serve b (encode request) packet_buffer) ≡ map (λ d. d.nonce) (offered request.body)
    ask_nonces =
        ap (λ (u : World). nonces_in H u (serve b (encode request) packet_buffer)) (making H w c b lent v r t k two xs cs p).here
        ∙ serve_nonces H w b request v r (serves H w c b lent v r t k two xs cs p)

    -- the world that the reply is taken in
    answer_here : now (s H) (serves_it H b request k.inside (packet-bytes request k.ask-bytes) ∷ makes_it H c b ∷ xs) ≡ served H w b v
    unfolding now_values
    answer_here =
        ap (λ (u : World). (perform (s H) u (serve b (encode request) packet_buffer)).world) (making H w c b lent v r t k two xs cs p).here
        ∙ ap (λ (a : After). a.world) (performed H w b request v r (serves H w c b lent v r t k two xs cs p))

    answer-checks : checked_in H (now (s H) (serves_it H b request k.inside (packet-bytes request k.ask-bytes) ∷ makes_it H c b ∷ xs))
        (take-reply c lent (encode reply) content_buffer) ≡ cond (accepted t.result) (client_checks (s H) (w.client c).hand reply.body) []
    answer-checks =
        ap (λ (u : World). checked_in H u (take-reply c lent (encode reply) content_buffer)) answer_here
        ∙ take-checks H (served H w b v) c lent reply t (takes H w c b lent v r t k two xs cs p)

    answer-digests : digested_in H (now (s H) (serves_it H b request k.inside (packet-bytes request k.ask-bytes) ∷ makes_it H c b ∷ xs))
        (take-reply c lent (encode reply) content_buffer) ≡ cond (accepted t.result)
        (flat_map (digests_with (s H)) (stamped_from c (w.client c).hand t.client.hand)
        ++ compared (s H) (w.client c) (w.client c).hand reply) []
    answer-digests =
        ap (λ (u : World). digested_in H u (take-reply c lent (encode reply) content_buffer)) answer_here
        ∙ take-digests H (served H w b v) c lent reply t (takes H w c b lent v r t k two xs cs p)

    -- each packet is read as it was made, and let in
    ask-fits : FromClient (s H) (A H) (serves_it H b request k.inside (packet-bytes request k.ask-bytes)) (makes_it H c b ∷ xs)
    unfolding made
    ask-fits = (
      request,
      decode-encode request (serves H w c b lent v r t k two xs cs p).ok,
      ap (λ (u : World). accepted (perform (s H) u (serve b (encode request) packet_buffer)).result) (making H w c b lent v r t k two xs cs p).here
          ∙ ap (λ (a : After). accepted a.result) (performed H w b request v r (serves H w c b lent v r t k two xs cs p)),
      k.asks,
      k.client,
    )

    answer-fits : accepted t.result ≡ true →
        FromServer (s H) (A H) (takes_it H c lent reply k.own (packet-bytes reply k.answer-bytes))
        (serves_it H b request k.inside (packet-bytes request k.ask-bytes) ∷ makes_it H c b ∷ xs)
    unfolding reply_to made
    answer-fits fine = (
      reply,
      decode-encode reply (takes H w c b lent v r t k two xs cs p).ok,
      ap (λ (u : World). accepted (perform (s H) u (take-reply c lent (encode reply) content_buffer)).result) answer_here
          ∙ ap (λ (a : After). accepted a.result) (performed_on H (served H w b v) c lent reply t (takes H w c b lent v r t k two xs cs p)) ∙ fine,
      k.answers,
      k.server,
    )

  -- ---- the steps of the run, each with how many steps came after it

  -- the first write begins
  at-0 : Ever (Begins (s H) (A H) 1 nonce1) (x1 H)
  unfolding Ever Begins x1 now_values do_values set_client write_step write_refusal_def shelf is_idle awaits content1
  at-0 = inl (content1, refl, refl)

  -- server 2 lets client 1's packet in, and client 1 its reply
  at-4 : Ever (FromClient (s H) (A H)) (x3 H)
  unfolding Ever x3
  at-4 = inr (inl (ask-fits (w2 H) 1 2 _ _ _ _ (writes H).clock-2 false (x2 H) _ (p2 H)))

  at_5 : Ever (FromServer (s H) (A H)) (x3 H)
  unfolding Ever x3
  at_5 = inl (answer-fits (w2 H) 1 2 _ _ _ _ (writes H).clock-2 false (x2 H) _ (p2 H) refl)

  -- the end of the first write's clock digests its nonce five times
  at_8 : Ever (λ x xs. digested (s H) (A H) x xs ≡ nonce1 ∷ nonce1 ∷ nonce1 ∷ nonce1 ∷ nonce1 ∷ []) (x4 H)
  unfolding Ever x4 w0 w1 w2 w3 upd begun stamped_from flat_map digests_with up_to shelf compared now_values
  at_8 = inl (answer-digests (w3 H) 1 3 _ _ _ _ (writes H).clock-3 false (x3 H) _ (p3 H)
      ∙ (λ i. nonce1 ∷ pieces.0 i ∷ pieces.1 i ∷ pieces.2 i ∷ pieces.3 i ∷ []))

  -- server 2 gets the nonce with complete
  at-20 : Ever (λ x xs. nonces_got (s H) (A H) x xs ≡ nonce1 ∷ []) (x9 H)
  unfolding Ever x9 w4 w5 w6 w7 w8 upd made cand candidate_made
  at-20 = inr (inl (ask_nonces (w8 H) 1 2 _ _ _ _ (writes H).complete-2 false (x8 H) _ (p8 H)))

  -- a second write begins after the first
  at-25 : Ever (λ x xs. Begins (s H) (A H) 2 nonce2 x xs × Ever (Begins (s H) (A H) 1 nonce1) xs) (x11 H)
  unfolding Ever Begins x2 x3 x4 x5 x6 x7 x8 x9 x10 x11 do_values set_client write_step write_refusal_def shelf is_idle awaits content2 upd
      w0 w1 w2 w3 w4 w5 w6 w7 w8 w9 w10
  at-25 = inl (
    (content2, refl, ap (λ (u : World). accepted (perform (s H) u (write 2 content2 nonce2)).result) (p10 H).here),
    ever-later _ 24 (x10 H) at-0,
  )

  -- the first write's stamp checks at client 2
  at-28 : Ever (λ x xs. tags_checked (s H) (A H) x xs ≡ ((s H).writers, stamp_message_def 1 1) ∷ []) (x12 H)
  unfolding Ever x12 reply_to
  at-28 = inl (answer-checks (w11 H) 2 2 _ _ _ _ (reads H).clock-2 true (x11 H) _ (p11 H) ∙ tag-checks H)

  -- the wild client shows server 2 a nonce that no write has
  at-30 : Ever (λ x xs. nonces_got (s H) (A H) x xs ≡ nonce3 ∷ []) (x14 H)
  unfolding Ever x14 wild_packet made_up
  at-30 = inl (ap (λ (u : World). nonces_in H u (serve 2 (encode (wild_packet H)) packet_buffer)) (p13 H).here
      ∙ serve_nonces H (w13 H) 2 (wild_packet H) _ _ (wild H))

  -- the liar's reply comes again and is refused
  at-34 : Ever (λ x xs. (A H).result x xs ≡ refused 12) (x17 H)
  unfolding Ever x17
  at-34 = inl (ap (λ (u : World). (perform (s H) u (take-reply 9 others (encode (the_lie H)) content_buffer)).result) (p16 H).here
      ∙ ap (λ (a : After). a.result) (again H))

  -- server 4 checks its tag of the candidate, and the client digests the two fragments that prove it
  at-48 : Ever (λ x xs. tags_checked (s H) (A H) x xs ≡ ((s H).keys 4, candidate_message (cand H).stamp (H.digest nonce1)) ∷ []) (x22 H)
  unfolding Ever x22 w0 w1 w2 w3 w4 w5 w6 w7 w8 w9 w10 w11 w12 w13 w14 w15 w16 w17 w18 w19 w20 w21 upd made flat_map
  at-48 = inr (inl (ask-checks (w21 H) 9 4 _ _ _ _ (reads H).filter-4 true (x21 H) _ (p21 H)
      ∙ ap (flat_map (server_checks (s H) 4 (blank_one H))) (judged-tagged H) ∙ ap (λ (l : List (List ℕ × List ℕ)). l ++ []) (tag-checks-4 H)))

  -- ---- all of it, of the whole run

  pub record Happens (B : Account (StepIn (s H))) : Type 0 where
    pub lets-client_in : Ever (FromClient (s H) B) (x25 H)
    pub lets-server_in : Ever (FromServer (s H) B) (x25 H)
    pub begins_again : Ever (λ x xs. Begins (s H) B 2 nonce2 x xs × Ever (Begins (s H) B 1 nonce1) xs) (x25 H)
    pub digests-nonce : Ever (λ x xs. digested (s H) B x xs ≡ nonce1 ∷ nonce1 ∷ nonce1 ∷ nonce1 ∷ nonce1 ∷ []) (x25 H)
    pub gets-nonce : Ever (λ x xs. nonces_got (s H) B x xs ≡ nonce1 ∷ []) (x25 H)
    pub checks-stamp : Ever (λ x xs. tags_checked (s H) B x xs ≡ ((s H).writers, stamp_message_def 1 1) ∷ []) (x25 H)
    pub gets-made-up : Ever (λ x xs. nonces_got (s H) B x xs ≡ nonce3 ∷ []) (x25 H)
    pub refuses : Ever (λ x xs. B.result x xs ≡ refused 12) (x25 H)
    pub checks-tag : Ever (λ x xs. tags_checked (s H) B x xs ≡ ((s H).keys 4, candidate_message (cand H).stamp (H.digest nonce1)) ∷ []) (x25 H)

  pub happens : Happens (A H)
  unfolding x1 x2 x3 x4 x5 x6 x7 x8 x9 x10 x11 x12 x13 x14 x15 x16 x17 x18 x19 x20 x21 x22 x23 x24 x25
  happens =
      record {
        lets-client_in = ever-later _ 52 (x25 H) at-4;
        lets-server_in = ever-later _ 52 (x25 H) at_5;
        begins_again = ever-later _ 32 (x25 H) at-25;
        digests-nonce = ever-later _ 49 (x25 H) at_8;
        gets-nonce = ever-later _ 36 (x25 H) at-20;
        checks-stamp = ever-later _ 29 (x25 H) at-28;
        gets-made-up = ever-later _ 27 (x25 H) at-30;
        refuses = ever-later _ 23 (x25 H) at-34;
        checks-tag = ever-later _ 8 (x25 H) at-48;
      }

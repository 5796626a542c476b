-- Taking a reply on the example's shelf keeps what is known of a run, from what is known of the step on values.
-- Assumes nothing.
use mathlib.Core.Path.{◌≡◌, sym, ap, ◌∙◌, subst}
use mathlib.Core.Bool.{Bool, true, false, cond}
use mathlib.Core.List.{List, [], ◌∷◌, ◌++◌, flat_map}
use mathlib.Core.Option.{none, some, some-injective}
use mathlib.Core.Logic.{inl}
use Prim.Native.Nat.{ℕ}
use native.Mathlib.Omega.{arith}
use lib.ListN.{length}
use Rattle.cluster.specs.Ranges.{content_room}
use Rattle.cluster.specs.Refusals.{on_refusal}
use Rattle.format.specs.Format.{Bytes}
use Rattle.protocol.specs.Packet.{Packet, PacketOk, kind_of, encode, decode}
use Rattle.protocol.specs.Rules.{upd}
use Rattle.protocol.specs.Client.{Client, Turn, refused, accepted, take_refusal, take_step, turn_on, high_at, awaits, in_complete}
use Rattle.runs.specs.Runs.{Lent, take-reply}
use Rattle.protocol.proofs.Bodies.{decode-encode}
use Rattle.runs.proofs.ValueRuns.{World, After, do_values, set_client, now_values}
use Rattle.atomicity.specs.Lists.{All}
use Rattle.atomicity.specs.Steps.{StepIn, makes, serves, of_packet, stamped_from, stamped_by, client_checks, compared, digests_with, checked_by}
use Rattle.atomicity.specs.Steps.{digested_by, nonces_by}
use Rattle.atomicity.specs.Premises.{Authentic, Begins, FreshNonce, Sent, odd}
use Rattle.atomicity.specs.Claim.{Logged, log, note, change, follow}
use Rattle.atomicity.proofs.Util.{clash, upd_here}
use Rattle.atomicity.proofs.Model.{Run, perform}
use Rattle.example.proofs.Playing.{Hashing, functions, who, nonce1, s, A, checked_in, digested_in, Made, Play, play_on}
use Rattle.example.proofs.ServeSteps.{content_buffer, content-room, cond-nil, all_if, Owned, takes_it, not_write}

module _ (H : Hashing) where
  -- ---- a client takes a reply

  abbrev pub turned : ℕ → Client → Packet → Turn
  turned c cl q = turn_on (functions H) (s H).config c (s H).writers (s H).keys cl (some q)

  abbrev pub took : World → ℕ → Turn → World
  took w c t = record { client = upd w.client c t.client; server = w.server }

  -- the call as the log has it after the turn t, with n steps done
  abbrev pub followed : World → ℕ → Turn → ℕ → List Logged → List Logged
  followed w c t n cs = change c (w.client c).calls (follow t.result (in_complete t.client.hand) n) cs

  -- what is known of it, in the world w: the packet is not refused, and what it leads to
  pub record Takes (w : World) (c : ℕ) (lent : Lent) (q : Packet) (t : Turn) : Type 0 where
    pub right : who.client c ≡ true
    pub own : Owned H c lent
    pub ok : PacketOk q
    pub bytes : Bytes (encode q)
    pub reply : odd (kind_of q.body) ≡ false
    pub lets : let cl = w.client c in take_refusal (s H).config c (some q) cl.calls (awaits cl.hand) cl.marks
        (high_at (functions H) (s H).config c (s H).writers (s H).keys cl) content_room ≡ 0
    pub does : turned c (w.client c) q ≡ t

  module _ (w : World) (c : ℕ) (lent : Lent) (q : Packet) (t : Turn) (k : Takes w c lent q t) where
    abbrev pub taking : StepIn (s H)
    taking = takes_it H c lent q k.own k.bytes

    stepped_on : take_step (functions H) (s H).config c (s H).writers (s H).keys (w.client c) (decode (encode q)) (length content_buffer) ≡ t
    unfolding take_step
    stepped_on =
        (λ i. take_step (functions H) (s H).config c (s H).writers (s H).keys (w.client c) (decode-encode q k.ok i) (content-room i))
        ∙ ap (λ (n : ℕ). on_refusal n (turned c (w.client c) q) (record { client = w.client c; result = refused n })) k.lets
        ∙ k.does

    pub performed_on : perform (s H) w (take-reply c lent (encode q) content_buffer) ≡ record { world = took w c t; result = t.result; sent = none }
    unfolding do_values set_client
    performed_on = ap (λ (u : Turn). record { world = took w c u; result = u.result; sent = none }) stepped_on

    reads_on : decode (encode q) ≡ some q
    reads_on = decode-encode q k.ok

    -- the hand after it
    hand_on : ((perform (s H) w (take-reply c lent (encode q) content_buffer)).world.client c).hand ≡ t.client.hand
    hand_on = ap (λ (a : After). (a.world.client c).hand) performed_on ∙ ap (λ (cl : Client). cl.hand) (upd_here w.client c t.client)

    pub take-checks : checked_in H w (take-reply c lent (encode q) content_buffer)
        ≡ cond (accepted t.result) (client_checks (s H) (w.client c).hand q.body) []
    unfolding checked_by
    take-checks = λ i. cond (accepted (performed_on i).result) (of_packet (λ p. client_checks (s H) (w.client c).hand p.body) (reads_on i)) []

    pub take-digests : digested_in H w (take-reply c lent (encode q) content_buffer)
        ≡ cond (accepted t.result)
        (flat_map (digests_with (s H)) (stamped_from c (w.client c).hand t.client.hand) ++ compared (s H) (w.client c) (w.client c).hand q) []
    unfolding digested_by stamped_by
    take-digests = λ i. cond (accepted (performed_on i).result) (flat_map (digests_with (s H)) (stamped_from c (w.client c).hand (hand_on i))
        ++ of_packet (compared (s H) (w.client c) (w.client c).hand) (reads_on i)) []

    -- it is its server's own, unless the server lies; tags that check have been made; and it digests the first nonce alone
    pub play_take : (two : Bool) (xs : Run (s H)) (cs : List Logged) → Play H two xs w cs →
        (who.server q.head.server ≡ true → Sent (s H) (A H) (serves q.head.server) (encode q) xs) →
        All (λ kb. Made H kb xs) (client_checks (s H) (w.client c).hand q.body) →
        All (λ u. u ≡ nonce1)
        (flat_map (digests_with (s H)) (stamped_from c (w.client c).hand t.client.hand) ++ compared (s H) (w.client c) (w.client c).hand q) →
        Play H two (taking ∷ xs) (took w c t) (followed w c t (length xs) cs)
    unfolding log note Authentic FreshNonce nonces_by now_values
    play_take two xs cs pl source tags digs = play_on H two two xs w cs taking (took w c t) (followed w c t (length xs) cs) pl (λ y. y) (record {
      world = ap (λ (a : After). a.world) performed_on;
      noted = logged;
      party = k.right;
      authentic = λ p e o. subst Source (some-injective _ _ (sym reads_on ∙ e)) (λ y z. clash y k.reply, λ y z. source z);
      fresh = λ d n h. absurd (none-begins d n h);
      write = λ d n h. absurd (none-begins d n h);
      unforged = subst (All (λ kb. Made H kb xs)) (sym take-checks) (all_if _ (accepted t.result) _ tags);
      digests = subst (All (λ u. u ≡ nonce1)) (sym take-digests) (all_if _ (accepted t.result) _ digs);
      nonces = inl (cond-nil (accepted (perform (s H) w (take-reply c lent (encode q) content_buffer)).result));
    })
      where
        Source : Packet → Type 0
        Source p =
            (odd (kind_of p.body) ≡ true → who.client p.head.client ≡ true → Sent (s H) (A H) (makes p.head.client) (encode q) xs)
            × (odd (kind_of p.body) ≡ false → who.server p.head.server ≡ true → Sent (s H) (A H) (serves p.head.server) (encode q) xs)

        logged : log (A H) (taking ∷ xs) ≡ followed w c t (length xs) cs
        logged =
            (λ i. let u = pl.here i in let a = perform (s H) u (take-reply c lent (encode q) content_buffer) in
            change c (u.client c).calls (follow a.result (in_complete (a.world.client c).hand) (length xs)) (pl.calls i))
            ∙ (λ i. change c (w.client c).calls (follow (performed_on i).result (in_complete (hand_on i)) (length xs)) cs)

        none-begins : (d : ℕ) (n : List ℕ) → Begins (s H) (A H) d n taking xs → ⊥
        none-begins d n h = not_write H taking xs (λ d r n e. (let z : ◌≡◌ {A = ℕ} 0 1 = cc in omega arith)) d n h

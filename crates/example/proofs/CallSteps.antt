-- More steps of the example's shelf that keep what is known of a run: a call begins or is given up, and a reply is refused.
-- Assumes nothing.
use mathlib.Core.Path.{◌≡◌, refl, sym, ap, ◌∙◌, subst}
use mathlib.Core.Bool.{Bool, true, false, cond, not}
use mathlib.Core.List.{List, [], ◌∷◌}
use mathlib.Core.Option.{Option, none, some}
use mathlib.Core.Logic.{inl}
use Prim.Native.Nat.{ℕ, suc}
use native.Mathlib.Omega.{arith}
use lib.ListN.{length}
use Rattle.cluster.specs.Ranges.{content_room}
use Rattle.cluster.specs.Refusals.{on_refusal}
use Rattle.format.specs.Format.{Bytes}
use Rattle.protocol.specs.Values.{nonce_size, blank_candidate}
use Rattle.protocol.specs.Packet.{Packet, PacketOk, encode}
use Rattle.protocol.specs.Rules.{nobody}
use Rattle.protocol.specs.Client.{Client, Hand, Turn, refused, more, aborted, accepted, take_refusal, take_step, high_at, awaits, write_refusal_def}
use Rattle.protocol.specs.Client.{read_refusal_def, abort_refusal_def, write_step, read_step, abort_step, is_idle, in_complete, clocking, collecting, idle, begun}
use Rattle.protocol.specs.Client.{onto}
use Rattle.runs.specs.Runs.{Lent, Step, write, read, give-up, take-reply}
use Rattle.protocol.proofs.Bodies.{decode-encode, decode-nothing}
use Rattle.runs.proofs.ValueRuns.{World, After, do_values, set_client, now_values}
use Rattle.atomicity.specs.Lists.{All}
use Rattle.atomicity.specs.Steps.{StepIn, stamped_by, checked_by, digested_by, nonces_by}
use Rattle.atomicity.specs.Premises.{PartyOf, Authentic, Begins, FreshNonce}
use Rattle.atomicity.specs.Claim.{Logged, log, note, change, follow}
use Rattle.atomicity.proofs.Util.{clash, no_some, upd_here}
use Rattle.atomicity.proofs.Model.{Run, perform}
use Rattle.example.proofs.Playing.{Hashing, functions, servers_of_def, who, nonce1, s, A, Begun, Got, Made, OfWrite, Play, play_on, checked_in}
use Rattle.example.proofs.Playing.{digested_in, nonces_in}
use Rattle.example.proofs.ServeSteps.{content_buffer, content-room, takes_it, cond-nil, all_none, Owned, not_write}
use Rattle.example.proofs.TakeSteps.{turned, took, followed}

module _ (H : Hashing) where
  -- ---- a call begins

  abbrev pub writing : (c : ℕ) (r n : List ℕ) → Bytes r → Bytes n → length n ≡ nonce_size → StepIn (s H)
  writing c r n a b e = record { step = write c r n; fed = (a, (b, e)) }

  -- a call that client c begins in the world w, with n steps done
  abbrev pub entered : World → ℕ → Option (List ℕ) → ℕ → Logged
  entered w c r n =
      record { client = c; number = suc (w.client c).calls; wrote = r; begun = n; reached = none; over = none; answer = none; gave_up = false }

  abbrev pub began : World → ℕ → Hand → World
  began w c h = took H w c (record { client = begun (w.client c) h; result = more })

  -- a write with a nonce that no write had and no server got
  pub play_write : (c : ℕ) (r n : List ℕ) (rb : Bytes r) (nb : Bytes n) (ln : length n ≡ nonce_size) (was is : Bool) (xs : Run (s H)) (w : World)
      (cs : List Logged) → Play H was xs w cs → (was ≡ true → is ≡ true) → who.client c ≡ true →
      write_refusal_def (s H).config c (length r) (not (is_idle (w.client c).hand)) (w.client c).calls ≡ 0 →
      OfWrite H is c n → ((d : ℕ) → Begun H d n xs → ⊥) → (Got H n xs → ⊥) →
      Play H is (writing c r n rb nb ln ∷ xs) (began w c (clocking r n (w.client c).last)) (entered w c (some r) (length xs) ∷ cs)
  unfolding log note Authentic FreshNonce checked_by digested_by nonces_by Begins do_values write_step set_client
  play_write c r n rb nb ln was is xs w cs p up right go of new ungot =
      play_on H was is xs w cs (writing c r n rb nb ln) _ _ p up (record {
        world = ap (λ (a : After). a.world) performed;
        noted =
            (λ i. let u = p.here i in cond (accepted (perform (s H) u (write c r n)).result) (entered u c (some r) (length xs) ∷ p.calls i)
            (p.calls i))
            ∙ ap (λ (a : After). cond (accepted a.result) (entered w c (some r) (length xs) ∷ cs) cs) performed;
        party = right;
        authentic = λ q e o. absurd (no_some (sym decode-nothing ∙ e));
        fresh = λ d m h. (let e : n ≡ m = same h in (
          λ k b. new k (subst (λ (z : List ℕ). Begun H k z xs) (sym e) b),
          λ g. ungot
              (subst (λ (z : List ℕ). Got H z xs) (sym e) g),
        ));
        write = λ d m h. subst (λ (z : List ℕ). OfWrite H is d z) (same h) (subst (λ (j : ℕ). OfWrite H is j n) (whose h) of);
        unforged = all_none _ done;
        digests = all_none _ done;
        nonces = inl (cond-nil done);
      })
    where
      done : Bool
      done = accepted (perform (s H) w (write c r n)).result

      performed : perform (s H) w (write c r n) ≡ record { world = began w c (clocking r n (w.client c).last); result = more; sent = none }
      performed = ap (λ (k : ℕ). set_client (s H).P (s H).config (s H).writers (s H).keys w c
          (on_refusal k (record { client = begun (w.client c) (clocking r n (w.client c).last); result = more })
          (record { client = w.client c; result = refused k }))) go

      same : {d : ℕ} {m : List ℕ} → Begins (s H) (A H) d m (writing c r n rb nb ln) xs → n ≡ m
      same {d} {m} (r', e, o) = cc

      whose : {d : ℕ} {m : List ℕ} → Begins (s H) (A H) d m (writing c r n rb nb ln) xs → c ≡ d
      whose {d} {m} (r', e, o) = cc

  abbrev pub reads_it : ℕ → StepIn (s H)
  reads_it c = record { step = read c; fed = tt }

  pub play_read : (c : ℕ) (two : Bool) (xs : Run (s H)) (w : World) (cs : List Logged) → Play H two xs w cs → who.client c ≡ true →
      read_refusal_def (s H).config c (not (is_idle (w.client c).hand)) (w.client c).calls ≡ 0 →
      Play H two (reads_it c ∷ xs) (began w c (collecting (λ b. blank_candidate (s H).config))) (entered w c none (length xs) ∷ cs)
  unfolding log note Authentic FreshNonce checked_by digested_by nonces_by do_values read_step set_client
  play_read c two xs w cs p right go =
      play_on H two two xs w cs (reads_it c) _ _ p (λ y. y) (record {
        world = ap (λ (a : After). a.world) performed;
        noted =
            (λ i. let u = p.here i in cond (accepted (perform (s H) u (read c)).result) (entered u c none (length xs) ∷ p.calls i) (p.calls i))
            ∙ ap (λ (a : After). cond (accepted a.result) (entered w c none (length xs) ∷ cs) cs) performed;
        party = right;
        authentic = λ q e o. absurd (no_some (sym decode-nothing ∙ e));
        fresh = λ d n h. absurd (none-begins d n h);
        write = λ d n h. absurd (none-begins d n h);
        unforged = all_none _ done;
        digests = all_none _ done;
        nonces = inl (cond-nil done);
      })
    where
      done : Bool
      done = accepted (perform (s H) w (read c)).result

      performed : perform (s H) w (read c)
          ≡ record { world = began w c (collecting (λ b. blank_candidate (s H).config)); result = more; sent = none }
      performed = ap (λ (k : ℕ). set_client (s H).P (s H).config (s H).writers (s H).keys w c
          (on_refusal k (record { client = begun (w.client c) (collecting (λ b. blank_candidate (s H).config)); result = more })
          (record { client = w.client c; result = refused k }))) go

      none-begins : (d : ℕ) (n : List ℕ) → Begins (s H) (A H) d n (reads_it c) xs → ⊥
      none-begins d n h = not_write H (reads_it c) xs (λ d r n e. (let z : ◌≡◌ {A = ℕ} 0 1 = cc in omega arith)) d n h

  -- ---- a call is given up, or a reply refused: steps that check, digest and show nothing

  -- a step x of client c that leads to the turn t
  module _ (c : ℕ) (t : Turn) (x : StepIn (s H)) (w : World) where
    pub play_quiet : (two : Bool) (xs : Run (s H)) (cs : List Logged) → Play H two xs w cs →
        perform (s H) w x.step ≡ record { world = took H w c t; result = t.result; sent = none } →
        note (A H) x xs cs x.step
        ≡ change c ((A H).client xs c).calls (follow ((A H).result x xs) (in_complete ((A H).client (x ∷ xs) c).hand) (length xs)) cs →
        PartyOf (s H) (A H) who xs x.step → Authentic (s H) (A H) who x xs → ((d : ℕ) (n : List ℕ) → Begins (s H) (A H) d n x xs → ⊥) →
        checked_in H w x.step ≡ [] → digested_in H w x.step ≡ [] → nonces_in H w x.step ≡ [] →
        Play H two (x ∷ xs) (took H w c t) (followed H w c t (length xs) cs)
    unfolding log FreshNonce now_values All
    play_quiet two xs cs p does notes party true-source none-begins unchecked undigested ungot =
        play_on H two two xs w cs x _ _ p (λ y. y) (record {
          world = ap (λ (a : After). a.world) does;
          noted = ap (λ (l : List Logged). note (A H) x xs l x.step) p.calls ∙ notes ∙ logged;
          party = party;
          authentic = true-source;
          fresh = λ d n h. absurd (none-begins d n h);
          write = λ d n h. absurd (none-begins d n h);
          unforged = subst (All (λ kb. Made H kb xs)) (sym unchecked) tt;
          digests = subst (All (λ u. u ≡ nonce1)) (sym undigested) tt;
          nonces = inl ungot;
        })
      where
        after : ((perform (s H) w x.step).world.client c).hand ≡ t.client.hand
        after = ap (λ (a : After). (a.world.client c).hand) does ∙ ap (λ (cl : Client). cl.hand) (upd_here w.client c t.client)

        logged : change c ((A H).client xs c).calls (follow ((A H).result x xs) (in_complete ((A H).client (x ∷ xs) c).hand) (length xs)) cs
            ≡ followed H w c t (length xs) cs
        logged =
            (λ i. let u = p.here i in let a = perform (s H) u x.step in
            change c (u.client c).calls (follow a.result (in_complete (a.world.client c).hand) (length xs)) cs)
            ∙ (λ i. change c (w.client c).calls (follow (does i).result (in_complete (after i)) (length xs)) cs)

  abbrev pub gives_up : ℕ → StepIn (s H)
  gives_up c = record { step = give-up c; fed = tt }

  abbrev pub left : World → ℕ → Turn
  left w c = record { client = onto (w.client c) nobody idle; result = aborted (in_complete (w.client c).hand) }

  pub play_give-up : (c : ℕ) (two : Bool) (xs : Run (s H)) (w : World) (cs : List Logged) → Play H two xs w cs → who.client c ≡ true →
      abort_refusal_def (s H).config c (awaits (w.client c).hand) ≡ 0 →
      Play H two (gives_up c ∷ xs) (took H w c (left w c)) (followed H w c (left w c) (length xs) cs)
  unfolding note Authentic checked_by digested_by nonces_by do_values abort_step set_client
  play_give-up c two xs w cs p right go = play_quiet c (left w c) (gives_up c) w two xs cs p
      (ap (λ (k : ℕ). set_client (s H).P (s H).config (s H).writers (s H).keys w c
      (on_refusal k (left w c) (record { client = w.client c; result = refused k }))) go)
      refl right (λ q e o. absurd (no_some (sym decode-nothing ∙ e)))
      (λ d n h. not_write H (gives_up c) xs (λ d r n e. (let z : ◌≡◌ {A = ℕ} 0 1 = cc in omega arith)) d n h)
      (cond-nil (accepted (perform (s H) w (give-up c)).result)) (cond-nil (accepted (perform (s H) w (give-up c)).result))
      (cond-nil (accepted (perform (s H) w (give-up c)).result))

  -- ---- a reply that is refused with k + 1

  module _ (k c : ℕ) (lent : Lent) (q : Packet) (w : World) where
    abbrev pub unmoved : Turn
    unmoved = record { client = w.client c; result = refused (suc k) }

    pub refused_does : PacketOk q →
        (let cl = w.client c in take_refusal (s H).config c (some q) cl.calls (awaits cl.hand) cl.marks
        (high_at (functions H) (s H).config c (s H).writers (s H).keys cl) content_room) ≡ suc k →
        perform (s H) w (take-reply c lent (encode q) content_buffer) ≡ record { world = took H w c unmoved; result = refused (suc k); sent = none }
    unfolding do_values take_step set_client
    refused_does ok why =
        (λ i. set_client (s H).P (s H).config (s H).writers (s H).keys w c
        (take_step (functions H) (s H).config c (s H).writers (s H).keys (w.client c) (decode-encode q ok i) (content-room i)))
        ∙ ap (λ (n : ℕ). set_client (s H).P (s H).config (s H).writers (s H).keys w c
        (on_refusal n (turned H c (w.client c) q) (record { client = w.client c; result = refused n }))) why

    pub play-refused : (own : Owned H c lent) (qb : Bytes (encode q)) (two : Bool) (xs : Run (s H)) (cs : List Logged) → Play H two xs w cs →
        who.client c ≡ true → perform (s H) w (take-reply c lent (encode q) content_buffer)
        ≡ record { world = took H w c unmoved; result = refused (suc k); sent = none } →
        Play H two (takes_it H c lent q own qb ∷ xs) (took H w c unmoved) (followed H w c unmoved (length xs) cs)
    unfolding note Authentic checked_by digested_by nonces_by now_values
    play-refused own qb two xs cs p right does = play_quiet c unmoved (takes_it H c lent q own qb) w two xs cs p does
        refl right (λ r e o. clash o (ap (λ (u : World). accepted (perform (s H) u step).result) p.here ∙ not_done))
        (λ d n h. not_write H (takes_it H c lent q own qb) xs (λ d r n e. (let z : ◌≡◌ {A = ℕ} 0 1 = cc in omega arith)) d n h)
        (ap (λ (b : Bool). cond b (checked_by (s H) w.client (servers_of_def H w) step) []) not_done)
        (ap (λ (b : Bool). cond b (digested_by (s H) w.client (servers_of_def H w) (stamped_by w.client (perform (s H) w step).world.client step)
        step) []) not_done)
        (ap (λ (b : Bool). cond b (nonces_by (s H) step) []) not_done)
      where
        step : Step
        step = take-reply c lent (encode q) content_buffer

        not_done : accepted (perform (s H) w step).result ≡ false
        not_done = ap (λ (a : After). accepted a.result) does

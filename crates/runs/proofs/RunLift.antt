-- Runs: for every list of steps, bytes and values agree at every moment in states, in each result and in what is sent.
-- By induction over the steps; a step touches one party. Nothing is assumed but the primitives' lengths.
use mathlib.Core.Path.{◌≡◌, refl, sym, ap, ◌∙◌, subst}
use mathlib.Core.Bool.{Bool, true, false, cond}
use mathlib.Core.List.{List, [], ◌∷◌}
use mathlib.Core.Option.{Option, none, some}
use Prim.Native.Nat.{ℕ, ◌≤◌}
use lib.Dec.{eqb}
use lib.ListN.{length, take}
use borrow.Author.Tests.{eqb-true, leb-true}
use Rattle.cluster.specs.Config.{Config, shelf}
use Rattle.cluster.specs.Ranges.{top_faults}
use Rattle.cluster.proofs.Tests.{and_both}
use Rattle.protocol.specs.Packet.{Packet, PacketOk, decode, encode}
use Rattle.protocol.specs.Primitives.{Primitives, Lengths}
use Rattle.protocol.specs.Rules.{ByServer, upd}
use Rattle.protocol.proofs.ServerStep.{Stepped, server_step}
use Rattle.protocol.specs.ServerBytes.{Served, server_take}
use Rattle.protocol.specs.Client.{Client, Turn, Result, idle, new_client, write_step, read_step, abort_step, take_step, make_step}
use Rattle.protocol.specs.View.{hand_of, view, kept_size}
use Rattle.protocol.specs.ClientBytes.{fresh, key_of, client_make, client_take}
use Rattle.runs.specs.Runs.{Shelf, config_of, Step, write, read, make, take-reply, give-up, serve, result_of, result_by, sent_of, Machine, Machines, Done, new_call_def, set_machine, do_bytes, now_bytes, Fed}
use Rattle.runs.proofs.ValueRuns.{World, After, set_client, do_values, now_values}
use Rattle.runs.proofs.LentKeys.{take-lent}
use Rattle.format.proofs.Answers.{no_some}
use Rattle.protocol.proofs.Bodies.{decode-encode, decode-nothing}
use Rattle.protocol.proofs.Room.{Fitting, shelf-fits}
use Rattle.protocol.proofs.ServerLift as server
use Rattle.protocol.proofs.ServerLift.{Holds, blank-holds, serve_lift}
use Rattle.protocol.proofs.Marks.{marked-fresh}
use Rattle.protocol.proofs.ClientLift.{Sound, Lifted, fresh_sound}
use Rattle.protocol.proofs.Fine.{Fine, start_fine}
use Rattle.protocol.proofs.StepLift.{Good, write_good, read_good, abort_good, take_good, make_good}

module _ (P : Primitives) (law : Lengths P) (sh : Shelf) (tr : (1 ≤ sh.t) × (sh.t ≤ top_faults)) where
  abbrev s : Config
  s = config_of sh

  abbrev keys : ByServer (List ℕ)
  keys = key_of sh.keys

  fits : Fitting s
  fits = shelf-fits sh.t tr.0 tr.1

  -- ---- bytes and values at one moment, and of one step

  pub record Matches (w : Machines) (v : World) : Type 0 where
    pub client : (c : ℕ) → Lifted s (v.client c) (w.client c).call (w.client c).kept
    pub fine : (c : ℕ) → Fine s c (v.client c)
    pub memory : (b : ℕ) → 1 ≤ b → b ≤ s.servers → Holds sh.t b (v.server b) (w.memory b)

  pub record Agrees (a : After) (d : Done) : Type 0 where
    pub matches : Matches d.machines a.world
    pub result : d.result ≡ a.result
    pub sent : d.sent ≡ sent_of a.sent
    pub ok : (p : Packet) → a.sent ≡ some p → PacketOk p

  module _ (w : Machines) (v : World) (m : Matches w v) where
    sound : (c : ℕ) → Sound s (w.client c).call (w.client c).kept
    sound c = (m.client c).sound

    -- the client that the bytes stand for
    here : (c : ℕ) → Fine s c (view s (w.client c).call (w.client c).kept)
    here c = subst (λ (y : Client). Fine s c y) (sym (m.client c).seen) (m.fine c)

    -- a step of client c
    client-agrees : (c : ℕ) (u : Turn) (x : Machine) (r : Result) → Good s c u x r → Agrees (set_client P s sh.writers keys v c u)
        (set_machine P sh w c x r)
    unfolding set_client set_machine upd
    client-agrees c u x r g =
        record {
          matches = record { client = λ i. go-client i (eqb i c); fine = λ i. go_fine i (eqb i c) refl; memory = m.memory };
          result = g.result;
          sent = refl;
          ok = λ p e. no_some p e;
        }
      where
        go-client : (i : ℕ) (b : Bool) → let z = cond b x (w.client i) in Lifted (shelf sh.t) (cond b u.client (v.client i)) z.call
            z.kept
        go-client i true = g.lifted
        go-client i false = m.client i

        go_fine : (i : ℕ) (b : Bool) → eqb i c ≡ b → Fine (shelf sh.t) i (cond b u.client (v.client i))
        go_fine i true e = subst (λ (j : ℕ). Fine (shelf sh.t) j u.client) (sym (eqb-true i c e)) g.fine
        go_fine i false e = m.fine i

    -- the same step of the client that the values name
    at-client : (c : ℕ) (step : Client → Turn) (x : Machine) (r : Result) → Good s c (step (view s (w.client c).call (w.client c).kept)) x r
        → Agrees (set_client P s sh.writers keys v c (step (v.client c))) (set_machine P sh w c x r)
    at-client c step x r g = client-agrees c (step (v.client c)) x r (subst (λ (y : Client). Good s c (step y) x r) (m.client c).seen g)

    make-agrees : (c b : ℕ) (output : List ℕ) → Agrees (do_values P s sh.writers keys v (make c b output)) (do_bytes P sh w (make c b output))
    unfolding do_values do_bytes
    make-agrees c b output =
        subst
        (λ (y : Client).
        let x = make_step s c y b (length output) in let d = client_make sh.t c b (w.client c).call (w.client c).kept output in
        Agrees (record { world = v; result = result_of x.number; sent = x.packet })
        (record { machines = w; result = result_of d.result.number; sent = take d.result.count d.output }))
        (m.client c).seen
        (let (r, x) = make_good sh.t c (w.client c).call (w.client c).kept tr fits (sound c) (here c) b output in
        record { matches = m; result = r; sent = x.bytes; ok = x.ok })

    -- server b takes a packet, on values and on bytes
    abbrev stepped : ℕ → List ℕ → List ℕ → Stepped
    stepped b packet output = server_step P s (keys b) b (v.server b) (length output) (decode packet)

    abbrev served : ℕ → List ℕ → List ℕ → Served
    served b packet output = server_take P (w.memory b) (keys b) packet output

    serve-agrees : (b : ℕ) (packet output : List ℕ) → 1 ≤ b → b ≤ s.servers
        → Agrees (do_values P s sh.writers keys v (serve b packet output)) (do_bytes P sh w (serve b packet output))
    unfolding do_values do_bytes upd
    serve-agrees b packet output lo hi =
        record {
          matches = record { client = m.client; fine = m.fine; memory = λ i l k. go i l k (eqb i b) refl };
          result = ap result_of x.number;
          sent = sent_as (stepped b packet output).reply x.sent x.silent;
          ok = x.ok;
        }
      where
        x : server.Lifted sh.t b (stepped b packet output) (served b packet output)
        x = serve_lift P sh.t b (v.server b) (w.memory b) (keys b) packet output (m.memory b lo hi)

        sent_as : (o : Option Packet) → ((p : Packet) → o ≡ some p → take (served b packet output).result.count (served b packet output).output ≡
            encode p)
            → (o ≡ none → (served b packet output).result.count ≡ 0) → take (served b packet output).result.count (served b packet output).output ≡
            sent_of o
        sent_as none f g = ap (λ (n : ℕ). take n (served b packet output).output) (g refl)
        sent_as (some p) f g = f p refl

        go : (i : ℕ) → 1 ≤ i → i ≤ s.servers → (q : Bool) → eqb i b ≡ q
            → Holds sh.t i (cond q (stepped b packet output).server (v.server i)) (cond q (served b packet output).memory (w.memory i))
        go i l k true e = subst (λ (j : ℕ). Holds sh.t j (stepped b packet output).server (served b packet output).memory) (sym (eqb-true i b e))
            x.memory
        go i l k false e = m.memory i l k

    step-agrees : (x : Step) → Fed s sh.writers keys x → Agrees (do_values P s sh.writers keys v x) (do_bytes P sh w x)
    unfolding do_values do_bytes
    step-agrees (write c r n) f =
        at-client c (λ y. write_step s c y r n) _ _ (write_good sh.t c (w.client c).call (w.client c).kept tr fits (sound c) (here c) r n
        f.1.1)
    step-agrees (read c) f = at-client c (read_step s c) _ _ (read_good sh.t c (w.client c).call (w.client c).kept tr fits (sound c) (here c))
    step-agrees (make c b output) f = unfold do_values do_bytes in make-agrees c b output
    step-agrees (take-reply c lent reply output) f =
        let d = client_take P sh.t c lent.writers lent.keys (w.client c).call (w.client c).kept reply output in
        at-client c (λ y. take_step P s c sh.writers keys y (decode reply) (length output)) _ _
        (subst (λ (u : Turn). Good s c u (record { call = d.call; kept = d.kept }) (result_by d.answer d.output))
        (take-lent P s c sh.writers keys lent _ (decode reply) (length output) (here c) f.1)
        (take_good sh.t c (w.client c).call (w.client c).kept tr fits (sound c) (here c) P law lent.writers lent.keys reply output))
    step-agrees (give-up c) f = at-client c (abort_step s c) _ _ (abort_good sh.t c (w.client c).call (w.client c).kept tr fits (sound c)
        (here c))
    step-agrees (serve b packet output) f =
        let (lo, hi) = and_both _ _ f.0 in unfold do_values do_bytes in serve-agrees b packet output (leb-true 1 b lo) (leb-true b s.servers hi)

  -- ---- runs

  unfoldable pub AllFed : List Step → Type 0
  AllFed [] = Unit {0}
  AllFed (x ∷ xs) = Fed s sh.writers keys x × AllFed xs

  module _ (first : ℕ → List ℕ) (sized : (c : ℕ) → length (first c) ≡ kept_size) where
    start : (c : ℕ) → Lifted s new_client new_call_def (first c)
    unfolding view hand_of fresh
    start c =
        record {
          seen = λ i. record { calls = 0; last = 0; marks = marked-fresh i; hand = idle };
          sound = fresh_sound s 0 new_call_def (first c) (unfold fresh in refl) (sized c);
        }

    -- at every moment the bytes match the values
    pub run_matches : (l : List Step) → AllFed l → Matches (now_bytes P sh first l) (now_values P s sh.writers keys l)
    unfolding now_bytes now_values AllFed
    run_matches [] f = record { client = start; fine = start_fine s; memory = λ b lo hi. blank-holds sh.t b tr (lo, hi) }
    run_matches (x ∷ xs) f = (step-agrees (now_bytes P sh first xs) (now_values P s sh.writers keys xs) (run_matches xs f.1) x f.0).matches

    -- and each step gives the same result and sends the same packet
    pub run-agrees : (x : Step) (xs : List Step) → Fed s sh.writers keys x → AllFed xs
        → Agrees (do_values P s sh.writers keys (now_values P s sh.writers keys xs) x) (do_bytes P sh (now_bytes P sh first xs) x)
    run-agrees x xs f g = step-agrees (now_bytes P sh first xs) (now_values P s sh.writers keys xs) (run_matches xs g) x f

  -- bytes that were sent and decode to p were sent as p
  pub sent-value : {a : After} {d : Done} → Agrees a d → (packet : List ℕ) (p : Packet) → d.sent ≡ packet → decode packet ≡ some p → a.sent ≡ some p
  sent-value {a} {d} g packet p e f = go a.sent g.sent g.ok
    where
      go : (o : Option Packet) → d.sent ≡ sent_of o → ((q : Packet) → o ≡ some q → PacketOk q) → o ≡ some p
      go none b k = no_some p (sym (ap decode (sym e ∙ b) ∙ decode-nothing) ∙ f)
      go (some q) b k = sym (decode-encode q (k q refl)) ∙ ap decode (sym b ∙ e) ∙ f

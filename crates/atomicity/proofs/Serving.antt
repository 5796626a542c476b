-- How a step changes one server, and what is behind the packet that a step sends, each as a view with equations. It holds by the cases of the
-- step and of its refusals.
-- Assumes nothing.
use mathlib.Core.Path.{◌≡◌, refl, sym, ap, ◌∙◌, subst}
use mathlib.Core.Bool.{true, false, not, ◌&&◌}
use mathlib.Core.List.{List, ◌∷◌}
use mathlib.Core.Option.{Option, none, some, some-injective}
use mathlib.Core.Logic.{◌⊎◌, inl, inr}
use Prim.Native.Nat.{ℕ, zero, suc, ◌≤◌}
use lib.ListN.{length}
use lib.Dec.{eqb}
use borrow.Author.Tests.{eqb-true, eq-eqb, not-false}
use Rattle.cluster.specs.Ranges.{within}
use Rattle.cluster.specs.Refusals.{on_refusal}
use Rattle.cluster.proofs.Tests.{inside, passes}
use Rattle.protocol.specs.Packet.{Packet, decode}
use Rattle.protocol.specs.Rules.{upd}
use Rattle.protocol.specs.Server.{Server, memory_of, barred, reply_to, server_refusal}
use Rattle.protocol.proofs.ServerStep.{Stepped, server_step, answered}
use Rattle.protocol.specs.Client.{Client, Result, Made, awaits, is_idle, made, bad_faults, bad_client_def, of_write, accepted}
use Rattle.protocol.specs.Client.{make_refusal_def, make_step}
use Rattle.runs.specs.Runs.{Step, write, read, make, take-reply, give-up, serve, result_of}
use Rattle.runs.proofs.ValueRuns.{World, do_values, now_values, set_client}
use Rattle.atomicity.specs.Steps.{StepIn, System, makes, serves, packet_in}
use Rattle.atomicity.proofs.Util.{no_some, and_left, and_right, upd_case, upd_here, clash}
use Rattle.atomicity.proofs.Model.{Run, perform, now, client_at_def, server_at_def, result_at, sent_at, acts}

-- ---- a server

-- what is known of a request that is let in
pub record Asked (s : System) (j : ℕ) (p : Packet) : Type 0 where
  pub same-t : p.head.t ≡ s.config.t
  pub mine : p.head.server ≡ j
  pub allowed : barred p.head.client p.body ≡ false

pub serve-asked : (s : System) (j : ℕ) (v : Server) (p : Packet) (room : ℕ) →
    server_refusal true (some (memory_of s.config.t j v)) (some p) room ≡ 0 → Asked s j p
unfolding server_refusal
serve-asked s j v p room e =
    let z1 = passes (not (eqb p.head.t s.config.t && eqb p.head.server j)) 7 _ e in
    let z2 = passes (barred p.head.client p.body) 8 _ z1.1 in
    let a = not-false (eqb p.head.t s.config.t && eqb p.head.server j) z1.0 in
    record { same-t = eqb-true _ _ (and_left _ _ a); mine = eqb-true _ _ (and_right (eqb p.head.t s.config.t) _ a); allowed = z2.0 }

-- server j was so before step x, and is v after it
pub data Served (s : System) (j : ℕ) (was : Server) (x : Step) (v : Server) (res : Result) : Type 0 where
  same : v ≡ was → Served s j was x v res
  acted : (p : Packet) → serves j x ≡ true → packet_in x ≡ some p → Asked s j p → accepted res ≡ true → v ≡ (acts s j was p.body).server →
      Served s j was x v res

-- what is behind a reply p
pub record Behind (s : System) (j : ℕ) (was : Server) (x : Step) (v : Server) (res : Result) (p : Packet) : Type 0 where
  pub ask : Packet
  pub got : packet_in x ≡ some ask
  pub asked : Asked s j ask
  pub fine : accepted res ≡ true
  pub after : v ≡ (acts s j was ask.body).server
  pub reply : p ≡ reply_to ask (acts s j was ask.body).reply

-- a packet made by client c
pub record Making (s : System) (c : ℕ) (cl : Client) (p : Packet) : Type 0 where
  pub to : ℕ
  pub low : 1 ≤ to
  pub high : to ≤ s.config.servers
  pub busy : is_idle cl.hand ≡ false
  pub is : p ≡ made s.config.t c cl to

-- server b turned q down and d changes nothing, or let it in and d is what it does
abbrev Handled : System → ℕ → Server → Option Packet → Stepped → Type 0
Handled s b v q d = ((d.server ≡ v) × ((r : Packet) → d.reply ≡ some r → ⊥))
    ⊎ ((a : Packet) × (q ≡ some a) × Asked s b a × (d.number ≡ 0) × (d.server ≡ (acts s b v a.body).server)
    × (d.reply ≡ some (reply_to a (acts s b v a.body).reply)))

serve-view : (s : System) (b : ℕ) (v : Server) (o : List ℕ) (q : Option Packet) →
    Handled s b v q (server_step s.P s.config (s.keys b) b v (length o) q)
unfolding server_step answered server_refusal
serve-view s b v o none = inl (refl, λ r k. no_some k)
serve-view s b v o (some a) = go (server_refusal true (some (memory_of s.config.t b v)) (some a) (length o)) refl
  where
    go : (k : ℕ) → server_refusal true (some (memory_of s.config.t b v)) (some a) (length o) ≡ k →
        Handled s b v (some a) (on_refusal k (answered s.P s.config (s.keys b) b v (length o) (some a))
        (record { number = k; server = v; reply = none }))
    go zero z = inr (a, refl, serve-asked s b v a (length o) z, refl, refl, refl)
    go (suc n) z = inl (refl, λ r k. no_some k)

-- ---- one step from any world: a run's moments follow

module _ (s : System) (w : World) where
  -- server b's step
  abbrev step_of : ℕ → List ℕ → List ℕ → Stepped
  step_of b p o = server_step s.P s.config (s.keys b) b (w.server b) (length o) (decode p)

  step-served : (j : ℕ) (x : Step) → Served s j (w.server j) x ((perform s w x).world.server j) (perform s w x).result
  unfolding do_values set_client
  step-served j (write c r n) = same refl
  step-served j (read c) = same refl
  step-served j (make c b o) = same refl
  step-served j (take-reply c lent b o) = same refl
  step-served j (give-up c) = same refl
  step-served j (serve b p o) = upd_case (λ (v : Server). Served s j (w.server j) (serve b p o) v (result_of (step_of b p o).number))
      w.server b _ j (λ e. here e (serve-view s b (w.server b) o (decode p))) (λ e. same refl)
    where
      here : j ≡ b → Handled s b (w.server b) (decode p) (step_of b p o)
          → Served s j (w.server j) (serve b p o) (step_of b p o).server (result_of (step_of b p o).number)
      here e (inl q) = same (q.0 ∙ ap w.server (sym e))
      here e (inr q) = acted q.0 (eq-eqb j b e) q.1 (subst (λ (i : ℕ). Asked s i q.0) (sym e) q.2)
          (ap (λ (k : ℕ). accepted (result_of k)) q.3)
          (q.4 ∙ ap (λ (i : ℕ). (acts s i (w.server i) q.0.body).server) (sym e))

  step-answer : (j : ℕ) (x : Step) (p : Packet) → serves j x ≡ true → (perform s w x).sent ≡ some p →
      Behind s j (w.server j) x ((perform s w x).world.server j) (perform s w x).result p
  unfolding do_values set_client
  step-answer j (write c r n) p e f = clash e refl
  step-answer j (read c) p e f = clash e refl
  step-answer j (make c b o) p e f = clash e refl
  step-answer j (take-reply c lent b o) p e f = clash e refl
  step-answer j (give-up c) p e f = clash e refl
  step-answer j (serve b q o) p e f = go (serve-view s b (w.server b) o (decode q))
    where
      same-server : b ≡ j
      same-server = sym (eqb-true j b e)

      go : Handled s b (w.server b) (decode q) (step_of b q o) →
          Behind s j (w.server j) (serve b q o) (upd w.server b (step_of b q o).server j) (result_of (step_of b q o).number) p
      go (inl z) = absurd (z.1 p f)
      go (inr z) = record {
        ask = z.0;
        got = z.1;
        asked = subst (λ (i : ℕ). Asked s i z.0) same-server z.2;
        fine = ap (λ (k : ℕ). accepted (result_of k)) z.3;
        after = subst (λ (i : ℕ). upd w.server b (step_of b q o).server i ≡ (acts s i (w.server i) z.0.body).server) same-server
            (upd_here w.server b (step_of b q o).server ∙ z.4);
        reply = some-injective _ _ (sym f ∙ z.5) ∙ ap (λ (i : ℕ). reply_to z.0 (acts s i (w.server i) z.0.body).reply) same-server;
      }

  step_making : (c : ℕ) (x : Step) (p : Packet) → makes c x ≡ true → (perform s w x).sent ≡ some p → Making s c (w.client c) p
  unfolding do_values set_client make_step make_refusal_def is_idle
  step_making c (write d r n) p e f = clash e refl
  step_making c (read d) p e f = clash e refl
  step_making c (take-reply d lent b o) p e f = clash e refl
  step_making c (give-up d) p e f = clash e refl
  step_making c (serve b q o) p e f = clash e refl
  step_making c (make d b o) p e f = go (make_refusal_def s.config d b (awaits (w.client d).hand) (length o)) refl f
    where
      same-client : d ≡ c
      same-client = sym (eqb-true c d e)

      go : (k : ℕ) → make_refusal_def s.config d b (awaits (w.client d).hand) (length o) ≡ k →
          (on_refusal {A = Made} k (record { number = 0; packet = some (made s.config.t d (w.client d) b) })
          (record { number = k; packet = none })).packet ≡ some p → Making s c (w.client c) p
      go (suc n) z q = absurd (no_some q)
      go zero z q =
          let z1 = passes (bad_faults s.config) 2 _ z in
          let z2 = passes (not (within 1 s.config.servers b)) 3 _ z1.1 in
          let z3 = passes (bad_client_def (of_write (awaits (w.client d).hand)) d) 4 _ z2.1 in
          let z4 = passes (eqb (awaits (w.client d).hand) 0) 12 _ z3.1 in
          let i = inside 1 s.config.servers b z2.0 in
          record {
            to = b;
            low = i.0;
            high = i.1;
            busy = subst (λ (i : ℕ). is_idle (w.client i).hand ≡ false) same-client z4.0;
            is = sym (some-injective _ _ q) ∙ ap (λ (i : ℕ). made s.config.t i (w.client i) b) same-client;
          }

-- ---- step x after the steps xs

module _ (s : System) where
  abbrev pub ServedAt : ℕ → StepIn s → Run s → Type 0
  ServedAt j x xs = Served s j (server_at_def s xs j) x.step (server_at_def s (x ∷ xs) j) (result_at s x xs)

  pub served : (j : ℕ) (x : StepIn s) (xs : Run s) → ServedAt j x xs
  unfolding now_values
  served j x xs = step-served s (now s xs) j x.step

  abbrev pub BehindAt : ℕ → StepIn s → Run s → Packet → Type 0
  BehindAt j x xs p = Behind s j (server_at_def s xs j) x.step (server_at_def s (x ∷ xs) j) (result_at s x xs) p

  pub answer : (j : ℕ) (x : StepIn s) (xs : Run s) (p : Packet) → serves j x.step ≡ true → sent_at s x xs ≡ some p → BehindAt j x xs p
  unfolding now_values
  answer j x xs p e f = step-answer s (now s xs) j x.step p e f

  pub making : (c : ℕ) (x : StepIn s) (xs : Run s) (p : Packet) → makes c x.step ≡ true → sent_at s x xs ≡ some p → Making s c (client_at_def s xs c) p
  making c x xs p e f = step_making s (now s xs) c x.step p e f

-- What refuses a visit or a blanking, what a row's round is, and a line's step by its verb.
-- By the order of the refusals, and by cases on the verb. Assumes nothing.
use mathlib.Core.Path.{◌≡◌, refl, ap, sym, ◌∙◌, subst}
use mathlib.Core.Bool.{true, false}
use mathlib.Core.List.{List}
use Prim.Native.Nat.{ℕ, zero, suc, ◌≤◌}
use native.Mathlib.Omega.{arith}
use lib.Dec.{eqb}
use borrow.Author.Tests.{eq-eqb, leb-true}
use Rattle.cluster.specs.Config.{shelf}
use Rattle.cluster.specs.Ranges.{within, top_client, top_faults, packet_room}
use Rattle.cluster.proofs.Tests.{and_both}
use Rattle.cluster.specs.Refusals.{number_told}
use Rattle.cluster.specs.declared.Refusal.{Refusal}
use Rattle.cluster.specs.declared.Refusal.TheVariants.{Server, Client}
use Rattle.std.specs.Prelude.{Result, Err}
use Rattle.protocol.specs.Primitives.{real}
use Rattle.protocol.specs.Client.{of_write, make_refusal_def, refused}
use Rattle.protocol.specs.ClientBytes.{awaited}
use Rattle.protocol.proofs.LetIn.{no-client}
use Rattle.runs.specs.Runs.{Machines, Done, read, give-up, result_of, do_bytes}
use Rattle.server.specs.Blank.{blank_latest_def}
use Rattle.drill.specs.declared.sheet.Line.{Line}
use Rattle.drill.specs.declared.shown.Shown.{Shown}
use Rattle.drill.specs.Sheet.{is_step_def}
use Rattle.drill.specs.Steps.{drill_shelf, write_line, visit_refusal_def, visited, visit_line_def, blank_line_def, after, step_of, shown, round_shown}
use Rattle.drill.specs.Area.{call_in, memory_in, Stands, BlanksAs}
use Rattle.drill.specs.Moves.{DoneIn, StepsIn, RefusesAs, RoundIn}
use Rattle.drill.proofs.Memories.{server_put}
use Rattle.drill.proofs.Visiting.{inside}

-- ---- a visit

module _ (t : ℕ) (ht : (1 ≤ t) × (t ≤ top_faults)) (w : List ℕ) (c b : ℕ) where
  pub refuses-4 : within 1 (shelf t).servers b ≡ false → RefusesAs t w c b (Err Server)
  unfolding visit_refusal_def make_refusal_def drill_shelf shelf
  refuses-4 h =
      record { told = λ m st. rw (inside 1 top_faults t ht, h); readers = λ e. absurd (omega arith); servers = λ e. absurd (omega arith) }

  module _ (hb : (1 ≤ b) × (b ≤ (shelf t).servers)) where
    pub refuses-5 : within 1 top_client c ≡ false → RefusesAs t w c b (Err Client)
    unfolding visit_refusal_def make_refusal_def drill_shelf shelf
    refuses-5 h =
        record {
          told = λ m st.
              let q = no-client (of_write (awaited (m.client c).call)) c h in
              rw (inside 1 top_faults t ht, inside 1 (shelf t).servers b hb, q);
          readers = λ e. absurd (omega arith);
          servers = λ e. absurd (omega arith);
        }

    -- as the packet
    pub refuses_as : (hc : (1 ≤ c) × (c ≤ top_client)) {r : Result (Unit {0}) Refusal} → number_told r ≡ make_refusal_def (shelf t) c b (awaited (call_in w c)) packet_room → RefusesAs t w c b r
    unfolding visit_refusal_def drill_shelf
    refuses_as hc e =
        record {
          told = λ m st. e ∙ ap (λ x. make_refusal_def (shelf t) c b (awaited x) packet_room) (st.calls c (inside 1 top_client c hc));
          readers = λ z. hc;
          servers = λ z. hb;
        }

module _ (t : ℕ) (w : List ℕ) (c b : ℕ) where
  pub visit-refused : (n : ℕ) → ((m : Machines) → Stands t w m → n ≡ visit_refusal_def (drill_shelf t) m c b) → (n ≡ 0 → ⊥)
      → DoneIn t (λ m. visit_line_def (drill_shelf t) m c b) w w (shown (refused n))
  unfolding visit_line_def
  visit-refused zero r h = absurd (h refl)
  visit-refused (suc n) r h = record { stands = λ m st. let q = sym (r m st) in rw q st; shows = λ m st. let q = sym (r m st) in rw q refl }

  pub visit_passes : {x : Shown} {v : List ℕ} → ((m : Machines) → Stands t w m → 0 ≡ visit_refusal_def (drill_shelf t) m c b)
      → DoneIn t (λ m. visited (drill_shelf t) m c b) w v x → DoneIn t (λ m. visit_line_def (drill_shelf t) m c b) w v x
  unfolding visit_line_def
  visit_passes r d =
      record {
        stands = λ m st. let q = sym (r m st) in rw q (d.stands m st);
        shows = λ m st. let q = sym (r m st) in rw q (d.shows m st);
      }

-- ---- a blanking

module _ (t : ℕ) (w : List ℕ) (b : ℕ) where
  pub blank-refused : within 1 (shelf t).servers b ≡ false → DoneIn t (λ m. blank_line_def (drill_shelf t) m b) w w (shown (refused 4))
  unfolding blank_line_def drill_shelf
  blank-refused h = record { stands = λ m st. rw h st; shows = λ m st. rw h refl }

  pub blank_moves : {v : List ℕ} → t ≤ top_faults → (1 ≤ b) × (b ≤ (shelf t).servers) → BlanksAs (blank_latest_def (memory_in w b)) w b v
      → DoneIn t (λ m. blank_line_def (drill_shelf t) m b) w v (shown (result_of 0))
  unfolding blank_line_def drill_shelf
  blank_moves {v} ht hb e =
      let k : within 1 (shelf t).servers b ≡ true = inside 1 (shelf t).servers b hb in
      let f : (m : Machines) → Stands t w m → BlanksAs (blank_latest_def (m.memory b)) w b v = λ m st. subst
      (λ (z : List ℕ). BlanksAs (blank_latest_def z) w b v) (st.memory b k) e in
      record {
        stands = λ m st. rw k (rw (f m st).area (server_put t w m ht st b k (blank_latest_def (m.memory b)).memory (f m st).size));
        shows = λ m st. rw k refl;
      }

-- ---- the round

module _ (w : List ℕ) (c : ℕ) where
  pub round_none : within 1 top_client c ≡ false → RoundIn w c 0
  unfolding round_shown
  round_none h = record { told = λ t m st. rw h }

  pub round_some : (1 ≤ c) × (c ≤ top_client) → {r : ℕ} → r ≡ (call_in w c).tally.round → RoundIn w c r
  unfolding round_shown
  round_some hc {r} e = record { told = λ t m st. let k = inside 1 top_client c hc in rw k (e ∙ rw (st.calls c k)) }

-- ---- the verb

-- a write's fill is a byte
pub write-fill : (l : Line) → l.verb ≡ 1 → is_step_def l ≡ true → l.fill ≤ 255
unfolding is_step_def
write-fill l e h = leb-true l.fill 255 (and_both (eqb l.server 0) _ (rw (eq-eqb l.verb 1 e) at h)).1

module _ (t k : ℕ) (l : Line) (w v : List ℕ) {x : Shown} where
  pub step_write : {k' : ℕ} → l.verb ≡ 1 → StepsIn t (λ m. write_line (drill_shelf t) m k l.client l.length l.fill) w v x k'
      → StepsIn t (λ m. step_of (drill_shelf t) m k l) w v x k'
  unfolding step_of
  step_write e d = record {
    stands = λ m st. rw e (d.stands m st);
    shows = λ m st. rw e (d.shows m st);
    counts = λ m st. rw e (d.counts m st);
  }

  as-done : (f : Machines → Done) → ((m : Machines) → step_of (drill_shelf t) m k l ≡ after (drill_shelf t) m k (f m)) → DoneIn t f w v x → StepsIn t
      (λ m. step_of (drill_shelf t) m k l) w v x k
  as-done f e d =
      record { stands = λ m st. rw (e m) (d.stands m st); shows = λ m st. rw (e m) (d.shows m st); counts = λ m st. rw (e m) }

  pub step_read : l.verb ≡ 2 → DoneIn t (λ m. do_bytes real (drill_shelf t) m (read l.client)) w v x → StepsIn t
      (λ m. step_of (drill_shelf t) m k l) w v x k
  unfolding step_of
  step_read e d = as-done _ (λ m. rw e) d

  pub step-visit : l.verb ≡ 3 → DoneIn t (λ m. visit_line_def (drill_shelf t) m l.client l.server) w v x → StepsIn t
      (λ m. step_of (drill_shelf t) m k l) w v x k
  unfolding step_of
  step-visit e d = as-done _ (λ m. rw e) d

  pub step-blank : l.verb ≡ 4 → DoneIn t (λ m. blank_line_def (drill_shelf t) m l.server) w v x → StepsIn t
      (λ m. step_of (drill_shelf t) m k l) w v x k
  unfolding step_of
  step-blank e d = as-done _ (λ m. rw e) d

  pub step-stop : l.verb ≡ 5 → DoneIn t (λ m. do_bytes real (drill_shelf t) m (give-up l.client)) w v x → StepsIn t
      (λ m. step_of (drill_shelf t) m k l) w v x k
  unfolding step_of
  step-stop e d = as-done _ (λ m. rw e) d

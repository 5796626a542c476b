-- The steps of writes, reads and givings up in the work area: refused ones change nothing, the others put the client's new state at its place.
-- By the order of the refusals. Assumes nothing.
use mathlib.Core.Path.{◌≡◌, refl, sym, ap, ◌∙◌, subst}
use mathlib.Core.Bool.{Bool, true, false, not, cond}
use mathlib.Core.List.{List, []}
use Prim.Native.Nat.{ℕ, zero, suc, ◌+◌, ◌≤◌}
use native.Mathlib.Numerals.{add-one}
use lib.ListN.{length, replicate}
use lib.Dec.{ltb}
use borrow.Author.Tests.{not-true, not-false}
use Rattle.cluster.specs.Config.{shelf}
use Rattle.cluster.specs.Ranges.{within, top_faults, top_writer, top_client, top_length}
use Rattle.cluster.proofs.Tests.{within_bounds}
use Rattle.protocol.specs.declared.Call.{Call}
use Rattle.protocol.specs.declared.Answer.{Answer}
use Rattle.protocol.specs.declared.Aborted.{Aborted}
use Rattle.protocol.specs.Answers.{refused_answer, aborted_told}
use Rattle.cluster.specs.Refusals.{number_told}
use Rattle.cluster.specs.declared.Refusal.{Refusal}
use Rattle.std.specs.Prelude.{Result}
use Rattle.protocol.specs.Primitives.{real}
use Rattle.protocol.specs.Client.{refused, write_step, read_step, abort_step, write_refusal_def, read_refusal_def, abort_refusal_def, of_write, awaits, accepted}
use Rattle.protocol.specs.ClientBytes.{Begun, after, begun_by, begin_write_def, begin_read_def, give_up_def}
use Rattle.protocol.specs.View.{view}
use Rattle.protocol.proofs.LetIn.{no-client}
use Rattle.runs.specs.Runs.{Machines, read, give-up, result_of, result_by, do_bytes, set_machine}
use Rattle.drill.specs.declared.shown.Shown.{Shown}
use Rattle.drill.specs.Steps.{drill_shelf, nonce_for_def, write_line, shown}
use Rattle.drill.specs.Area.{write_in_def, read_in_def, give_up_in_def, Stands, BeginsAs, StopsAs}
use Rattle.drill.specs.Moves.{DoneIn, StepsIn}
use Rattle.drill.proofs.Standing.{left_stands, stopped_stands, nothing_put}
use Rattle.drill.proofs.Visiting.{inside}

-- ---- out of a range

-- what the code's test tells
module _ (lo hi x : ℕ) {r : Bool} (e : r ≡ not (within lo hi x)) where
  pub is-out : r ≡ true → within lo hi x ≡ false
  is-out h = not-true _ (sym e ∙ h)

  pub is_in : r ≡ false → (lo ≤ x) × (x ≤ hi)
  is_in h = within_bounds lo hi x (not-false _ (sym e ∙ h))

-- ---- refused beginnings

module _ (t c : ℕ) (ht : (1 ≤ t) × (t ≤ top_faults)) where
  pub no-writer : (x : Call) (k content nonce : List ℕ) → within 1 top_writer c ≡ false
      → begin_write_def t c x k content nonce ≡ record { result = record { number = 5; count = 0 }; call = x; kept = k }
  unfolding begin_write_def begun_by after write_step write_refusal_def shelf
  no-writer x k content nonce h = rw (inside 1 top_faults t ht, h)

  pub no_size : (x : Call) (k content nonce : List ℕ) → within 1 top_writer c ≡ true → ltb top_length (length content) ≡ true
      → begin_write_def t c x k content nonce ≡ record { result = record { number = 6; count = 0 }; call = x; kept = k }
  unfolding begin_write_def begun_by after write_step write_refusal_def shelf
  no_size x k content nonce h e = rw (inside 1 top_faults t ht, h, e)

  pub no_reader : (x : Call) (k : List ℕ) → within 1 top_client c ≡ false → begin_read_def t c x k ≡ record
      { result = record { number = 5; count = 0 }; call = x; kept = k }
  unfolding begin_read_def begun_by after read_step read_refusal_def shelf
  no_reader x k h = rw (inside 1 top_faults t ht, h)

  pub no_stopper : (x : Call) → within 1 top_client c ≡ false → give_up_def t c x ≡ record { answer = refused_answer 5; call = x }
  unfolding give_up_def after abort_step abort_refusal_def shelf
  no_stopper x h = rw (inside 1 top_faults t ht, no-client (of_write (awaits (view (shelf t) x []).hand)) c h)

-- ---- a write

module _ (t k c n fill : ℕ) (ht : t ≤ top_faults) (w : List ℕ) where
  pub write-stays : (j : ℕ) {x : Shown} → ((y : Call) (z : List ℕ) → begin_write_def t c y z (replicate n fill) (nonce_for_def (suc k)) ≡ record
      { result = record { number = suc j; count = 0 }; call = y; kept = z })
      → x ≡ shown (refused (suc j)) → StepsIn t (λ m. write_line (drill_shelf t) m k c n fill) w w x k
  unfolding write_line do_bytes set_machine drill_shelf
  write-stays j {x} e ex =
      record {
        stands = λ m st. rw (e (m.client c).call (m.client c).kept) (nothing_put t w m ht st c (m.client c) refl);
        shows = λ m st. rw (e (m.client c).call (m.client c).kept) ex;
        counts = λ m st. rw (e (m.client c).call (m.client c).kept);
      }

  module _ (hc : (1 ≤ c) × (c ≤ top_client)) {content nonce after : List ℕ} {told : Result (Unit {0}) Refusal} (ec : content ≡ replicate n fill)
      (en : nonce ≡ nonce_for_def (suc k))
      (e : BeginsAs (write_in_def t w c content nonce) w c after told) where
    begins : (m : Machines) → Stands t w m → BeginsAs (begin_write_def t c (m.client c).call (m.client c).kept (replicate n fill) (nonce_for_def (suc k))) w
        c after told
    begins m st =
        let r : write_in_def t w c content nonce ≡ begin_write_def t c (m.client c).call (m.client c).kept (replicate n fill) (nonce_for_def (suc k)) =
        rw (ec, en, st.calls c (inside 1 top_client c hc), st.kept c (inside 1 top_client c hc)) in
        subst (λ (z : Begun). BeginsAs z w c after told) r e

    pub write_moves : (k' : ℕ) → k' ≡ cond (accepted (result_of (number_told told))) (suc k) k → StepsIn t (λ m. write_line (drill_shelf t) m k c n fill) w
        after (shown (result_of (number_told told))) k'
    unfolding write_line do_bytes set_machine drill_shelf
    write_moves k' ek =
        record {
          stands = λ m st. let f = begins m st in left_stands t w m ht st c hc _ told _ f.area f.size;
          shows = λ m st. ap (λ (z : ℕ). shown (result_of z)) (begins m st).result;
          counts = λ m st. ek ∙ ap (λ (z : ℕ). cond (accepted (result_of z)) (suc k) k) (begins m st).result;
        }

pub counts-begun : (k n : ℕ) → n ≡ 0 → k + 1 ≡ cond (accepted (result_of n)) (suc k) k
counts-begun k n e = rw (e, add-one)

pub counts-refused : (k n : ℕ) → (n ≡ 0 → ⊥) → k ≡ cond (accepted (result_of n)) (suc k) k
counts-refused k zero h = absurd (h refl)
counts-refused k (suc n) h = refl

-- ---- a read

module _ (t c : ℕ) (ht : (1 ≤ t) × (t ≤ top_faults)) (w : List ℕ) where
  pub read_stays : {x : Shown} → within 1 top_client c ≡ false → x ≡ shown (refused 5) → DoneIn t (λ m. do_bytes real (drill_shelf t) m (read c)) w w x
  unfolding do_bytes set_machine drill_shelf
  read_stays {x} h ex =
      record {
        stands = λ m st. rw (no_reader t c ht (m.client c).call (m.client c).kept h) (nothing_put t w m ht.1 st c (m.client c) refl);
        shows = λ m st. rw (no_reader t c ht (m.client c).call (m.client c).kept h) ex;
      }

  pub read_moves : (hc : (1 ≤ c) × (c ≤ top_client)) {after : List ℕ} (told : Result (Unit {0}) Refusal) → BeginsAs (read_in_def t w c) w c after told
      → DoneIn t (λ m. do_bytes real (drill_shelf t) m (read c)) w after (shown (result_of (number_told told)))
  unfolding do_bytes set_machine drill_shelf
  read_moves hc {after} told e =
      let f : (m : Machines) → Stands t w m → BeginsAs (begin_read_def t c (m.client c).call (m.client c).kept) w c after told =
      λ m st. rw (st.calls c (inside 1 top_client c hc), st.kept c (inside 1 top_client c hc)) at e in
      record {
        stands = λ m st. left_stands t w m ht.1 st c hc _ told _ (f m st).area (f m st).size;
        shows = λ m st. ap (λ (z : ℕ). shown (result_of z)) (f m st).result;
      }

  -- ---- giving up

  pub stop-stays : {x : Shown} → within 1 top_client c ≡ false → x ≡ shown (refused 5) → DoneIn t (λ m. do_bytes real (drill_shelf t) m (give-up c)) w w
      x
  unfolding do_bytes set_machine drill_shelf
  stop-stays {x} h ex =
      record {
        stands = λ m st. rw (no_stopper t c ht (m.client c).call h) (nothing_put t w m ht.1 st c (m.client c) refl);
        shows = λ m st. rw (no_stopper t c ht (m.client c).call h) ex;
      }

  pub stop_moves : (hc : (1 ≤ c) × (c ≤ top_client)) {after : List ℕ} (told : Result Aborted Refusal) → StopsAs (give_up_in_def t w c) w c after told
      → DoneIn t (λ m. do_bytes real (drill_shelf t) m (give-up c)) w after (shown (result_by (aborted_told told) []))
  unfolding do_bytes set_machine drill_shelf
  stop_moves hc {after} told e =
      let f : (m : Machines) → Stands t w m → StopsAs (give_up_def t c (m.client c).call) w c after told = λ m st. rw
      (st.calls c (inside 1 top_client c hc)) at e in
      record {
        stands = λ m st. stopped_stands t w m ht.1 st c hc _ told (f m st).area;
        shows = λ m st. ap (λ (z : Answer). shown (result_by z [])) (f m st).result;
      }

-- What is put at one party's place of the work area stands there, and every other party's place is untouched: the area goes on holding what the
-- parties hold. The places are apart by their ranges. Assumes nothing.
use mathlib.Core.Path.{◌≡◌, refl, ap, sym, ◌∙◌}
use mathlib.Core.Bool.{true}
use mathlib.Core.List.{List, [], append-nil}
use mathlib.Core.Logic.{◌≢◌, ◌⊎◌, inl, inr, ⊎_elim}
use Prim.Native.Nat.{ℕ, ◌+◌, ◌-◌, ◌≤◌}
use native.Mathlib.Omega.{arith}
use lib.Dec.{eqb}
use Rattle.std.specs.Prelude.{Result, Ok, Err}
use lib.ListN.{length}
use borrow.Author.Tests.{eqb-true, eqb-false}
use Rattle.cluster.specs.Config.{shelf}
use Rattle.cluster.specs.Ranges.{within, top_client, most_servers, memory_size, top_faults}
use Rattle.cluster.proofs.Tests.{within_bounds, within_in}
use Rattle.cluster.specs.declared.Refusal.{Refusal}
use Rattle.protocol.specs.declared.Call.{Call}
use Rattle.protocol.specs.View.{kept_size}
use Rattle.format.specs.Reading.{bytes_at, put}
use Rattle.protocol.specs.Rules.{upd}
use Rattle.runs.specs.Runs.{Machine, Machines}
use Rattle.format.proofs.Answers.{at-cond}
use Rattle.format.proofs.Puts.{put-length}
use Rattle.format.proofs.Places.{part_same, part-below, part-other, slots_apart}
use Rattle.state.specs.State.{state_size, call_at, call_bytes}
use Rattle.state.proofs.Laws.{state-length, state_back}
use Rattle.drill.specs.Listing.{work_size}
use Rattle.drill.specs.Area.{server_at_def, clients_at, client_slot, client_at_def, kept_at, call_in, kept_in, memory_in, put_call_def, put_client, LeftAs, StoppedAs, Stands}

-- ---- places apart

-- two clients' slots, from a place in each
module _ (i c : ℕ) (hi : (1 ≤ i) × (i ≤ top_client)) (hc : (1 ≤ c) × (c ≤ top_client)) (d : i ≢ c) where
  other-slot : (p n q m : ℕ) → p + n ≤ client_slot → q + m ≤ client_slot → (client_at_def i + p + n ≤ client_at_def c + q) ⊎ (client_at_def c + q + m ≤ client_at_def i + p)
  unfolding client_at_def
  other-slot p n q m h k =
      let e : i - 1 ≢ c - 1 = λ z. d (omega arith) in
      ⊎_elim (λ x. inl (omega arith)) (λ x. inr (omega arith)) (slots_apart clients_at client_slot (c - 1) (i - 1) client_slot (omega arith) e)

-- a server's memory stands before every client
below-clients : (t b c : ℕ) → t ≤ top_faults → (1 ≤ b) × (b ≤ (shelf t).servers) → server_at_def b + memory_size ≤ client_at_def c
unfolding server_at_def client_at_def shelf
below-clients t b c h k = omega arith

-- ---- a client's slot

module _ (w : List ℕ) (c : ℕ) (hc : (1 ≤ c) × (c ≤ top_client)) (size : length w ≡ work_size) (x : Call)
    (l : length x.tally.marks ≡ most_servers) where
  state-fits : client_at_def c + length (call_bytes x) ≤ length w
  unfolding client_at_def
  state-fits = omega (arith, state-length x l)

  pub put-call-size : length (put_call_def w c x) ≡ work_size
  unfolding put_call_def
  put-call-size = put-length w (client_at_def c) (call_bytes x) state-fits ∙ size

  pub call_here : call_in (put_call_def w c x) c ≡ x
  unfolding call_in put_call_def
  call_here =
      let e : bytes_at (put w (client_at_def c) (call_bytes x)) (client_at_def c) state_size ≡ call_bytes x =
      ap (bytes_at (put w (client_at_def c) (call_bytes x)) (client_at_def c)) (sym (state-length x l)) ∙ part_same w (client_at_def c) (call_bytes x) state-fits in
      ap call_at (e ∙ sym (append-nil (call_bytes x))) ∙ state_back x [] l

  pub call-there : (i : ℕ) → (1 ≤ i) × (i ≤ top_client) → i ≢ c → call_in (put_call_def w c x) i ≡ call_in w i
  unfolding call_in put_call_def
  call-there i hi d =
      let z : client_at_def i + 0 ≡ client_at_def i = omega arith in
      let y : client_at_def c + 0 ≡ client_at_def c = omega arith in
      let o = other-slot i c hi hc d 0 state_size 0 (length (call_bytes x)) (omega arith) (omega (arith, state-length x l)) in
      ap call_at (part-other w (client_at_def c) (call_bytes x) state-fits (client_at_def i) state_size (rw (z, y) at o))

  pub kept_past : kept_in (put_call_def w c x) c ≡ kept_in w c
  unfolding kept_in put_call_def kept_at
  kept_past = part-other w (client_at_def c) (call_bytes x) state-fits (client_at_def c + 64) kept_size (inr (omega (arith, state-length x l)))

  pub kept_there : (i : ℕ) → (1 ≤ i) × (i ≤ top_client) → i ≢ c → kept_in (put_call_def w c x) i ≡ kept_in w i
  unfolding kept_in put_call_def kept_at
  kept_there i hi d =
      let y : client_at_def c + 0 ≡ client_at_def c = omega arith in
      let o = other-slot i c hi hc d 64 kept_size 0 (length (call_bytes x)) (omega arith) (omega (arith, state-length x l)) in
      part-other w (client_at_def c) (call_bytes x) state-fits (client_at_def i + 64) kept_size (rw y at o)

  pub memory-there : (t b : ℕ) → t ≤ top_faults → (1 ≤ b) × (b ≤ (shelf t).servers) → memory_in (put_call_def w c x) b ≡ memory_in w b
  unfolding memory_in put_call_def
  memory-there t b ht hb = part-below w (client_at_def c) (call_bytes x) state-fits (server_at_def b) memory_size (below-clients t b c ht hb)

-- the kept bytes put
module _ (w : List ℕ) (c : ℕ) (hc : (1 ≤ c) × (c ≤ top_client)) (size : length w ≡ work_size) (k : List ℕ) (l : length k ≡ kept_size) where
  kept-room : kept_at c + length k ≤ length w
  unfolding kept_at client_at_def
  kept-room = omega arith

  pub put-kept-size : length (put w (kept_at c) k) ≡ work_size
  put-kept-size = put-length w (kept_at c) k kept-room ∙ size

  pub kept_here : kept_in (put w (kept_at c) k) c ≡ k
  unfolding kept_in
  kept_here = ap (bytes_at (put w (kept_at c) k) (kept_at c)) (sym l) ∙ part_same w (kept_at c) k kept-room

  pub call-kept_here : call_in (put w (kept_at c) k) c ≡ call_in w c
  unfolding call_in kept_at
  call-kept_here = ap call_at (part-below w (client_at_def c + 64) k kept-room (client_at_def c) state_size (omega arith))

  pub call-kept-there : (i : ℕ) → (1 ≤ i) × (i ≤ top_client) → i ≢ c → call_in (put w (kept_at c) k) i ≡ call_in w i
  unfolding call_in kept_at
  call-kept-there i hi d =
      let z : client_at_def i + 0 ≡ client_at_def i = omega arith in
      let o = other-slot i c hi hc d 0 state_size 64 (length k) (omega arith) (omega arith) in
      ap call_at (part-other w (client_at_def c + 64) k kept-room (client_at_def i) state_size (rw z at o))

  pub kept-kept-there : (i : ℕ) → (1 ≤ i) × (i ≤ top_client) → i ≢ c → kept_in (put w (kept_at c) k) i ≡ kept_in w i
  unfolding kept_in kept_at
  kept-kept-there i hi d = part-other w (client_at_def c + 64) k kept-room (client_at_def i + 64) kept_size
      (other-slot i c hi hc d 64 kept_size 64 (length k) (omega arith) (omega arith))

  pub memory-kept-there : (t b : ℕ) → t ≤ top_faults → (1 ≤ b) × (b ≤ (shelf t).servers) → memory_in (put w (kept_at c) k) b ≡ memory_in w b
  unfolding memory_in kept_at
  memory-kept-there t b ht hb = let z = below-clients t b c ht hb in part-below w (client_at_def c + 64) k kept-room (server_at_def b) memory_size (omega arith)

-- ---- a party's place taken by what it holds after a step

module _ (t : ℕ) (w : List ℕ) (m : Machines) (ht : t ≤ top_faults) (st : Stands t w m) where
  pub client_put : (c : ℕ) → (1 ≤ c) × (c ≤ top_client) → (x : Call) (k : List ℕ) → length x.tally.marks ≡ most_servers → length k ≡ kept_size
      → Stands t (put_client w c x k) (record { client = upd m.client c (record { call = x; kept = k }); memory = m.memory })
  unfolding put_client upd
  client_put c hc x k lx lk =
      let v : List ℕ = put w (kept_at c) k in
      let sv : length v ≡ work_size = put-kept-size w c hc st.size k lk in
      let n : Machine = record { call = x; kept = k } in
      record {
        size = put-call-size v c hc sv x lx;
        calls = λ i hi.
            at-cond (eqb i c) n (m.client i) (λ z. call_in (put_call_def v c x) i ≡ z.call)
            (λ e. let q = eqb-true i c e in rw q (call_here v c hc sv x lx))
            (λ e.
            let r = within_bounds 1 top_client i hi in
            let d = eqb-false i c e in
            call-there v c hc sv x lx i r d ∙ call-kept-there w c hc st.size k lk i r d ∙ st.calls i hi);
        kept = λ i hi.
            at-cond (eqb i c) n (m.client i) (λ z. kept_in (put_call_def v c x) i ≡ z.kept)
            (λ e. let q = eqb-true i c e in rw q (kept_past v c hc sv x lx ∙ kept_here w c hc st.size k lk))
            (λ e.
            let r = within_bounds 1 top_client i hi in
            let d = eqb-false i c e in
            kept_there v c hc sv x lx i r d ∙ kept-kept-there w c hc st.size k lk i r d ∙ st.kept i hi);
        memory = λ b hb.
            let r = within_bounds 1 (shelf t).servers b hb in
            memory-there v c hc sv x lx t b ht r ∙ memory-kept-there w c hc st.size k lk t b ht r ∙ st.memory b hb;
      }

  -- only the small state changes
  pub call_put : (c : ℕ) → within 1 top_client c ≡ true → (x : Call) → length x.tally.marks ≡ most_servers
      → Stands t (put_call_def w c x) (record { client = upd m.client c (record { call = x; kept = (m.client c).kept }); memory = m.memory })
  unfolding upd
  call_put c hw x lx =
      let hc = within_bounds 1 top_client c hw in
      let n : Machine = record { call = x; kept = (m.client c).kept } in
      record {
        size = put-call-size w c hc st.size x lx;
        calls = λ i hi.
            at-cond (eqb i c) n (m.client i) (λ z. call_in (put_call_def w c x) i ≡ z.call)
            (λ e. let q = eqb-true i c e in rw q (call_here w c hc st.size x lx))
            (λ e. call-there w c hc st.size x lx i (within_bounds 1 top_client i hi) (eqb-false i c e) ∙ st.calls i hi);
        kept = λ i hi.
            at-cond (eqb i c) n (m.client i) (λ z. kept_in (put_call_def w c x) i ≡ z.kept)
            (λ e. let q = eqb-true i c e in rw q (kept_past w c hc st.size x lx ∙ st.kept c hw))
            (λ e. kept_there w c hc st.size x lx i (within_bounds 1 top_client i hi) (eqb-false i c e) ∙ st.kept i hi);
        memory = λ b hb. memory-there w c hc st.size x lx t b ht (within_bounds 1 (shelf t).servers b hb) ∙ st.memory b hb;
      }

  -- only the kept bytes change
  pub kept_put : (c : ℕ) → within 1 top_client c ≡ true → (k : List ℕ) → length k ≡ kept_size
      → Stands t (put w (kept_at c) k) (record { client = upd m.client c (record { call = (m.client c).call; kept = k }); memory = m.memory })
  unfolding upd
  kept_put c hw k lk =
      let hc = within_bounds 1 top_client c hw in
      let n : Machine = record { call = (m.client c).call; kept = k } in
      record {
        size = put-kept-size w c hc st.size k lk;
        calls = λ i hi.
            at-cond (eqb i c) n (m.client i) (λ z. call_in (put w (kept_at c) k) i ≡ z.call)
            (λ e. let q = eqb-true i c e in rw q (call-kept_here w c hc st.size k lk ∙ st.calls c hw))
            (λ e. call-kept-there w c hc st.size k lk i (within_bounds 1 top_client i hi) (eqb-false i c e) ∙ st.calls i hi);
        kept = λ i hi.
            at-cond (eqb i c) n (m.client i) (λ z. kept_in (put w (kept_at c) k) i ≡ z.kept)
            (λ e. let q = eqb-true i c e in rw q (kept_here w c hc st.size k lk))
            (λ e. kept-kept-there w c hc st.size k lk i (within_bounds 1 top_client i hi) (eqb-false i c e) ∙ st.kept i hi);
        memory = λ b hb. memory-kept-there w c hc st.size k lk t b ht (within_bounds 1 (shelf t).servers b hb) ∙ st.memory b hb;
      }

  -- nothing changes
  pub nothing_put : (c : ℕ) (n : Machine) → n ≡ m.client c → Stands t w (record { client = upd m.client c n; memory = m.memory })
  unfolding upd
  nothing_put c n q =
      let same : (i : ℕ) → upd m.client c n i ≡ m.client i =
      λ i. at-cond (eqb i c) n (m.client i) (λ z. z ≡ m.client i) (λ e. q ∙ ap m.client (sym (eqb-true i c e))) (λ e. refl) in
      record {
        size = st.size;
        calls = λ i hi. st.calls i hi ∙ sym (ap (λ (z : Machine). z.call) (same i));
        kept = λ i hi. st.kept i hi ∙ sym (ap (λ (z : Machine). z.kept) (same i));
        memory = st.memory;
      }

  -- a step's area, whether it was refused or not
  module _ {A : Type 0} (c : ℕ) (hc : (1 ≤ c) × (c ≤ top_client)) {v : List ℕ} (x : Call) where
    pub left_stands : (told : Result A Refusal) (k : List ℕ) → LeftAs told w c v x k → length k ≡ kept_size
        → Stands t v (record { client = upd m.client c (record { call = x; kept = k }); memory = m.memory })
    left_stands (Ok a) k e lk = rw e.0 (client_put c hc _ _ e.1 lk)
    left_stands (Err why) k e lk =
        let hw = within_in 1 top_client c hc.0 hc.1 in
        rw (e.0, e.1, st.calls c hw) (kept_put c hw _ lk)

    pub stopped_stands : (told : Result A Refusal) → StoppedAs told w c v x
        → Stands t v (record { client = upd m.client c (record { call = x; kept = (m.client c).kept }); memory = m.memory })
    stopped_stands (Ok a) e = rw e.0 (call_put c (within_in 1 top_client c hc.0 hc.1) _ e.1)
    stopped_stands (Err why) e =
        let hw = within_in 1 top_client c hc.0 hc.1 in
        rw (e.0, e.1, st.calls c hw) (nothing_put c (m.client c) refl)

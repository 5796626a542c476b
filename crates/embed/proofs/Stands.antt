-- A client's state holds its call and its kept bytes, whatever step it does: what a step puts into it is read back. So a step through the exported
-- functions gives the result and sends the bytes of the step on machines, and the states stay those of the machines. Assumes nothing.
use mathlib.Core.Path.{◌≡◌, refl, sym, ap, ◌∙◌}
use mathlib.Core.Bool.{Bool, true, false, cond}
use mathlib.Core.List.{List, ◌++◌, append_assoc}
use Prim.Native.Nat.{ℕ, ◌-◌}
use native.Mathlib.Omega.{arith}
use lib.Dec.{eqb}
use lib.ListN.{length, drop, length-append, length-drop}
use lib.Seq.{length-take-le, drop_at}
use borrow.Author.Tests.{eq-eqb}
use Rattle.cluster.specs.Config.{shelf}
use Rattle.cluster.specs.Ranges.{within, most_servers}
use Rattle.protocol.specs.declared.Call.{Call}
use Rattle.protocol.specs.Primitives.{real}
use Rattle.protocol.specs.Rules.{upd}
use Rattle.protocol.specs.Client.{Result}
use Rattle.protocol.specs.View.{kept_size}
use Rattle.format.specs.Reading.{bytes_at}
use Rattle.protocol.specs.ClientBytes.{Machine}
use Rattle.runs.specs.Runs.{Shelf, config_of, Machines, Done, set_machine}
use Rattle.protocol.proofs.ClientLift.{Sound}
use Rattle.state.specs.State.{state_size, kept_place, call_at, call_bytes}
use Rattle.state.proofs.Laws.{state-length, state_back}
use Rattle.embed.specs.Clients.{client_size, kept_of_def, state_with}
use Rattle.embed.specs.Exports.{Devices, Did, set_state}

-- ---- one state

module _ (d : List ℕ) (size : length d ≡ client_size) (c : Call) (k : List ℕ) (kept : length k ≡ kept_size)
    (marks : length c.tally.marks ≡ most_servers) where
  abbrev between : List ℕ
  between = bytes_at d state_size (kept_place - state_size)

  between-size : length between ≡ kept_place - state_size
  unfolding bytes_at
  between-size = length-take-le (kept_place - state_size) (drop state_size d) (omega (arith, length-drop state_size d))

  pub call_back : call_at (state_with d c k) ≡ c
  unfolding state_with
  call_back = state_back c (between ++ k) marks

  pub kept_back : kept_of_def (state_with d c k) ≡ k
  unfolding state_with kept_of_def
  kept_back =
      let l : length (call_bytes c ++ between) ≡ kept_place = omega (arith, length-append (call_bytes c) between, state-length c marks, between-size) in
      ap (drop kept_place) (sym (append_assoc (call_bytes c) between k)) ∙ drop_at (call_bytes c ++ between) k kept_place l

  pub size_back : length (state_with d c k) ≡ client_size
  unfolding state_with
  size_back =
      omega (arith, length-append (call_bytes c) (between ++ k), length-append between k, state-length c marks, between-size, kept)

-- ---- all states

pub record Stands (sh : Shelf) (w : Devices) (m : Machines) : Type 0 where
  pub size : (c : ℕ) → length (w.state c) ≡ client_size
  pub call : (c : ℕ) → call_at (w.state c) ≡ (m.client c).call
  pub kept : (c : ℕ) → kept_of_def (w.state c) ≡ (m.client c).kept
  pub memory : (b : ℕ) → within 1 (config_of sh).servers b ≡ true → w.memory b ≡ m.memory b

-- a step by an exported function, and on machines
pub record Same (sh : Shelf) (a : Did) (d : Done) : Type 0 where
  pub stands : Stands sh a.devices d.machines
  pub result : a.result ≡ d.result
  pub sent : a.sent ≡ d.sent

module _ (sh : Shelf) (w : Devices) (m : Machines) (st : Stands sh w m) where
  -- client c's state becomes that of the machine x
  pub client-same : (c : ℕ) (x : Machine) (r r' : Result) (e : List ℕ) → Sound (config_of sh) x.call x.kept
      → e ≡ state_with (w.state c) x.call x.kept → r' ≡ r → Same sh (set_state sh w c e r') (set_machine real sh m c x r)
  unfolding set_state set_machine upd
  client-same c x r r' e so h same =
      record {
        stands =
            record {
              size = λ i. sizes i (eqb i c);
              call = λ i. calls i (eqb i c);
              kept = λ i. keeps i (eqb i c);
              memory = st.memory;
            };
        result = same;
        sent = refl;
      }
    where
      sizes : (i : ℕ) (b : Bool) → length (cond b e (w.state i)) ≡ client_size
      sizes i true = ap length h ∙ size_back (w.state c) (st.size c) x.call x.kept so.size so.width
      sizes i false = st.size i

      calls : (i : ℕ) (b : Bool) → call_at (cond b e (w.state i)) ≡ (cond b x (m.client i)).call
      calls i true = ap call_at h ∙ call_back (w.state c) (st.size c) x.call x.kept so.size so.width
      calls i false = st.call i

      keeps : (i : ℕ) (b : Bool) → kept_of_def (cond b e (w.state i)) ≡ (cond b x (m.client i)).kept
      keeps i true = ap kept_of_def h ∙ kept_back (w.state c) (st.size c) x.call x.kept so.size so.width
      keeps i false = st.kept i

  -- server b's memory becomes another
  pub memory-same : (b : ℕ) (x y : List ℕ) → x ≡ y
      → Stands sh (record { state = w.state; memory = upd w.memory b x }) (record { client = m.client; memory = upd m.memory b y })
  unfolding upd
  memory-same b x y e = record { size = st.size; call = st.call; kept = st.kept; memory = λ i h. go i h (eqb i b) }
    where
      go : (i : ℕ) → within 1 (shelf sh.t).servers i ≡ true → (q : Bool) → cond q x (w.memory i) ≡ cond q y (m.memory i)
      go i h true = e
      go i h false = st.memory i h

pub at_self : {A : Type 0} (f : ℕ → A) (c : ℕ) (x : A) → upd f c x c ≡ x
unfolding upd
at_self f c x = rw (eq-eqb c c refl) refl

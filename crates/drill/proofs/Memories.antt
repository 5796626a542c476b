-- A server's memory put at its place stands there, every other server's memory and every client's slot is untouched.
-- The places are apart by their ranges. Assumes nothing.
use mathlib.Core.Path.{◌≡◌, ap, sym, ◌∙◌}
use mathlib.Core.Bool.{true}
use mathlib.Core.List.{List}
use mathlib.Core.Logic.{◌≢◌, ◌⊎◌, inl, inr, ⊎_elim}
use Prim.Native.Nat.{ℕ, ◌+◌, ◌-◌, ◌≤◌}
use native.Mathlib.Omega.{arith}
use lib.Dec.{eqb}
use lib.ListN.{length}
use borrow.Author.Tests.{eqb-true, eqb-false}
use Rattle.cluster.specs.Config.{shelf}
use Rattle.cluster.specs.Ranges.{within, most_servers, memory_size, top_faults}
use Rattle.cluster.proofs.Tests.{within_bounds}
use Rattle.protocol.specs.View.{kept_size}
use Rattle.format.specs.Reading.{bytes_at, put}
use Rattle.protocol.specs.Rules.{upd}
use Rattle.runs.specs.Runs.{Machines}
use Rattle.format.proofs.Answers.{at-cond}
use Rattle.format.proofs.Puts.{put-length}
use Rattle.format.proofs.Places.{part_same, part-above, part-other, slots_apart}
use Rattle.state.specs.State.{state_size, call_at}
use Rattle.drill.specs.Listing.{work_size}
use Rattle.drill.specs.Area.{server_at_def, client_at_def, kept_at, call_in, kept_in, memory_in, put_memory, Stands}

other-server : (i b : ℕ) → 1 ≤ i → 1 ≤ b → i ≢ b → (server_at_def i + memory_size ≤ server_at_def b) ⊎ (server_at_def b + memory_size ≤ server_at_def i)
unfolding server_at_def
other-server i b hi hb d =
    let e : i - 1 ≢ b - 1 = λ z. d (omega arith) in
    ⊎_elim (λ x. inl (omega arith)) (λ x. inr (omega arith)) (slots_apart 0 memory_size (b - 1) (i - 1) memory_size (omega arith) e)

module _ (w : List ℕ) (b : ℕ) (h : (1 ≤ b) × (b ≤ most_servers)) (size : length w ≡ work_size) (x : List ℕ) (l : length x ≡ memory_size) where
  memory-room : server_at_def b + length x ≤ length w
  unfolding server_at_def
  memory-room = omega arith

  before-clients : (c : ℕ) → server_at_def b + length x ≤ client_at_def c
  unfolding server_at_def client_at_def
  before-clients c = omega arith

  pub put-memory-size : length (put_memory w b x) ≡ work_size
  unfolding put_memory
  put-memory-size = put-length w (server_at_def b) x memory-room ∙ size

  pub memory_here : memory_in (put_memory w b x) b ≡ x
  unfolding memory_in put_memory
  memory_here = ap (bytes_at (put w (server_at_def b) x) (server_at_def b)) (sym l) ∙ part_same w (server_at_def b) x memory-room

  pub memory-other : (i : ℕ) → 1 ≤ i → i ≢ b → memory_in (put_memory w b x) i ≡ memory_in w i
  unfolding memory_in put_memory
  memory-other i hi d = part-other w (server_at_def b) x memory-room (server_at_def i) memory_size (rw l (other-server i b hi h.0 d))

  pub call-other : (c : ℕ) → call_in (put_memory w b x) c ≡ call_in w c
  unfolding call_in put_memory
  call-other c = ap call_at (part-above w (server_at_def b) x memory-room (client_at_def c) state_size (before-clients c))

  pub kept-other : (c : ℕ) → kept_in (put_memory w b x) c ≡ kept_in w c
  unfolding kept_in put_memory kept_at
  kept-other c = let z = before-clients c in part-above w (server_at_def b) x memory-room (client_at_def c + 64) kept_size (omega arith)

pub few-servers : (t b : ℕ) → t ≤ top_faults → (1 ≤ b) × (b ≤ (shelf t).servers) → (1 ≤ b) × (b ≤ most_servers)
unfolding shelf
few-servers t b h k = (k.0, omega arith)

pub server_put : (t : ℕ) (w : List ℕ) (m : Machines) → t ≤ top_faults → Stands t w m → (b : ℕ) → within 1 (shelf t).servers b ≡ true → (x : List ℕ) →
    length x ≡ memory_size
    → Stands t (put_memory w b x) (record { client = m.client; memory = upd m.memory b x })
unfolding upd
server_put t w m ht st b hb x l =
    let h = few-servers t b ht (within_bounds 1 (shelf t).servers b hb) in
    record {
      size = put-memory-size w b h st.size x l;
      calls = λ c hc. call-other w b h st.size x l c ∙ st.calls c hc;
      kept = λ c hc. kept-other w b h st.size x l c ∙ st.kept c hc;
      memory = λ i hi.
          at-cond (eqb i b) x (m.memory i) (λ z. memory_in (put_memory w b x) i ≡ z)
          (λ e. let q = eqb-true i b e in rw q (memory_here w b h st.size x l))
          (λ e. memory-other w b h st.size x l i (within_bounds 1 (shelf t).servers i hi).0 (eqb-false i b e) ∙ st.memory i hi);
    }

-- A cleared work area in which every server is made blank holds the start of a drill: zeros are a client that has begun no call.
-- By the places, which are apart, and by computation on zeros. Assumes nothing.
use mathlib.Core.Path.{◌≡◌, refl, ap, ◌∙◌}
use mathlib.Core.Bool.{Bool, true, false}
use mathlib.Core.List.{List}
use Prim.Native.Nat.{ℕ, ◌+◌, ◌≤◌, ◌<◌}
use native.Mathlib.Omega.{arith}
use lib.Dec.{eqb}
use lib.ListN.{length, replicate}
use borrow.Author.Tests.{eq-eqb, eqb-true, eqb-false}
use Rattle.cluster.specs.Config.{shelf}
use Rattle.cluster.specs.Ranges.{within, top_faults, top_client, memory_size}
use Rattle.cluster.proofs.Tests.{within_bounds}
use Rattle.protocol.specs.View.{kept_size}
use Rattle.protocol.specs.Memory.{encode_memory, blank_memory}
use Rattle.protocol.specs.ServerBytes.{blank_refusal, blank_step}
use Rattle.protocol.specs.ClientBytes.{fresh}
use Rattle.runs.specs.Runs.{new_call_def, now_bytes}
use Rattle.format.proofs.Places.{part-zeros}
use Rattle.wire.specs.Places.{padded}
use Rattle.state.specs.State.{call_at, tally_at_def, marks_at_def, length_at}
use Rattle.drill.specs.Listing.{work_size}
use Rattle.drill.specs.Steps.{drill_shelf, start}
use Rattle.drill.specs.Area.{client_at_def, kept_at, call_in, kept_in, memory_in, put_memory, Stands, BlanksAs}
use Rattle.drill.proofs.Slots.{memory-size}
use Rattle.drill.proofs.Memories.{few-servers, memory_here, memory-other, call-other, kept-other, put-memory-size}
use Rattle.drill.proofs.Visiting.{inside}

-- servers below b are blank, and no client has begun a call
pub record Ready (t b : ℕ) (w : List ℕ) : Type 0 where
  pub size : length w ≡ work_size
  pub low : 1 ≤ b
  pub high : b ≤ (shelf t).servers + 1
  pub calls : (c : ℕ) → within 1 top_client c ≡ true → call_in w c ≡ new_call_def
  pub kept : (c : ℕ) → within 1 top_client c ≡ true → kept_in w c ≡ replicate kept_size 0
  pub memory : (i : ℕ) → 1 ≤ i → i < b → memory_in w i ≡ encode_memory (blank_memory t i)

module _ (n : ℕ) (size : n ≡ work_size) (c : ℕ) (h : (1 ≤ c) × (c ≤ top_client)) where
  zero-call : call_in (replicate n 0) c ≡ new_call_def
  unfolding call_in call_at tally_at_def marks_at_def length_at padded client_at_def fresh
  zero-call = rw (part-zeros n (client_at_def c) 29 (omega arith))

  zero-kept : kept_in (replicate n 0) c ≡ replicate kept_size 0
  unfolding kept_in kept_at client_at_def
  zero-kept = part-zeros n (kept_at c) kept_size (omega arith)

pub ready_none : (t : ℕ) (w : List ℕ) → length w ≡ work_size → w ≡ replicate (length w) 0 → Ready t 1 w
ready_none t w s e =
    record {
      size = s;
      low = omega arith;
      high = omega arith;
      calls = λ c h. ap (λ (z : List ℕ). call_in z c) e ∙ zero-call (length w) s c (within_bounds 1 top_client c h);
      kept = λ c h. ap (λ (z : List ℕ). kept_in z c) e ∙ zero-kept (length w) s c (within_bounds 1 top_client c h);
      memory = λ i h k. absurd (omega arith);
    }

blank-made : (t b : ℕ) (d : List ℕ) → (1 ≤ t) × (t ≤ top_faults) → (1 ≤ b) × (b ≤ (shelf t).servers) → length d ≡ memory_size
    → (blank_step d t b).memory ≡ encode_memory (blank_memory t b)
unfolding blank_step blank_refusal
blank-made t b d ht hb l = rw (eq-eqb (length d) memory_size l, inside 1 top_faults t ht, inside 1 (shelf t).servers b hb)

pub ready_more : (t b : ℕ) (w v : List ℕ) → (1 ≤ t) × (t ≤ top_faults) → b ≤ (shelf t).servers → Ready t b w → BlanksAs (blank_step (memory_in w b) t b) w
    b v → Ready t (b + 1) v
ready_more t b w v ht hb r e =
    let h = few-servers t b ht.1 (r.low, hb) in
    let m = (blank_step (memory_in w b) t b).memory in
    let s = r.size in
    record {
      size = ap length e.area ∙ put-memory-size w b h s m e.size;
      low = omega arith;
      high = omega arith;
      calls = λ c k. ap (λ (z : List ℕ). call_in z c) e.area ∙ call-other w b h s m e.size c ∙ r.calls c k;
      kept = λ c k. ap (λ (z : List ℕ). kept_in z c) e.area ∙ kept-other w b h s m e.size c ∙ r.kept c k;
      memory = λ i hi k. ap (λ (z : List ℕ). memory_in z i) e.area ∙ at i hi k (eqb i b) refl;
    }
  where
    at : (i : ℕ) → 1 ≤ i → i < b + 1 → (x : Bool) → eqb i b ≡ x → memory_in (put_memory w b (blank_step (memory_in w b) t b).memory) i ≡ encode_memory
        (blank_memory t i)
    at i hi k true q =
        let h = few-servers t b ht.1 (r.low, hb) in
        let z = eqb-true i b q in
        rw z (memory_here w b h r.size (blank_step (memory_in w b) t b).memory e.size ∙ blank-made t b (memory_in w b) ht (r.low, hb)
        (memory-size w b h r.size))
    at i hi k false q =
        let h = few-servers t b ht.1 (r.low, hb) in
        let d = eqb-false i b q in
        memory-other w b h r.size (blank_step (memory_in w b) t b).memory e.size i hi d ∙ r.memory i hi (omega (arith, d))

pub ready_all : (t b : ℕ) (w : List ℕ) → (shelf t).servers < b → Ready t b w → Stands t w (start (drill_shelf t)).machines
unfolding start drill_shelf now_bytes
ready_all t b w h r =
    record {
      size = r.size;
      calls = r.calls;
      kept = r.kept;
      memory = λ i k. let (a, z) = within_bounds 1 (shelf t).servers i k in r.memory i a (omega arith);
    }

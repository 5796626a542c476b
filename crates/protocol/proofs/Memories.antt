-- Memories: what a server holds and its 40,960 bytes fix each other; a memory in its ranges has room; where reading one stops.
-- The law of the layout is a term of its shape; the bytes after it are zeros. Nothing is assumed.
use mathlib.Core.Path.{◌≡◌, refl, sym, ap, ◌∙◌}
use mathlib.Core.Bool.{true, false}
use mathlib.Core.Option.{Option, none, some, some-injective}
use mathlib.Core.List.{List, [], ◌∷◌, ◌++◌}
use Prim.Native.Nat.{ℕ, ◌+◌, ◌-◌, ◌*◌, ◌≤◌}
use native.Mathlib.Nat.{suc-mul}
use native.Mathlib.Omega.{arith}
use lib.ListN.{length, drop, replicate, length-append, length-replicate}
use lib.Dec.{eqb}
use borrow.Author.Tests.{eq-eqb, ne_eqb, eqb-true}
use Rattle.cluster.specs.Config.{Config, shelf}
use Rattle.cluster.specs.Ranges.{top_faults, memory_size, capacity}
use Rattle.format.specs.Format.{Lawful, Bytes, All, zeros, print_many, byte, seq, via, such, many}
use Rattle.protocol.specs.Values.{Write, stamp_size}
use Rattle.protocol.specs.Packet.{write_f, any_candidate_f, share_size_def}
use Rattle.protocol.specs.Memory.{Memory, distinct, memory_f, writes_place_def, zero_tail, decode_memory, encode_memory, MemoryOk}
use Rattle.format.specs.Reading.{Leaves, Stops}
use Rattle.format.proofs.Answers.{guard_some, no_some, zeros-replicate, zeros-only}
use Rattle.format.proofs.Formats.{byte_law, seq_law, via_law, keep_law}
use Rattle.format.proofs.Repeats.{many_law}
use Rattle.protocol.proofs.Packets.{write_law, write-length, any-candidate_law, any-candidate-length}
use Rattle.protocol.proofs.Room.{Fitting, shelf-fits, writes-room}

pub memory_law : Lawful memory_f
unfolding memory_f seq many
memory_law =
    keep_law _ _
    (via_law _ _ _ (λ b. refl) (λ a h. λ i. (a.0, (a.1.0, (h.1.1.1.1.0 i, a.1.1.1))))
    (seq_law _ _ (byte_law _ _)
    (λ t. seq_law _ _ (byte_law _ _)
    (λ b. seq_law _ _ (byte_law _ _) (λ n. seq_law _ _ (any-candidate_law (shelf t)) (λ l. many_law (write_f (shelf t)) (write_law (shelf t)) n))))))

-- ---- the ranges of a memory, each by its name

pub record Fields (m : Memory) : Type 0 where
  pub t_range : (1 ≤ m.t) × (m.t ≤ top_faults)
  pub server_range : (1 ≤ m.server) × (m.server ≤ (shelf m.t).servers)
  pub few : length m.writes ≤ capacity
  pub latest : (any_candidate_f (shelf m.t)).Ok m.latest
  pub writes : All (write_f (shelf m.t)).Ok m.writes
  pub once : distinct m.writes ≡ true

pub fields : (m : Memory) → MemoryOk m → Fields m
unfolding MemoryOk memory_f such via seq byte many
fields m h =
    let g = h.1 in
    record { t_range = g.0; server_range = g.1.0; few = g.1.1.0.1; latest = g.1.1.1.0; writes = g.1.1.1.1.1; once = h.0 }

pub of_fields : (m : Memory) → Fields m → MemoryOk m
unfolding MemoryOk memory_f such via seq byte many
of_fields m f =
    let z : 0 ≤ length m.writes = omega arith in
    (f.once, (f.t_range, (f.server_range, ((z, f.few), (f.latest, (refl, f.writes))))))

-- ---- room

print-length : (m : Memory) → length (memory_f.print m)
    ≡ 3 + (length ((any_candidate_f (shelf m.t)).print m.latest) + length (print_many (write_f (shelf m.t)) m.writes))
unfolding memory_f such via seq byte many
print-length m =
    omega (arith, length-append ((any_candidate_f (shelf m.t)).print m.latest) (print_many (write_f (shelf m.t)) m.writes))

-- the bytes of stored writes, and of all fields
abbrev pub writes_size : Config → List Write → ℕ
writes_size s [] = 0
writes_size s (w ∷ ws) = stamp_size + share_size_def s w.share.size + writes_size s ws

abbrev pub fields_size : Config → List Write → ℕ
fields_size s ws = writes_place_def s + writes_size s ws

writes-length : (s : Config) (ws : List Write) → All (write_f s).Ok ws → length (print_many (write_f s) ws) ≡ writes_size s ws
writes-length s [] h = refl
writes-length s (w ∷ ws) h =
    omega (arith, length-append ((write_f s).print w) (print_many (write_f s) ws), write-length s w h.0, writes-length s ws h.1)

pub fields-length : (m : Memory) → MemoryOk m → length (memory_f.print m) ≡ fields_size (shelf m.t) m.writes
fields-length m h =
    let f = fields m h in
    let s : Config = shelf m.t in
    omega (arith, print-length m, any-candidate-length s m.latest f.latest, writes-length s m.writes f.writes)

-- writes of one length
pub same_size : (s : Config) (n : ℕ) (ws : List Write) → All (λ w. w.share.size ≡ n) ws → writes_size s ws ≡ length ws * (stamp_size + share_size_def s n)
same_size s n [] h = omega arith
same_size s n (w ∷ ws) h =
    omega (
      arith,
      same_size s n ws h.1,
      ap (share_size_def s) h.0,
      suc-mul (length ws) (stamp_size + share_size_def s n),
    )

pub memory-room : (m : Memory) → MemoryOk m → length (memory_f.print m) ≤ memory_size
memory-room m h =
    let f = fields m h in
    let s : Config = shelf m.t in
    let g : Fitting s = shelf-fits m.t f.t_range.0 f.t_range.1 in
    omega (arith, print-length m, any-candidate-length s m.latest f.latest, writes-room s g m.writes f.writes, f.few, g.few)

pub memory-length : (m : Memory) → MemoryOk m → length (encode_memory m) ≡ memory_size
unfolding encode_memory
memory-length m h =
    let n : ℕ = memory_size - length (memory_f.print m) in
    omega (arith, length-append (memory_f.print m) (replicate n 0), length-replicate {A = ℕ} n 0, memory-room m h)

-- ---- the memory and its bytes

pub decode-encode-memory : (m : Memory) → MemoryOk m → decode_memory (encode_memory m) ≡ some m
unfolding decode_memory encode_memory MemoryOk
decode-encode-memory m h =
    let n : ℕ = memory_size - length (memory_f.print m) in
    let l : length (memory_f.print m ++ replicate n 0) ≡ memory_size = unfold encode_memory in memory-length m (unfold MemoryOk in h) in
    rw (eq-eqb _ _ l, memory_law.made m (replicate n 0) h, zeros-replicate n)

zero_tail_some : {A : Type 0} (o : Option (A × List ℕ)) (a : A) → zero_tail o ≡ some a → (r : List ℕ) × (o ≡ some (a, r)) × (zeros r ≡ true)
zero_tail_some none a e = no_some a e
zero_tail_some {A} (some x) a e =
    let g = guard_some (zeros x.1) (some x.0) a e in
    (x.1, ap {B = Option (A × List ℕ)} (λ (y : A). some (y, x.1)) (some-injective x.0 a g.1), g.0)

pub decode-memory-ok : (b : List ℕ) (m : Memory) → decode_memory b ≡ some m → MemoryOk m
unfolding decode_memory MemoryOk
decode-memory-ok b m e =
    let (s, g) = guard_some (eqb (length b) memory_size) (zero_tail (memory_f.parse b)) m e in
    let (r, p, z) = zero_tail_some (memory_f.parse b) m g in
    memory_law.fits b m r p

pub encode-decode-memory : (b : List ℕ) (m : Memory) → Bytes b → decode_memory b ≡ some m → encode_memory m ≡ b
unfolding decode_memory encode_memory
encode-decode-memory b m bs e =
    let (s, g) = guard_some (eqb (length b) memory_size) (zero_tail (memory_f.parse b)) m e in
    let (r, p, z) = zero_tail_some (memory_f.parse b) m g in
    let u : b ≡ memory_f.print m ++ r = memory_law.read b m r bs p in
    let l : length b ≡ memory_size = eqb-true _ _ s in
    let q : length b ≡ length (memory_f.print m) + length r = ap length u ∙ length-append (memory_f.print m) r in
    let k : length r ≡ memory_size - length (memory_f.print m) = omega arith in
    ap (λ (y : List ℕ). memory_f.print m ++ y) (ap (λ (j : ℕ). replicate j 0) (sym k) ∙ sym (zeros-only r z)) ∙ sym u

-- ---- where reading a memory ends

pub memory-size : (s : List ℕ) → (length s ≡ memory_size → ⊥) → decode_memory s ≡ none
unfolding decode_memory
memory-size s h = rw (ne_eqb _ _ h)

module _ (s : List ℕ) (size : length s ≡ memory_size) where
  pub memory_stops : Stops memory_f s 0 → decode_memory s ≡ none
  unfolding decode_memory
  memory_stops f = rw (eq-eqb _ _ size, f.stopped)

  pub memory-tail : {m : Memory} {e : ℕ} → Leaves memory_f s 0 m e → zeros (drop e s) ≡ false → decode_memory s ≡ none
  unfolding decode_memory
  memory-tail f z = rw (eq-eqb _ _ size, f.parsed, z)

  pub memory-opens : {m : Memory} {e : ℕ} → Leaves memory_f s 0 m e → zeros (drop e s) ≡ true → decode_memory s ≡ some m
  unfolding decode_memory
  memory-opens f z = rw (eq-eqb _ _ size, f.parsed, z)

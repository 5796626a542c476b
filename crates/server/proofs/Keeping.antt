-- A write kept at the end of the memory is the memory of the server with one more write.
-- There is room, since every memory in its ranges fits. Assumes nothing.
use mathlib.Core.Path.{◌≡◌, sym, ap, ◌∙◌}
use mathlib.Core.List.{List, [], ◌∷◌, ◌++◌}
use Prim.Native.Nat.{ℕ, ◌+◌, ◌≤◌, ◌<◌}
use native.Mathlib.Omega.{arith}
use lib.ListN.{length, drop, set, length-append, length-drop, length-set}
use Rattle.cluster.specs.Config.{Config, shelf}
use Rattle.cluster.specs.Ranges.{memory_size, capacity}
use Rattle.format.specs.Format.{Bytes, print_many, byte, such, via, seq, many}
use Rattle.protocol.specs.Values.{Write}
use Rattle.protocol.specs.Packet.{write_f, any_candidate_f}
use Rattle.protocol.specs.Memory.{Memory, memory_f, encode_memory, writes_place_def}
use Rattle.format.specs.Reading.{put}
use Rattle.protocol.proofs.Acts.{ServerOk}
use Rattle.format.proofs.Answers.{bytes_drop}
use Rattle.protocol.proofs.Changes.{added, print_snoc, append-bytes}
use Rattle.protocol.proofs.Memories.{of_fields, memory-room}
use Rattle.protocol.proofs.Packets.{write_law, any-candidate-length}
use Rattle.format.proofs.Puts.{wrote-byte}
use Rattle.format.proofs.Repeats.{many_law}
use Rattle.format.proofs.Walks.{many-count}
use Rattle.wire.specs.Make.{Placed, placed}
use Rattle.server.specs.declared.memory.Opened.{Opened}
use Rattle.server.specs.Reads.{OpenedAs}
use Rattle.server.specs.Answers.{memory_in, count_place, kept_bytes}
use Rattle.server.proofs.Raising.{size_few, placed_put}
use Rattle.server.proofs.Standing.{memory-bytes, memory-size_of, memory-fields}

-- the length of a memory's fields
printed : {d : List ℕ} {told : Opened} (o : OpenedAs d told)
    → length (memory_f.print (memory_in o)) ≡ writes_place_def (shelf told.t) + length (print_many (write_f (shelf told.t)) o.writes)
unfolding memory_f such via seq byte many
printed {d} {told} o =
    let t = told.t in
    let L : List ℕ = (any_candidate_f (shelf t)).print (memory_in o).latest in
    let W : List ℕ = print_many (write_f (shelf t)) o.writes in
    omega (arith, length-append L W, any-candidate-length (shelf t) (memory_in o).latest (memory-fields o).latest)

module _ {d : List ℕ} {told : Opened} (o : OpenedAs d told) (bs : Bytes d) where
  abbrev t : ℕ
  t = told.t

  abbrev n : ℕ
  n = told.count

  abbrev e : ℕ
  e = told.end

  -- the place past the stored writes
  writes_end : e ≡ length (memory_f.print (memory_in o))
  unfolding many
  writes_end =
      let s : Config = shelf t in
      let p : ℕ = writes_place_def s in
      let W : List ℕ = print_many (write_f s) o.writes in
      let u : drop p d ≡ W ++ drop e d = (many_law (write_f s) (write_law s) n).read (drop p d) o.writes (drop e d) (bytes_drop p d bs)
      o.holds.there.parsed in
      let l : length (drop p d) ≡ length W + length (drop e d) = ap length u ∙ length-append W (drop e d) in
      omega (
        arith,
        l,
        length-drop p d,
        length-drop e d,
        o.holds.there.within,
        printed o,
        memory-size_of o bs,
        size_few t
            (memory-fields o).t_range.1,
      )

  module _ (w : Write) (few : n < capacity) (ok : ServerOk (shelf t) (record { latest = (memory_in o).latest; history = o.writes ++ w ∷ [] })) where
    -- one more write fits
    fits : length (memory_f.print (memory_in o)) + length ((write_f (shelf t)).print w) ≤ memory_size
    unfolding memory_f such via seq byte many
    fits =
        let f = memory-fields o in
        let m : Memory = added (memory_in o) w in
        let r = memory-room m (of_fields m (record {
          t_range = f.t_range;
          server_range = f.server_range;
          few = ok.few;
          latest = ok.latest;
          writes = ok.writes;
          once = ok.once;
        })) in
        let L : List ℕ = (any_candidate_f (shelf t)).print (memory_in o).latest in
        let W : List ℕ = print_many (write_f (shelf t)) o.writes in
        let X : List ℕ = (write_f (shelf t)).print w in
        let a = ap length (print_snoc (write_f (shelf t)) o.writes w) ∙ length-append W X in
        omega (arith, r, a, length-append L W, length-append L (print_many (write_f (shelf t)) (o.writes ++ w ∷ [])))

    pub kept_memory : (x : List ℕ) → x ≡ (write_f (shelf t)).print w → kept_bytes d told x ≡ encode_memory (added (memory_in o) w)
    unfolding kept_bytes
    kept_memory x p =
        let c : n ≡ length o.writes = sym (many-count n (write_f (shelf t)) o.holds.there) in
        let size = memory-size_of o bs in
        let d₁ : List ℕ = set d 2 (n + 1) in
        let f : (placed d 2 ((n + 1) ∷ [])).output ≡ d₁ = placed_put d 2 ((n + 1) ∷ []) (omega (arith, size)) ∙ sym
        (wrote-byte d 2 (n + 1) (omega (arith, size))).bytes in
        let l : e + length x ≤ length d₁ = omega (arith, ap length p, writes_end, fits, length-set d 2 (n + 1), size) in
        ap (λ (y : List ℕ). (placed y e x).output) f
        ∙ placed_put d₁ e x l
        ∙ (λ i. put (set (memory-bytes_back i) 2 (c i + 1)) (writes_end i) (p i))
        ∙ append-bytes (memory_in o) w fits
      where
        memory-bytes_back : d ≡ encode_memory (memory_in o)
        memory-bytes_back = sym (memory-bytes o bs)

-- the count, then the write, as the code puts them
pub kept-made : (d : List ℕ) (told : Opened) (w : List ℕ) {j k : ℕ} {mid out : List ℕ}
    → record { next = j; output = mid } ≡ placed d count_place ((told.count + 1) ∷ [])
    → record { next = k; output = out } ≡ placed mid told.end w → out ≡ kept_bytes d told w
unfolding kept_bytes
kept-made d told w p q = ap (λ (z : Placed). z.output) q ∙ ap (λ (y : List ℕ). (placed y told.end w).output) (ap (λ (z : Placed). z.output) p)

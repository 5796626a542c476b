-- The whole check of a memory: its fields one after another, writes of which no two have one stamp, and zeros to the end.
-- Each part that breaks stops the layout there, and reading a memory ends as it says. Assumes nothing.
use mathlib.Core.Path.{◌≡◌, refl, sym, ap, ◌∙◌, subst}
use mathlib.Core.Bool.{Bool, true, false}
use mathlib.Core.List.{List}
use mathlib.Core.Logic.{◌⊎◌, inl, inr}
use mathlib.Core.Option.{none, some}
use Prim.Native.Nat.{ℕ, ◌≤◌}
use native.Mathlib.Omega.{arith}
use lib.ListN.{drop, length}
use Rattle.cluster.specs.Config.{shelf}
use Rattle.cluster.specs.Ranges.{top_faults, most_servers, memory_size, capacity}
use Rattle.cluster.proofs.Tests.{untrue}
use Rattle.format.specs.Format.{Bytes, zeros, byte, many}
use Rattle.protocol.specs.Values.{Write}
use Rattle.protocol.specs.Packet.{write_f, any_candidate_f}
use Rattle.protocol.specs.Memory.{distinct, memory_f, decode_memory, latest_place, writes_place_def}
use Rattle.protocol.specs.View.{candidate_at}
use Rattle.format.specs.Reading.{Leaves, Stops}
use Rattle.format.proofs.Leaves.{leaves-seq, leaves-via, leaves-keep, stops_first, stops_second, stops-via, stops-kept, stops-test}
use Rattle.protocol.proofs.Memories.{memory_stops, memory-tail, memory-opens}
use Rattle.protocol.proofs.Packets.{write_law}
use Rattle.format.proofs.Repeats.{many_law}
use Rattle.format.proofs.Walks.{Reads, decide, leaves_moved, many-count}
use Rattle.wire.specs.Reads.{TookAt, byte_l, any_candidate_l}
use Rattle.std.specs.Bool.{then_some}
use Rattle.std.specs.declared.option.Option as rust
use Rattle.server.specs.declared.memory.Top.{Top}
use Rattle.server.specs.Reads.{Stored, Checked, NoWrites, OpenedAs, MemoryAs}

-- ---- the parts

-- the zeros after a place, as the code tells them
tail : (d : List ℕ) (e : ℕ) {o : List ℕ} → o ≡ drop e d → {c : Bool} → c ≡ zeros o → {a : Bool} → c ≡ a → zeros (drop e d) ≡ a
tail d e p g i = ap zeros (sym p) ∙ sym g ∙ i

pub servers-most : {t S : ℕ} → t ≤ top_faults → S ≡ (shelf t).servers → S ≤ most_servers
unfolding shelf
servers-most h e = omega arith

-- a byte that was let through, by the number that its reader answers
byte-there : (lo hi : ℕ) {d : List ℕ} {at v k : ℕ} → TookAt (byte_l lo hi) d at v k → Leaves (byte lo hi) d at v k
byte-there lo hi {d} {at} {v} {k} x = subst (λ (i : ℕ). Leaves (byte lo hi) d at i k) (sym x.number) x.leaves

module _ {d : List ℕ} (size : length d ≡ memory_size) where
  pub no-t : Stops (byte 1 top_faults) d 0 → decode_memory d ≡ none
  unfolding memory_f
  no-t f = memory_stops d size (stops-kept _ _ (stops-via _ _ _ (stops_first _ _ f)))

  module _ {t p : ℕ} (x : TookAt (byte_l 1 top_faults) d 0 t p) {S : ℕ} (most : S ≡ (shelf t).servers) where
    pub no-server : Stops (byte 1 S) d p → decode_memory d ≡ none
    unfolding memory_f
    no-server f =
        let g : Stops (byte 1 (shelf t).servers) d p = subst (λ (k : ℕ). Stops (byte 1 k) d p) most f in
        memory_stops d size (stops-kept _ _ (stops-via _ _ _ (stops_second _ _ (byte-there 1 top_faults x) (stops_first _ _ g))))

    module _ {b q : ℕ} (y : TookAt (byte_l 1 S) d p b q) where
      server-there : Leaves (byte 1 (shelf t).servers) d p b q
      server-there = subst (λ (k : ℕ). Leaves (byte 1 k) d p b q) most (byte-there 1 S y)

      pub no-count : Stops (byte 0 capacity) d q → decode_memory d ≡ none
      unfolding memory_f
      no-count f =
          memory_stops d size
          (stops-kept _ _ (stops-via _ _ _ (stops_second _ _ (byte-there 1 top_faults x) (stops_second _ _ server-there (stops_first _ _ f)))))

      module _ {n r : ℕ} (z : TookAt (byte_l 0 capacity) d q n r) where
        pub no-latest : Stops (any_candidate_f (shelf t)) d r → decode_memory d ≡ none
        unfolding memory_f
        no-latest f =
            memory_stops d size
            (stops-kept _ _ (stops-via _ _ _
            (stops_second _ _ (byte-there 1 top_faults x) (stops_second _ _ server-there
            (stops_second _ _ (byte-there 0 capacity z) (stops_first _ _ f))))))

        at-latest : r ≡ latest_place
        at-latest = omega (arith, x.place, y.place, z.place)

        module _ {v k : ℕ} (l : TookAt (any_candidate_l (shelf t)) d r v k) where
          pub at-writes : k ≡ writes_place_def (shelf t)
          at-writes = omega (arith, l.place, at-latest)

          pub writes-within : writes_place_def (shelf t) ≤ length d
          writes-within = omega (arith, at-writes, l.leaves.within)

          memory-there : {ws : List Write} {e : ℕ} → Stored (shelf t) n d ws e → distinct ws ≡ true
              → Leaves memory_f d 0 (record { t = t; server = b; latest = candidate_at (shelf t) (drop r d); writes = ws }) e
          unfolding memory_f
          memory-there {ws} {e} m o =
              leaves-keep _ _
              (leaves-via _ _ _ (λ i. (t, (b, (many-count n (write_f (shelf t)) m i, (candidate_at (shelf t) (drop r d), ws)))))
              (leaves-seq _ _ (byte-there 1 top_faults x)
              (leaves-seq _ _ server-there (leaves-seq _ _ (byte-there 0 capacity z)
              (leaves-seq _ _ l.leaves (leaves_moved (sym at-writes) refl m))))))
              o

          memory_twice : {ws : List Write} {e : ℕ} → Stored (shelf t) n d ws e → distinct ws ≡ false → Stops memory_f d 0
          unfolding memory_f
          memory_twice {ws} {e} m o =
              stops-test _ _
              (leaves-via _ _ _ (λ i. (t, (b, (many-count n (write_f (shelf t)) m i, (candidate_at (shelf t) (drop r d), ws)))))
              (leaves-seq _ _ (byte-there 1 top_faults x)
              (leaves-seq _ _ server-there (leaves-seq _ _ (byte-there 0 capacity z)
              (leaves-seq _ _ l.leaves (leaves_moved (sym at-writes) refl m))))))
              o

          memory_short : Stops (many n (write_f (shelf t))) d (writes_place_def (shelf t)) → Stops memory_f d 0
          unfolding memory_f
          memory_short f =
              let g : Stops (many n (write_f (shelf t))) d k = subst (λ (j : ℕ). Stops (many n (write_f (shelf t))) d j) (sym at-writes) f in
              stops-kept _ _ (stops-via _ _ _
              (stops_second _ _ (byte-there 1 top_faults x) (stops_second _ _ server-there
              (stops_second _ _ (byte-there 0 capacity z) (stops_second _ _ l.leaves g)))))

          pub no_writes : Bytes d → NoWrites (shelf t) n d → decode_memory d ≡ none
          no_writes bs w = memory_stops d size (go (decide (many n (write_f (shelf t))) (many_law (write_f (shelf t)) (write_law (shelf t)) n) d
              (writes_place_def (shelf t)) bs writes-within))
            where
              go : Reads (many n (write_f (shelf t))) d (writes_place_def (shelf t)) ⊎ Stops (many n (write_f (shelf t))) d (writes_place_def (shelf t)) → Stops
                  memory_f d 0
              go (inl o) = memory_twice o.there (untrue _ (w o.value o.next o.there))
              go (inr f) = memory_short f

          module _ {e : ℕ} {top : rust.Option Top} (w : Checked d (record { t = t; server = b; count = n; end = e; top = top })) where
            opens : Bytes d → {o : List ℕ} → o ≡ drop e d → {c : Bool} → c ≡ zeros o → c ≡ true
                → OpenedAs d (record { t = t; server = b; count = n; end = e; top = top })
            opens bs f g i =
                record {
                  bytes = bs;
                  writes = w.writes;
                  holds = w.holds;
                  decoded = subst (λ (j : ℕ). decode_memory d ≡ some (record {
                    t = t;
                    server = b;
                    latest = candidate_at (shelf t) (drop j d);
                    writes =
                        w.writes;
                  }))
                      at-latest (memory-opens d size (memory-there w.holds.there w.once) (tail d e f g i));
                }

            no-tail : {o : List ℕ} → o ≡ drop e d → {c : Bool} → c ≡ zeros o → c ≡ false → decode_memory d ≡ none
            no-tail f g i = memory-tail d size (memory-there w.holds.there w.once) (tail d e f g i)

            -- what is told of the memory, by its last test
            pub opens-as : Bytes d → {o : List ℕ} → o ≡ drop e d → {c : Bool} → c ≡ zeros o
                → MemoryAs d (then_some c (record { t = t; server = b; count = n; end = e; top = top }))
            opens-as bs {o} f {c} g = go c refl
              where
                go : (a : Bool) → c ≡ a → MemoryAs d (then_some a (record { t = t; server = b; count = n; end = e; top = top }))
                go true q = opens bs f g q
                go false q = no-tail f g q

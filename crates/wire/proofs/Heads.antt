-- A packet's head is let through field by field; its last rule is that the server is one of the shelf's.
-- Assumes nothing.
use mathlib.Core.Path.{refl, sym, subst}
use mathlib.Core.List.{List}
use Prim.Native.Nat.{ℕ, ◌≤◌, ◌<◌}
use native.Mathlib.Omega.{arith}
use borrow.Author.Tests.{le-leb, lt-leb}
use Rattle.cluster.specs.Config.{shelf}
use Rattle.cluster.specs.Ranges.{top_client, most_servers, top_faults, top_number}
use Rattle.format.specs.Format.{Fmt, byte}
use Rattle.protocol.specs.Packet.{head_f, head_size}
use Rattle.format.specs.Reading.{Leaves, Stops}
use Rattle.format.proofs.Leaves.{leaves-seq, leaves-via, leaves-keep, stops-test}
use Rattle.wire.specs.Reads.{TookAt, Past, number_l, byte_l, number4_l}

-- a number that was let through
at_value : {F : Fmt ℕ} {X : List ℕ → ℕ} {w : ℕ} {s : List ℕ} {at v next : ℕ} → TookAt (number_l F X w) s at v next → Leaves F s at v next
at_value {F} {X} {w} {s} {at} {v} {next} t = subst (λ (x : ℕ). Leaves F s at x next) (sym t.number) t.leaves

module _ {s : List ℕ} {k p c q b r t u n e : ℕ} (x : TookAt (byte_l 1 12) s 0 k p) (y : TookAt (byte_l 1 top_client) s p c q)
    (z : TookAt (byte_l 1 most_servers) s q b r)
    (w : TookAt (byte_l 1 top_faults) s r t u) (v : TookAt (number4_l 1 top_number) s u n e) where
  pub head-took : b ≤ (shelf t).servers → Past head_f s 0 (record { kind = k; client = c; server = b; t = t; call = n }) e head_size
  unfolding head_f
  head-took h =
      record {
        leaves =
            leaves-keep _ _
            (leaves-via _ _ _ refl
            (leaves-seq _ _ (at_value x) (leaves-seq _ _ (at_value y) (leaves-seq _ _ (at_value z) (leaves-seq _ _ (at_value w) (at_value v))))))
            (le-leb b (shelf t).servers h);
        place = omega (arith, x.place, y.place, z.place, w.place, v.place);
      }

  pub head-outside : (shelf t).servers < b → Stops head_f s 0
  unfolding head_f
  head-outside h =
      stops-test _ _
      (leaves-via _ _ _ refl
      (leaves-seq _ _ (at_value x) (leaves-seq _ _ (at_value y) (leaves-seq _ _ (at_value z) (leaves-seq _ _ (at_value w) (at_value v))))))
      (lt-leb b (shelf t).servers h)

-- a number is in its range
pub byte_range : (lo hi : ℕ) {s : List ℕ} {at v next : ℕ} → TookAt (byte_l lo hi) s at v next → (lo ≤ v) × (v ≤ hi)
unfolding byte
byte_range lo hi t = (at_value t).ok

-- What the parts of a packet say of the whole, for every kind: its readers leave the packet, a part that stops refuses it, and so does a byte too
-- many. By the kinds of Bodies and the composition of Leaves. Nothing is assumed.
use mathlib.Core.Path.{◌≡◌, ◌∙◌}
use mathlib.Core.Option.{none, some}
use mathlib.Core.List.{List}
use Prim.Native.Nat.{ℕ, ◌≤◌, ◌<◌}
use lib.ListN.{length, drop, drop_of_length-le}
use lib.Seq.{drop-cons}
use Rattle.cluster.specs.Config.{Config}
use Rattle.format.specs.Format.{Fmt, seq, via}
use Rattle.protocol.specs.Packet.{Body, Packet, kind_of, body_f, head_f, packet_f, decode, PacketOk}
use Rattle.format.specs.Reading.{Leaves, Stops}
use Rattle.format.proofs.Leaves.{stops_first, stops-via}
use Rattle.protocol.proofs.Bodies.{Kind, decode-ok}

-- ---- the whole of the bytes

module _ {s : List ℕ} where
  pub decoded : {p : Packet} {k : ℕ} → Leaves packet_f s 0 p k → length s ≤ k → decode s ≡ some p
  unfolding decode
  decoded f h = rw (f.parsed, drop_of_length-le s h)

  pub refused : Stops packet_f s 0 → decode s ≡ none
  unfolding decode
  refused f = rw f.stopped

  pub trailing : {p : Packet} {k : ℕ} → Leaves packet_f s 0 p k → k < length s → decode s ≡ none
  unfolding decode
  trailing {p} {k} f h = rw (f.parsed, drop-cons s k 0 h)

-- ---- head and body

module _ {A : Type 0} {F : Fmt A} {con : A → Body} {s : List ℕ} {at : ℕ} where
  pub body-leaves : {c : Config} {k : ℕ} {a : A} {n : ℕ} → Kind c k F con → Leaves F s at a n → Leaves (body_f c k) s at (con a) n
  unfolding body_f
  body-leaves {a = a} d g = record { parsed = d.parses (drop at s) ∙ rw g.parsed; within = g.within; ok = (d.kind a, d.ok a g.ok) }

  pub body_stops : {c : Config} {k : ℕ} → Kind c k F con → Stops F s at → Stops (body_f c k) s at
  unfolding body_f
  body_stops d g = record { stopped = d.parses (drop at s) ∙ rw g.stopped }

pub head_stops : {s : List ℕ} → Stops head_f s 0 → Stops packet_f s 0
unfolding packet_f
head_stops f = stops-via _ _ _ (stops_first _ _ f)

-- ---- what a decoded packet tells

-- its kind is its body's
pub kind_ok : (p : Packet) → PacketOk p → kind_of p.body ≡ p.head.kind
unfolding PacketOk packet_f via seq body_f
kind_ok p h = h.1.0

pub kind-decoded : (s : List ℕ) (p : Packet) → decode s ≡ some p → kind_of p.body ≡ p.head.kind
kind-decoded s p e = kind_ok p (decode-ok s p e)

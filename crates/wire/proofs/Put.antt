-- A total writer wrote its bytes where there is room for them, and nothing where there is none; and a packet is its head and its body written one
-- after the other. Assumes nothing.
use mathlib.Core.Path.{◌≡◌, ap, ◌∙◌}
use mathlib.Core.List.{List, [], ◌∷◌, ◌++◌}
use Prim.Native.Nat.{ℕ, ◌+◌, ◌≤◌, ◌<◌}
use native.Mathlib.Omega.{arith}
use lib.ListN.{length, length-append}
use borrow.Author.Tests.{le-leb, lt-leb, lt-ltb, le-ltb}
use Rattle.cluster.specs.Ranges.{packet_room}
use Rattle.cluster.specs.Refusals.{wrong_size}
use Rattle.protocol.specs.declared.Head.{Head}
use Rattle.hmac.specs.Hmac.{tag_size}
use Rattle.protocol.specs.declared.Stamp.{Stamp}
use Rattle.format.specs.Format.{print4, such, via, seq, number4, byte, run}
use Rattle.protocol.specs.Values.{stamp_size}
use Rattle.protocol.specs.Packet.{stamp_f, head_f, head_size}
use Rattle.format.specs.Reading.{over, put, Wrote}
use Rattle.protocol.proofs.Packets.{head-length, stamp-length}
use Rattle.format.proofs.Puts.{put-over, wrote_then, wrote-length}
use Rattle.wire.specs.Make.{Placed, placed, put_step_def, packet_step}

module _ {d e : List ℕ} {at n : ℕ} {b : List ℕ} where
  pub placed-wrote : record { next = n; output = e } ≡ placed d at b → at + length b ≤ length d → Wrote d at b e n
  unfolding placed
  placed-wrote p h =
      let q : placed d at b ≡ record { next = at + length b; output = put d at b } = simp (le-leb (at + length b) (length d) h) in
      record { bytes = ap (λ (x : Placed). x.output) (p ∙ q); place = ap (λ (x : Placed). x.next) (p ∙ q) }

  pub wrote-placed : Wrote d at b e n → at + length b ≤ length d → record { next = n; output = e } ≡ placed d at b
  unfolding placed
  wrote-placed w h = rw (w.bytes, w.place) (simp (le-leb (at + length b) (length d) h))

pub none-placed : (d : List ℕ) (at : ℕ) (b : List ℕ) → length d < at + length b → record { next = at; output = d } ≡ placed d at b
unfolding placed
none-placed d at b h = simp (lt-leb (at + length b) (length d) h)

-- ---- one after another

module _ {d e f : List ℕ} {at k n : ℕ} (a b : List ℕ) where
  pub placed_then : record { next = k; output = e } ≡ placed d at a → record { next = n; output = f } ≡ placed e k b → at + length a + length b ≤
      length d
      → Wrote d at (a ++ b) f n
  placed_then p q h =
      let w = placed-wrote p (omega arith) in
      let l = wrote-length w (omega arith) in
      wrote_then w (placed-wrote q (omega (arith, w.place))) h

-- ---- stamps

module _ (x : Stamp) (d : List ℕ) (at : ℕ) (l : length x.tag ≡ tag_size) where
  pub no-stamp : length d < at + stamp_size → record { next = at; output = d } ≡ placed d at (stamp_f.print x)
  no-stamp h = none-placed d at (stamp_f.print x) (omega (arith, stamp-length x l))

  pub stamp-placed : {e f g : List ℕ} {a b n : ℕ} → at + stamp_size ≤ length d → record { next = a; output = e } ≡ placed d at (print4 x.number)
      → record { next = b; output = f } ≡ placed e a (x.writer ∷ []) → record { next = n; output = g } ≡ placed f b x.tag
      → record { next = n; output = g } ≡ placed d at (stamp_f.print x)
  unfolding stamp_f via seq number4 byte run
  stamp-placed {e} {f} {g} {a} {b} {n} h p q r =
      let w₁ = placed-wrote p (omega arith) in
      let l₁ = wrote-length w₁ (omega arith) in
      let w₂ = placed_then (x.writer ∷ []) x.tag q r (omega (arith, w₁.place)) in
      wrote-placed (wrote_then w₁ w₂ (omega arith)) (omega arith)

-- ---- heads

module _ (h : Head) (d : List ℕ) (at : ℕ) where
  pub no-head : length d < at + head_size → record { next = at; output = d } ≡ placed d at (head_f.print h)
  no-head l = none-placed d at (head_f.print h) (omega (arith, head-length h))

  pub head-placed : {e f : List ℕ} {a n : ℕ} → at + head_size ≤ length d
      → record { next = a; output = e } ≡ placed d at (h.kind ∷ h.client ∷ h.server ∷ h.t ∷ [])
      → record { next = n; output = f } ≡ placed e a (print4 h.call) → record { next = n; output = f } ≡ placed d at (head_f.print h)
  unfolding head_f such via seq byte number4
  head-placed l p q =
      wrote-placed (placed_then (h.kind ∷ h.client ∷ h.server ∷ h.t ∷ []) (print4 h.call) p q (omega arith)) (omega arith)

-- ---- packets

module _ (h : Head) (first second output : List ℕ) where
  size : length (head_f.print h ++ (first ++ second)) ≡ head_size + length first + length second
  size = omega (arith, length-append (head_f.print h) (first ++ second), length-append first second, head-length h)

  pub short_buffer : length output < packet_room → record { result = record { number = 15; count = 0 }; output = output } ≡ packet_step h first second
      output
  unfolding packet_step put_step_def
  short_buffer l = simp (lt-ltb (length output) packet_room l)

  pub short-room : packet_room ≤ length output → length output < head_size + length first + length second
      → record { result = record { number = wrong_size; count = 0 }; output = output } ≡ packet_step h first second output
  unfolding packet_step put_step_def
  short-room l k =
      simp (le-ltb (length output) packet_room l, lt-ltb (length output) (length (head_f.print h ++ (first ++ second))) (omega (arith, size)))

  pub packet-made : {e f g : List ℕ} {a b n : ℕ} → packet_room ≤ length output → head_size + length first + length second ≤ length output
      → record { next = a; output = e } ≡ placed output 0 (head_f.print h) → record { next = b; output = f } ≡ placed e a first
      → record { next = n; output = g } ≡ placed f b second → record { result = record { number = 0; count = n }; output = g } ≡ packet_step h first
      second output
  unfolding packet_step put_step_def
  packet-made {e} {f} {g} {a} {b} {n} l k p q r =
      let bytes : List ℕ = head_f.print h ++ (first ++ second) in
      let w₁ = placed-wrote p (omega (arith, head-length h)) in
      let l₁ = wrote-length w₁ (omega (arith, head-length h)) in
      let w₂ = placed_then first second q r (omega (arith, w₁.place, head-length h)) in
      let w : Wrote output 0 bytes g n = wrote_then w₁ w₂ (omega (arith, head-length h, length-append first second)) in
      let x : g ≡ over bytes output = w.bytes ∙ put-over output bytes in
      let y : n ≡ length bytes = omega (arith, w.place) in
      rw (x, y) (simp (le-ltb (length output) packet_room l, le-ltb (length output) (length bytes) (omega (arith, size))))

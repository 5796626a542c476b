-- For callers of the packet reader and of the packet maker: a packet that was let through is its head's bytes and its body's, its head is in its
-- ranges, what is told of its body stands at its place, and what is made of a head and a body's bytes is the packet's encoding. By the round-trip
-- laws of crate protocol.
-- Assumes nothing.
use mathlib.Core.Path.{◌≡◌, refl, sym, ap, ◌∙◌}
use mathlib.Core.List.{List, [], ◌∷◌, ◌++◌, append-nil}
use mathlib.Core.Option.{some}
use Prim.Native.Nat.{ℕ, ◌≤◌}
use native.Mathlib.Omega.{arith}
use lib.ListN.{length, drop, get_or}
use lib.Seq.{drop_at}
use borrow.Author.Tests.{leb-true, le-ltb}
use Rattle.cluster.specs.Config.{Config, shelf}
use Rattle.cluster.specs.Ranges.{top_client, top_faults, top_number, packet_room}
use Rattle.protocol.specs.declared.Head.{Head}
use Rattle.format.specs.Format.{Bytes, such, via, seq, byte, number4, many, optional, print_many, print_optional}
use Rattle.protocol.specs.Packet.{stamp_f, any_stamp_f, share_f, write_f, candidate_f, any_candidate_f, candidates_f, held_f, code_f, Body, clock, clock_reply, store, store_reply, complete, complete_reply, collect, collect_reply, filter, filter_reply, repair, repair_reply, Packet, print_body, head_f, head_size, body_f, packet_f, decode, encode, PacketOk}
use Rattle.format.specs.Reading.{over}
use Rattle.protocol.proofs.Bodies.{decode-ok, encode-decode}
use Rattle.protocol.proofs.Packets.{head-length}
use Rattle.protocol.proofs.PacketRoom.{packet-room}
use Rattle.protocol.specs.Values.{label_of}
use Rattle.protocol.specs.View.{stamp_at_def}
use Rattle.wire.specs.Places.{body_at, packet_at, body_label, body_number}
use Rattle.wire.specs.Make.{put_step_def, packet_step}
use Rattle.wire.proofs.Whole.{count_of}

-- ---- what was let through

pub encode-parts : (p : Packet) → encode p ≡ head_f.print p.head ++ print_body (shelf p.head.t) p.body
unfolding encode packet_f via seq body_f
encode-parts p = refl

module _ (s : List ℕ) (p : Packet) (e : decode s ≡ some p) where
  pub body_bytes : Bytes s → drop head_size s ≡ print_body (shelf p.head.t) p.body
  body_bytes bs =
      ap (drop head_size) (sym (encode-decode s p bs e) ∙ encode-parts p)
      ∙ drop_at (head_f.print p.head) (print_body (shelf p.head.t) p.body) head_size (head-length p.head)

  pub record HeadRanges (h : Head) : Type 0 where
    pub kind : (1 ≤ h.kind) × (h.kind ≤ 12)
    pub client : (1 ≤ h.client) × (h.client ≤ top_client)
    pub server : (1 ≤ h.server) × (h.server ≤ (shelf h.t).servers)
    pub t : (1 ≤ h.t) × (h.t ≤ top_faults)
    pub call : (1 ≤ h.call) × (h.call ≤ top_number)

  pub head_ranges : HeadRanges p.head
  unfolding PacketOk packet_f head_f such via seq byte number4
  head_ranges =
      let (r, (k, (c, (b, (t, n))))) = (decode-ok s p e).0 in
      record { kind = k; client = c; server = (b.0, leb-true p.head.server (shelf p.head.t).servers r); t = t; call = n }

-- ---- what is made

module _ (p : Packet) (first second output : List ℕ) (e : print_body (shelf p.head.t) p.body ≡ first ++ second) where
  pub made-encode : packet_step p.head first second output ≡ put_step_def (encode p) output
  unfolding packet_step
  made-encode = ap (λ (b : List ℕ). put_step_def b output) (ap (λ (b : List ℕ). head_f.print p.head ++ b) (sym e) ∙ sym (encode-parts p))

  pub made-accepted : PacketOk p → packet_room ≤ length output
      → packet_step p.head first second output ≡ record {
        result = record { number = 0; count = length (encode p) };
        output = over (encode p) output;
      }
  unfolding put_step_def
  made-accepted ok h =
      made-encode ∙ simp (le-ltb (length output) packet_room h, le-ltb (length output) (length (encode p)) (omega (arith, packet-room p ok)))

-- ---- makers for all kinds: the two runs of each kind's body, and what is made of them

abbrev pub runs : Config → Body → List ℕ × List ℕ
runs s clock = ([], [])
runs s (clock_reply x) = (any_stamp_f.print x, [])
runs s (store x) = (stamp_f.print x.stamp, (share_f s).print x.share)
runs s (store_reply x) = (x ∷ [], [])
runs s (complete x) = ((candidate_f s).print x, [])
runs s complete_reply = ([], [])
runs s collect = ([], [])
runs s (collect_reply x) = ((any_candidate_f s).print x, [])
runs s (filter x) = (length x ∷ [], print_many (candidate_f s) x)
runs s (filter_reply x) = (any_stamp_f.print x.stamp, print_optional (share_f s) x.share)
runs s (repair x) = ((candidate_f s).print x, [])
runs s repair_reply = ([], [])

body-runs : (s : Config) (x : Body) → print_body s x ≡ (runs s x).0 ++ (runs s x).1
unfolding write_f code_f candidates_f held_f via seq such byte many optional
body-runs s clock = refl
body-runs s (clock_reply x) = sym (append-nil (any_stamp_f.print x))
body-runs s (store x) = refl
body-runs s (store_reply x) = refl
body-runs s (complete x) = sym (append-nil ((candidate_f s).print x))
body-runs s complete_reply = refl
body-runs s collect = refl
body-runs s (collect_reply x) = sym (append-nil ((any_candidate_f s).print x))
body-runs s (filter x) = refl
body-runs s (filter_reply x) = refl
body-runs s (repair x) = sym (append-nil ((candidate_f s).print x))
body-runs s repair_reply = refl

pub made_of : (p : Packet) (output : List ℕ)
    → packet_step p.head (runs (shelf p.head.t) p.body).0 (runs (shelf p.head.t) p.body).1 output ≡ put_step_def (encode p) output
made_of p output = made-encode p _ _ output (body-runs (shelf p.head.t) p.body)

-- ---- what is told of a packet's body, by its place

module _ (h : Head) (s : List ℕ) where
  pub told-stamp : h.kind ≡ 2 → body_label (packet_at h s).body ≡ label_of (stamp_at_def (drop head_size s))
  unfolding packet_at body_at body_label
  told-stamp e = rw e

  pub told_code : h.kind ≡ 4 → body_number (packet_at h s).body ≡ get_or (drop head_size s) 0 0
  unfolding packet_at body_at body_number
  told_code e = rw e

  pub told-count : h.kind ≡ 9 → body_number (packet_at h s).body ≡ get_or (drop head_size s) 0 0
  unfolding packet_at body_at body_number
  told-count e = rw e (count_of (shelf h.t) (get_or (drop head_size s) 0 0) (drop 1 (drop head_size s)))

-- Every packet fits the least output buffer: the longest is a filter request with a candidate of each server.
-- By kinds, from the exact lengths of bodies. Assumes nothing.
use mathlib.Core.List.{List}
use Prim.Native.Nat.{ℕ, ◌+◌, ◌*◌, ◌≤◌}
use native.Mathlib.Nat.{mul-le-mul}
use native.Mathlib.Omega.{arith}
use lib.Dec.{lit≤}
use lib.ListN.{length}
use Rattle.cluster.specs.Config.{Config, shelf}
use Rattle.cluster.specs.Ranges.{top_faults, most_servers, packet_room}
use Rattle.format.specs.Format.{via, seq, such, byte}
use Rattle.protocol.specs.Values.{Candidate, candidate_size_def}
use Rattle.protocol.specs.Packet.{Body, BodyOk, Packet, PacketOk, print_body, packet_f, head_f, encode, candidates_f}
use Rattle.protocol.specs.Packet.{clock, clock_reply, store, store_reply, complete, complete_reply, collect, collect_reply, filter, filter_reply, repair, repair_reply}
use Rattle.protocol.specs.View.{candidate_slot}
use Rattle.protocol.proofs.Bodies.{body_ok}
use Rattle.protocol.proofs.Lengths.{body-length, packet-length}
use Rattle.protocol.proofs.Room.{Fitting, shelf-fits, write-room}
use Rattle.protocol.proofs.HandOk.{held-room}

-- the most bytes of a body: a count and a candidate of each server
abbrev pub body_room : ℕ
body_room = 1 + candidate_slot * most_servers

-- a list of candidates has at most S
pub list-few : (s : Config) (cs : List Candidate) → (candidates_f s).Ok cs → length cs ≤ s.servers
unfolding candidates_f via seq byte
list-few s cs h = h.0.1

module _ (s : Config) (f : Fitting s) where
  list-room : (cs : List Candidate) → (candidates_f s).Ok cs → length cs * candidate_size_def s ≤ most_servers * candidate_slot
  list-room cs h =
      let l : length cs ≤ most_servers = omega (arith, list-few s cs h, f.few) in
      let c : candidate_size_def s ≤ candidate_slot = omega (arith, f.few) in
      mul-le-mul l c

  pub body-room : (x : Body) → BodyOk s x → length (print_body s x) ≤ body_room
  body-room clock h = lit≤ tt
  body-room (clock_reply x) h = omega (arith, body-length s (clock_reply x) h)
  body-room (store x) h = omega (arith, write-room s f x h)
  body-room (store_reply x) h = omega (arith, body-length s (store_reply x) h)
  body-room (complete x) h = omega (arith, body-length s (complete x) h, f.few)
  body-room complete_reply h = lit≤ tt
  body-room collect h = lit≤ tt
  body-room (collect_reply x) h = omega (arith, body-length s (collect_reply x) h, f.few)
  body-room (filter x) h = omega (arith, body-length s (filter x) h, list-room x h)
  body-room (filter_reply x) h = omega (arith, held-room s f x h)
  body-room (repair x) h = omega (arith, body-length s (repair x) h, f.few)
  body-room repair_reply h = lit≤ tt

head-t : (p : Packet) → PacketOk p → (1 ≤ p.head.t) × (p.head.t ≤ top_faults)
unfolding PacketOk packet_f head_f such via seq byte
head-t p h = h.0.1.1.1.1.0

pub packet-room : (p : Packet) → PacketOk p → length (encode p) ≤ packet_room
packet-room p h =
    let t = head-t p h in
    let s : Config = shelf p.head.t in
    omega (arith, packet-length p, body-room s (shelf-fits p.head.t t.0 t.1) p.body (body_ok p h))

-- The packet that a client makes is within the layout, so its bytes are read back as that packet.
-- By the round: what the client holds is within the layout. Nothing is assumed.
use mathlib.Core.Path.{refl}
use Prim.Native.Nat.{ℕ, ◌≤◌}
use native.Mathlib.Omega.{arith}
use borrow.Author.Tests.{le-leb}
use Rattle.cluster.specs.Config.{Config, shelf}
use Rattle.cluster.specs.Ranges.{top_faults, top_client, top_number}
use Rattle.format.specs.Format.{via, seq, such, byte, number4, many}
use Rattle.protocol.specs.Packet.{Body, BodyOk, PacketOk, packet_f, head_f, body_f, candidate_f, candidates_f, write_f}
use Rattle.protocol.specs.Client.{Client, Hand, idle, clocking, storing, completing, collecting, filtering, repairing, request, made}
use Rattle.protocol.proofs.Room.{Fitting}
use Rattle.protocol.proofs.ServerLift.{kind_range}
use Rattle.protocol.proofs.HandOk.{HandOk}

pub request-ok : (s : Config) (c : ℕ) (h : Hand) (b : ℕ) → 1 ≤ b → b ≤ s.servers → HandOk s c h → BodyOk s (request h b)
unfolding HandOk
request-ok s c idle b lo hi h = tt
request-ok s c (clocking r n m) b lo hi h = tt
request-ok s c (storing d g) b lo hi h = unfold write_f candidate_f via seq in (h.0.0, h.1 b lo hi)
request-ok s c (completing d) b lo hi h = h
request-ok s c (collecting g) b lo hi h = tt
request-ok s c (filtering cs g) b lo hi h = unfold candidates_f via seq byte many in ((omega arith, h.0.1), (refl, h.0.0))
request-ok s c (repairing d r) b lo hi h = h.0

pub made_ok : (t c : ℕ) (cl : Client) (b : ℕ) → (1 ≤ t) × (t ≤ top_faults) → Fitting (shelf t) → (1 ≤ c) × (c ≤ top_client)
    → (1 ≤ b) × (b ≤ (shelf t).servers) → (1 ≤ cl.calls) × (cl.calls ≤ top_number) → HandOk (shelf t) c cl.hand → PacketOk (made t c cl b)
unfolding PacketOk packet_f head_f such via seq body_f byte number4 made
made_ok t c cl b tr f cr br nr h =
    let x : Body = request cl.hand b in (
      (le-leb b (shelf t).servers br.1, (kind_range x, (cr, ((br.0, omega (arith, br.1, f.few)), (tr, nr))))),
      (refl, request-ok (shelf t) c cl.hand b br.0 br.1 h),
    )

-- What private functions promise each other; no public contract names these.
-- What the answer to each kind of request leaves, where the memory opens, the packet was let through, and the buffer has room:
-- the server's step on values, in the bytes of memory and output.
use Rattle.std.specs.Prelude.{◌≡◌, true, false, cond, List, [], ◌∷◌, ℕ, ◌+◌, ◌≤◌, length, drop}
use Rattle.std.proofs.Math.Option.{some}
use Rattle.cluster.specs.Ranges.{packet_room}
use Rattle.protocol.specs.Values.{below}
use Rattle.protocol.specs.declared.Head.{Head}
use Rattle.protocol.specs.declared.Label.{Label}
use Rattle.protocol.specs.declared.kinds.Kind.{Kind}
use Rattle.protocol.specs.Kinds.{kind_number}
use Rattle.protocol.specs.Packet.{Packet, decode}
use Rattle.protocol.specs.Memory.{Memory, latest_place}
use Rattle.protocol.specs.Primitives.{real}
use Rattle.protocol.specs.Server.{Server, memory_of, barred, server_refusal}
use Rattle.protocol.specs.View.{stamp_at_def}
use Rattle.protocol.specs.ServerBytes.{Served, acted_on}
use Rattle.wire.specs.Places.{packet_at, body_label}
use Rattle.wire.specs.Make.{placed}
use Rattle.server.specs.declared.memory.Opened.{Opened}
use Rattle.server.specs.Reads.{memory_with, OpenedAs}

-- the memory that opens
abbrev pub memory_in : {d : List ℕ} {told : Opened} → OpenedAs d told → Memory
memory_in {d} {told} o = memory_with d told o.writes

-- P of every packet with the head h and the label l, which is all that its reader tells of it
abbrev pub EveryPacket : Head → Label → (Packet → Type 0) → Type 0
EveryPacket h l P = (packet : List ℕ) → l ≡ body_label (packet_at h packet).body → P (packet_at h packet)

-- r is the number of a packet at this server, whatever it holds
abbrev pub NumberAt : Opened → Packet → ℕ → ℕ → Type 0
NumberAt told p room r = (v : Server) → r ≡ server_refusal true (some (memory_of told.t told.server v)) (some p) room

-- the head h is that of a packet to this server
abbrev pub ToServer : Head → Opened → Type 0
ToServer h told = (h.t ≡ told.t) × (h.server ≡ told.server)

-- the head of a reply whose kind has the number k
abbrev pub reply_head_def : Head → ℕ → Head
reply_head_def h k = record { kind = k; client = h.client; server = h.server; t = h.t; call = h.call }

-- r is the step of a packet of kind k with the head h
abbrev pub AnswersAs : Kind → List ℕ → List ℕ → List ℕ → List ℕ → Head → Opened → Served → Type 0
AnswersAs k d key packet output h told r =
    (o : OpenedAs d told) → ToServer h told → decode packet ≡ some (packet_at h packet) → h.kind ≡ kind_number k → packet_room ≤ length output
    → r ≡ acted_on real d key packet output (some (memory_in o)) (decode packet)

-- the same for every key
abbrev pub AnswersOf : Kind → List ℕ → List ℕ → List ℕ → Head → Opened → Served → Type 0
AnswersOf k d packet output h told r = (key : List ℕ) → AnswersAs k d key packet output h told r

-- the same for every key and whatever is told; and for every packet
abbrev pub AnswersFor : Kind → List ℕ → List ℕ → List ℕ → Head → Served → Type 0
AnswersFor k d packet output h r = (key : List ℕ) (told : Opened) → AnswersAs k d key packet output h told r

abbrev pub AnswersAll : Kind → List ℕ → List ℕ → Head → Served → Type 0
AnswersAll k d output h r = (packet : List ℕ) → AnswersFor k d packet output h r

-- r is the step of a packet of any kind that is not refused with 9
abbrev pub AnswersAny : List ℕ → List ℕ → List ℕ → List ℕ → Head → Opened → Served → Type 0
AnswersAny d key packet output h told r =
    (o : OpenedAs d told) → ToServer h told → decode packet ≡ some (packet_at h packet) → barred h.client (packet_at h packet).body ≡ false
    → packet_room ≤ length output → r ≡ acted_on real d key packet output (some (memory_in o)) (decode packet)

-- the candidate's bytes c over the latest ones, if its stamp is higher
unfoldable pub raised_bytes : List ℕ → List ℕ → List ℕ
raised_bytes d c = cond (below (stamp_at_def (drop latest_place d)) (stamp_at_def c)) (placed d latest_place c).output d

-- one more stored write after the others; the count stands before the latest candidate
abbrev pub count_place : ℕ
count_place = 2

unfoldable pub kept_bytes : List ℕ → Opened → List ℕ → List ℕ
kept_bytes d told w = (placed (placed d count_place ((told.count + 1) ∷ [])).output told.end w).output

-- "the bytes that the fields of box memory take after m stores of that length, all kept" (document 02, W-201): what stands in a server's memory after
-- any packets that a blank one took, on bytes.
use Rattle.std.specs.Prelude.{◌≡◌, Bool, cond, ◌&&◌, List, [], ◌∷◌, ◌++◌, ℕ, ◌-◌, ◌≤◌, eqb, length, take, replicate}
use Rattle.std.proofs.Math.Option.{Option, none, some}
use Rattle.cluster.specs.Config.{shelf}
use Rattle.cluster.specs.Ranges.{top_faults, memory_size, capacity}
use Rattle.protocol.specs.Values.{Write}
use Rattle.protocol.specs.Packet.{Body, Packet, kind_of, decode}
use Rattle.protocol.specs.Packet.{clock, clock_reply, store, store_reply, complete, complete_reply, collect, collect_reply, filter, filter_reply, repair, repair_reply}
use Rattle.protocol.specs.Memory.{Memory, memory_f, decode_memory, encode_memory, blank_memory}
use Rattle.protocol.specs.Primitives.{Primitives}
use Rattle.protocol.specs.Pending.{code_in}
use Rattle.protocol.specs.ServerBytes.{Served, server_take}
use Rattle.planner.specs.Plan.{plan_step}

-- ---- what a packet and the reply to it tell

-- the write in a request
abbrev pub write_asked : Body → List Write
write_asked (store w) = w ∷ []
write_asked clock = []
write_asked (clock_reply x) = []
write_asked (store_reply x) = []
write_asked (complete x) = []
write_asked complete_reply = []
write_asked collect = []
write_asked (collect_reply x) = []
write_asked (filter x) = []
write_asked (filter_reply x) = []
write_asked (repair x) = []
write_asked repair_reply = []

-- a reply that says of a store that it was kept: kind 4, byte 0
abbrev pub says_kept : Body → Bool
says_kept y = eqb (kind_of y) 4 && eqb (code_in y) 0

abbrev pub added_by : Body → Body → List Write
added_by x y = cond (says_kept y) (write_asked x) []

-- the bytes of a reply
abbrev pub reply_of : Served → List ℕ
reply_of d = take d.result.count d.output

-- of a packet and of the reply to it, as they decode
abbrev pub kept_by : Option Packet → Option Packet → List Write
kept_by none r = []
kept_by (some q) none = []
kept_by (some q) (some r) = added_by q.body r.body

-- ---- any packets, newest first, each with the key and the output buffer that were given with it

pub record Given : Type 0 where
  pub key : List ℕ
  pub packet : List ℕ
  pub output : List ℕ

-- a memory whose fields, with the writes ws, take so many bytes, and which is zero after them
pub record FilledTo (memory : List ℕ) (ws : List Write) (bytesTaken : ℕ) : Type 0 where
  pub fields : Memory
  pub opened : decode_memory memory ≡ some fields
  pub writes : fields.writes ≡ ws
  pub few : length ws ≤ capacity
  pub size : length (memory_f.print fields) ≡ bytesTaken
  pub bytes : memory ≡ memory_f.print fields ++ replicate (memory_size - bytesTaken) 0

-- the packet is a store of a content of n bytes, and the reply says that it was kept
pub record StoreKept (n : ℕ) (packet : List ℕ) (d : Served) : Type 0 where
  pub request : Packet
  pub write : Write
  pub reply : Packet
  pub read : decode packet ≡ some request
  pub asks : request.body ≡ store write
  pub size : write.share.size ≡ n
  pub replied : decode (reply_of d) ≡ some reply
  pub says : reply.body ≡ store_reply 0

module _ (P : Primitives) (t b : ℕ) where
  -- the memory of server b, blank at first
  unfoldable pub memory_after_def : List Given → List ℕ
  memory_after_def [] = encode_memory (blank_memory t b)
  memory_after_def (x ∷ xs) = (server_take P (memory_after_def xs) x.key x.packet x.output).memory

  abbrev pub served : Given → List Given → Served
  served x xs = server_take P (memory_after_def xs) x.key x.packet x.output

  -- the writes of the stores that were answered with 0, oldest first
  unfoldable pub stored_after : List Given → List Write
  stored_after [] = []
  stored_after (x ∷ xs) = stored_after xs ++ kept_by (decode x.packet) (decode (reply_of (served x xs)))

  -- each is a store of a content of n bytes, and was kept
  unfoldable pub AllKept : ℕ → List Given → Type 0
  AllKept n [] = Unit {0}
  AllKept n (x ∷ xs) = StoreKept n x.packet (served x xs) × AllKept n xs

-- after so many of them the fields take what a plan for so many says; and they hold just these writes
unfoldable pub MemoryPlanned : Type 0
MemoryPlanned =
    (P : Primitives) (t b : ℕ) → 1 ≤ t → t ≤ top_faults → 1 ≤ b → b ≤ (shelf t).servers → (n : ℕ) (xs : List Given) → AllKept P t b n xs
    → (readers : ℕ) → (plan_step t n readers (length xs)).number ≡ 0
    → FilledTo (memory_after_def P t b xs) (stored_after P t b xs) (plan_step t n readers (length xs)).memory

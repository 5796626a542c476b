-- What a store reply says: result 1 with the server's code, which is 0 where the write was kept, 10 where its stamp was held already, and 11 where
-- the server is full. Any other packet tells nothing, and bytes that are no packet are refused with 7.
use Rattle.std.proofs.Math.Option.{Option, none, some}
use Rattle.std.specs.Prelude.{cond, List, ℕ, eqb}
use Rattle.cluster.specs.Refusals.{on_refusal}
use Rattle.protocol.specs.Packet.{Packet, kind_of, decode}
use Rattle.protocol.specs.Pending.{code_in}
use Rattle.embed.specs.Packets.{packet_refusal}
use Rattle.embed.specs.Packing.{packed}

abbrev pub store_reply_kind : ℕ
store_reply_kind = 4

-- what a packet tells
unfoldable pub code_of : Option Packet → ℕ
code_of none = packed 0 0 0 0
code_of (some p) = cond (eqb (kind_of p.body) store_reply_kind) (packed 0 1 0 (code_in p.body)) (packed 0 0 0 0)

unfoldable pub code_told : List ℕ → ℕ
code_told b = let n = packet_refusal b in on_refusal n (code_of (decode b)) (packed n 0 0 0)

-- Whether bytes are a packet: 0, or refusal 7. Every export that reads a packet alone refuses it so.
use Rattle.std.specs.Prelude.{not, List, [], ◌∷◌, ℕ}
use Rattle.cluster.specs.Refusals.{refuse, first_of}
use Rattle.protocol.specs.Values.{is_some}
use Rattle.protocol.specs.Packet.{decode, broken_packet}

unfoldable pub packet_refusal : List ℕ → ℕ
packet_refusal b = first_of (refuse broken_packet (not (is_some (decode b))) ∷ [])

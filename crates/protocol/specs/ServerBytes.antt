-- The server's operations on bytes: what the contracts of the code cite.
use Rattle.std.specs.Prelude.{not, List, [], ◌∷◌, ℕ, eqb, length}
use Rattle.std.proofs.Math.Option.{Option, none, some}
use Rattle.cluster.specs.Config.{shelf}
use Rattle.cluster.specs.Ranges.{within, top_faults, memory_size}
use Rattle.cluster.specs.Refusals.{refuse, first_of, on_refusal}
use Rattle.cluster.specs.declared.Outcome.{Outcome}
use Rattle.format.specs.Reading.{over}
use Rattle.protocol.specs.Packet.{Packet, decode, encode}
use Rattle.protocol.specs.Memory.{Memory, decode_memory, encode_memory, blank_memory}
use Rattle.protocol.specs.Primitives.{Primitives}
use Rattle.protocol.specs.Server.{Server, memory_of, act, reply_to, server_refusal}

unfoldable pub server_in : Memory → Server
server_in m = record { latest = m.latest; history = m.writes }

-- ---- making a blank server

pub record Blanked : Type 0 where
  pub result : Outcome
  pub memory : List ℕ

unfoldable pub blank_refusal : ℕ → ℕ → ℕ → ℕ
blank_refusal size t b =
    first_of
    (refuse 1 (not (eqb size memory_size))
    ∷ refuse 3 (not (within 1 top_faults t))
    ∷ refuse 4 (not (within 1 (shelf t).servers b))
    ∷ [])

unfoldable pub blank_step : List ℕ → ℕ → ℕ → Blanked
blank_step memory t b =
    let n = blank_refusal (length memory) t b in
    record { result = record { number = n; count = 0 }; memory = on_refusal n (encode_memory (blank_memory t b)) memory }

-- ---- taking a packet

pub record Served : Type 0 where
  pub result : Outcome
  pub memory : List ℕ
  pub output : List ℕ

module _ (P : Primitives) (memory key packet output : List ℕ) where
  -- refused: nothing changes
  unfoldable pub turned_down_def : ℕ → Served
  turned_down_def n = record { result = record { number = n; count = 0 }; memory = memory; output = output }

  -- let in: the packet is acted on
  unfoldable pub acted_on : Option Memory → Option Packet → Served
  acted_on none o = turned_down_def 0
  acted_on (some m) none = turned_down_def 0
  acted_on (some m) (some p) =
      let a = act P (shelf m.t) key m.server (server_in m) p.body in
      let bytes = encode (reply_to p a.reply) in
      record {
        result = record { number = 0; count = length bytes };
        memory = encode_memory (memory_of m.t m.server a.server);
        output = over bytes output;
      }

  unfoldable pub server_take : Served
  server_take =
      let n = server_refusal (eqb (length memory) memory_size) (decode_memory memory) (decode packet) (length output) in
      on_refusal n (acted_on (decode_memory memory) (decode packet)) (turned_down_def n)

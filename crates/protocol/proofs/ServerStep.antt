-- The server's whole step on values. Nobody has to believe it: the operation on bytes, which the contracts cite, is this step (ServerLift).
-- Definitions only; nothing is assumed.
use mathlib.Core.Bool.{true}
use mathlib.Core.List.{List}
use mathlib.Core.Option.{Option, none, some}
use Prim.Native.Nat.{ℕ}
use Rattle.cluster.specs.Config.{Config}
use Rattle.cluster.specs.Refusals.{on_refusal}
use Rattle.protocol.specs.Packet.{Packet}
use Rattle.protocol.specs.Primitives.{Primitives}
use Rattle.protocol.specs.Server.{Server, memory_of, act, reply_to, server_refusal}

pub record Stepped : Type 0 where
  -- 0, or the refusal
  pub number : ℕ
  pub server : Server
  pub reply : Option Packet

module _ (P : Primitives) (s : Config) (key : List ℕ) (number : ℕ) (v : Server) (room : ℕ) where
  unfoldable pub answered : Option Packet → Stepped
  answered none = record { number = 0; server = v; reply = none }
  answered (some p) = let a = act P s key number v p.body in record { number = 0; server = a.server; reply = some (reply_to p a.reply) }

  unfoldable pub server_step : Option Packet → Stepped
  server_step o =
      let n = server_refusal true (some (memory_of s.t number v)) o room in
      on_refusal n (answered o) (record { number = n; server = v; reply = none })

-- Runs on values: the steps of the proof, in which every client has the shelf's own keys. Nobody has to believe them: they give the same account of
-- every run as the operations on bytes (Accounts).
-- Definitions only; nothing is assumed.
use mathlib.Core.Bool.{cond}
use mathlib.Core.List.{List, [], ◌∷◌}
use mathlib.Core.Option.{Option, none}
use Prim.Native.Nat.{ℕ}
use lib.ListN.{length}
use Rattle.cluster.specs.Config.{Config}
use Rattle.cluster.specs.Ranges.{within}
use Rattle.protocol.specs.Packet.{Packet, decode}
use Rattle.protocol.specs.Primitives.{Primitives}
use Rattle.protocol.specs.Rules.{ByServer, upd}
use Rattle.protocol.specs.Server.{Server, blank_server}
use Rattle.protocol.proofs.ServerStep.{server_step}
use Rattle.protocol.specs.Client.{Client, Turn, Result, new_client, write_step, read_step, abort_step, make_step, take_step}
use Rattle.runs.specs.Runs.{Step, write, read, make, take-reply, give-up, serve, result_of, sent_of, Typed, steps, Account}

pub record World : Type 0 where
  pub client : ℕ → Client
  pub server : ℕ → Server

pub record After : Type 0 where
  pub world : World
  pub result : Result
  pub sent : Option Packet

module _ (P : Primitives) (s : Config) (writers : List ℕ) (keys : ByServer (List ℕ)) where
  unfoldable pub set_client : World → ℕ → Turn → After
  set_client w c u = record { world = record { client = upd w.client c u.client; server = w.server }; result = u.result; sent = none }

  unfoldable pub do_values : World → Step → After
  do_values w (write c r n) = set_client w c (write_step s c (w.client c) r n)
  do_values w (read c) = set_client w c (read_step s c (w.client c))
  do_values w (make c b output) =
      let d = make_step s c (w.client c) b (length output) in
      record { world = w; result = result_of d.number; sent = d.packet }
  do_values w (take-reply c lent reply output) = set_client w c (take_step P s c writers keys (w.client c) (decode reply) (length output))
  do_values w (give-up c) = set_client w c (abort_step s c (w.client c))
  do_values w (serve b packet output) =
      let d = server_step P s (keys b) b (w.server b) (length output) (decode packet) in
      record { world = record { client = w.client; server = upd w.server b d.server }; result = result_of d.number; sent = d.reply }

  unfoldable pub now_values : List Step → World
  now_values [] = record { client = λ c. new_client; server = λ b. blank_server s }
  now_values (x ∷ xs) = (do_values (now_values xs) x).world

unfoldable pub by_values : Primitives → (s : Config) → (writers : List ℕ) → (keys : ByServer (List ℕ)) → Account (Typed s writers keys)
by_values P s writers keys =
    record {
      result = λ x xs. (do_values P s writers keys (now_values P s writers keys (steps xs)) x.step).result;
      sent = λ x xs. sent_of (do_values P s writers keys (now_values P s writers keys (steps xs)) x.step).sent;
      client = λ xs c. (now_values P s writers keys (steps xs)).client c;
      server = λ xs b. cond (within 1 s.servers b) ((now_values P s writers keys (steps xs)).server b) (blank_server s);
    }

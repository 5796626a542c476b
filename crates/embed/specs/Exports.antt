-- Runs through the exported functions: a list of protocol's steps, newest first, each done by the definition that the C function's contract cites, on
-- clients' states of 24,640 bytes and servers' memories. The answers are read as include/cendrulas.h says.
use Rattle.std.specs.Prelude.{true, cond, List, [], ◌∷◌, ◌++◌, map, ◌≡◌, ℕ, length, take, replicate}
use Rattle.cluster.specs.Config.{up_to}
use Rattle.cluster.specs.Ranges.{within, key_size, most_servers, memory_size}
use Rattle.protocol.specs.Memory.{decode_memory}
use Rattle.protocol.specs.Rules.{upd}
use Rattle.protocol.specs.Server.{blank_server}
use Rattle.protocol.specs.ServerBytes.{blank_step}
use Rattle.protocol.specs.Client.{Result}
use Rattle.protocol.specs.View.{view}
use Rattle.protocol.specs.ClientBytes.{key_of}
use Rattle.runs.specs.Runs.{Shelf, config_of, Step, write, read, make, take-reply, give-up, serve, result_of, result_by, StepOn, steps, Account, server_or}
use Rattle.wire.specs.Places.{padded}
use Rattle.state.specs.State.{call_at}
use Rattle.embed.specs.Packing.{refusal_in, count_in, answer_in}
use Rattle.embed.specs.Clients.{client_size, kept_of_def, write_in_def, read_in_def, give_up_in_def, make_in_def, take_in_def}
use Rattle.embed.specs.Servers.{take_by}

-- ---- what an answer says, with the output as the call left it

unfoldable pub said : ℕ → List ℕ → Result
said answer output = result_by (answer_in answer) output

-- ---- the keys, as they are passed

-- 32 bytes. The shelf's keys have them; what a client 9 to 16 is lent, who holds no keys, is cut, or filled up with 00h
abbrev pub passed_key : List ℕ → List ℕ
passed_key key = padded key_size key

abbrev pub joined : List (List ℕ) → List ℕ
joined [] = []
joined (x ∷ xs) = x ++ joined xs

-- the keys of servers 1 to 13, one after the other: 416 bytes
unfoldable pub passed_keys : List (List ℕ) → List ℕ
passed_keys keys = joined (map (λ b. passed_key (key_of keys b)) (up_to most_servers))

-- a shelf's writers' key has 32 bytes, and so has each of 13 servers' keys
pub record KeysSized (s : Shelf) : Type 0 where
  pub writers : length s.writers ≡ key_size
  pub count : length s.keys ≡ most_servers
  pub servers : (b : ℕ) → within 1 most_servers b ≡ true → length (key_of s.keys b) ≡ key_size

-- ---- the run

-- every client's state, and every server's memory
pub record Devices : Type 0 where
  pub state : ℕ → List ℕ
  pub memory : ℕ → List ℕ

pub record Did : Type 0 where
  pub devices : Devices
  pub result : Result
  pub sent : List ℕ

module _ (s : Shelf) where
  unfoldable pub set_state : Devices → ℕ → List ℕ → Result → Did
  set_state w c d r = record { devices = record { state = upd w.state c d; memory = w.memory }; result = r; sent = [] }

  unfoldable pub do_export : Devices → Step → Did
  do_export w (write c content nonce) = let d = write_in_def (w.state c) s.t c content nonce in set_state w c d.state (said d.answer [])
  do_export w (read c) = let d = read_in_def (w.state c) s.t c in set_state w c d.state (said d.answer [])
  do_export w (make c b output) =
      let d = make_in_def (w.state c) s.t c b output in
      record { devices = w; result = said d.answer []; sent = take (count_in d.answer) d.output }
  do_export w (take-reply c lent reply output) =
      let d = take_in_def (w.state c) s.t c (passed_key lent.writers) (passed_keys lent.keys) reply output in
      set_state w c d.state (said d.answer d.output)
  do_export w (give-up c) = let d = give_up_in_def (w.state c) s.t c in set_state w c d.state (said d.answer [])
  -- a server's answer tells its refusal; its result says whether the memory was changed
  do_export w (serve b packet output) =
      let d = take_by (w.memory b) (key_of s.keys b) packet output in
      record {
        devices = record { state = w.state; memory = upd w.memory b d.memory };
        result = result_of (refusal_in d.answer);
        sent = take (count_in d.answer) d.output;
      }

  -- a state of 00h is a client that has begun no call; cendrulas_server_blank has made every server blank
  unfoldable pub now_export : List Step → Devices
  now_export [] = record { state = λ c. replicate client_size 0; memory = λ b. (blank_step (replicate memory_size 0) s.t b).memory }
  now_export (x ∷ xs) = (do_export (now_export xs) x).devices

-- by the exported functions
unfoldable pub by_exports : (s : Shelf) → Account (StepOn s)
by_exports s =
    record {
      result = λ x xs. (do_export s (now_export s (steps xs)) x.step).result;
      sent = λ x xs. (do_export s (now_export s (steps xs)) x.step).sent;
      client = λ xs c. let d = (now_export s (steps xs)).state c in view (config_of s) (call_at d) (kept_of_def d);
      server =
          λ xs b.
          cond (within 1 (config_of s).servers b) (server_or (config_of s) (decode_memory ((now_export s (steps xs)).memory b)))
          (blank_server (config_of s));
    }

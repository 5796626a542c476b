-- Runs: a list of steps, newest first, done by the operations on bytes. Each step gets the shelf's t, its party's number and keys, and what
-- that party's last step left; nobody else writes that.
use Rattle.std.specs.Prelude.{Bool, true, false, cond, List, [], ◌∷◌, ◌≡◌, ℕ, eqb, length, take}
use Rattle.std.proofs.Math.Option.{Option, none, some}
use Rattle.cluster.specs.Config.{Config, shelf}
use Rattle.cluster.specs.Ranges.{within, top_writer}
use Rattle.format.specs.Format.{Bytes}
use Rattle.protocol.specs.Values.{nonce_size}
use Rattle.protocol.specs.Memory.{Memory, decode_memory, encode_memory, blank_memory}
use Rattle.protocol.specs.Primitives.{Primitives}
use Rattle.protocol.specs.Rules.{ByServer, upd}
use Rattle.protocol.specs.Server.{Server, blank_server}
use Rattle.protocol.specs.ServerBytes.{server_in, server_take}
use Rattle.protocol.specs.Client.{Client, Result}
use Rattle.protocol.specs.View.{view}
use Rattle.protocol.specs.ClientBytes.{key_of, begin_write_def, begin_read_def, give_up_def, client_take, client_make}
pub use Rattle.protocol.specs.ClientBytes.{Machine, sent_of, new_call_def}
pub use Rattle.protocol.specs.Answers.{result_of, result_by}

-- a shelf's t, its writers' key, and the servers' keys
pub record Shelf : Type 0 where
  pub t : ℕ
  pub writers : List ℕ
  pub keys : List (List ℕ)

abbrev pub config_of : Shelf → Config
config_of s = shelf s.t

-- the keys that a client is lent with a reply: the writers' key and the servers' keys
pub record Lent : Type 0 where
  pub writers : List ℕ
  pub keys : List (List ℕ)

-- the bytes that a step is lent stand in it
pub data Step : Type 0 where
  write : (client : ℕ) → (content nonce : List ℕ) → Step
  read : (client : ℕ) → Step
  make : (client server : ℕ) → (output : List ℕ) → Step
  take-reply : (client : ℕ) → (lent : Lent) → (reply output : List ℕ) → Step
  give-up : (client : ℕ) → Step
  serve : (server : ℕ) → (packet output : List ℕ) → Step

-- f of the reply that a client takes, g of the packet that a server takes; nothing of other steps
abbrev pub on_taken : {A : Type 0} → (ℕ → List ℕ → List A) → (ℕ → List ℕ → List A) → Step → List A
on_taken f g (write c r n) = []
on_taken f g (read c) = []
on_taken f g (make c b o) = []
on_taken f g (take-reply c lent p o) = f c p
on_taken f g (give-up c) = []
on_taken f g (serve b p o) = g b p

abbrev pub bytes_in : Step → List ℕ
bytes_in = on_taken (λ c p. p) (λ b p. p)

-- client c makes a packet; server b takes one, and makes its reply
abbrev pub makes : ℕ → Step → Bool
makes c (write d r n) = false
makes c (read d) = false
makes c (make d b o) = eqb c d
makes c (take-reply d lent p o) = false
makes c (give-up d) = false
makes c (serve b p o) = false

abbrev pub serves : ℕ → Step → Bool
serves b (write c r n) = false
serves b (read c) = false
serves b (make c e o) = false
serves b (take-reply c lent p o) = false
serves b (give-up c) = false
serves b (serve e p o) = eqb b e

-- the length of the content that client c began to write with a step that was done or not, or an earlier one
abbrev pub length_after : ℕ → Step → Bool → ℕ → ℕ
length_after c (write d r m) done n = cond (eqb c d) (cond done (length r) n) n
length_after c (read d) done n = n
length_after c (make d b o) done n = n
length_after c (take-reply d lent p o) done n = n
length_after c (give-up d) done n = n
length_after c (serve b p o) done n = n

-- ---- what a step does on bytes

pub record Machines : Type 0 where
  pub client : ℕ → Machine
  pub memory : ℕ → List ℕ

pub record Done : Type 0 where
  pub machines : Machines
  pub result : Result
  pub sent : List ℕ

-- a client that has begun no call, whatever bytes it is lent to keep things in
abbrev pub new_machine : List ℕ → Machine
new_machine kept = record { call = new_call_def; kept = kept }

module _ (P : Primitives) (s : Shelf) where
  unfoldable pub set_machine : Machines → ℕ → Machine → Result → Done
  set_machine w c m r = record { machines = record { client = upd w.client c m; memory = w.memory }; result = r; sent = [] }

  unfoldable pub do_bytes : Machines → Step → Done
  do_bytes w (write c r n) =
      let m = w.client c in let d = begin_write_def s.t c m.call m.kept r n in
      set_machine w c (record { call = d.call; kept = d.kept }) (result_of d.result.number)
  do_bytes w (read c) =
      let m = w.client c in let d = begin_read_def s.t c m.call m.kept in
      set_machine w c (record { call = d.call; kept = d.kept }) (result_of d.result.number)
  do_bytes w (make c b output) =
      let m = w.client c in let d = client_make s.t c b m.call m.kept output in
      record { machines = w; result = result_of d.result.number; sent = take d.result.count d.output }
  do_bytes w (take-reply c lent reply output) =
      let m = w.client c in let d = client_take P s.t c lent.writers lent.keys m.call m.kept reply output in
      set_machine w c (record { call = d.call; kept = d.kept }) (result_by d.answer d.output)
  do_bytes w (give-up c) =
      let m = w.client c in let d = give_up_def s.t c m.call in
      set_machine w c (record { call = d.call; kept = m.kept }) (result_by d.answer [])
  do_bytes w (serve b packet output) =
      let d = server_take P (w.memory b) (key_of s.keys b) packet output in
      record {
        machines = record { client = w.client; memory = upd w.memory b d.memory };
        result = result_of d.result.number;
        sent = take d.result.count d.output;
      }

  -- first: the bytes that each client keeps things in, at first
  unfoldable pub now_bytes : (ℕ → List ℕ) → List Step → Machines
  now_bytes first [] = record { client = λ c. new_machine (first c); memory = λ b. encode_memory (blank_memory s.t b) }
  now_bytes first (x ∷ xs) = (do_bytes (now_bytes first xs) x).machines

-- ---- what a step is given: lists of bytes, nonces of their length, parties in their ranges; and clients 1 to 8 are lent the shelf's own keys.
-- Clients 9 to 16 hold no keys: what they are lent is free

abbrev pub Fed : Config → List ℕ → ByServer (List ℕ) → Step → Type 0
Fed s writers keys (write c r n) = Bytes r × (Bytes n × (length n ≡ nonce_size))
Fed s writers keys (read c) = Unit {0}
Fed s writers keys (make c b o) = Unit {0}
Fed s writers keys (take-reply c lent p o) = Bytes p × (within 1 top_writer c ≡ true → (lent.writers ≡ writers) × (key_of lent.keys ≡ keys))
Fed s writers keys (give-up c) = Unit {0}
Fed s writers keys (serve b p o) = (within 1 s.servers b ≡ true) × Bytes p

pub record Typed (s : Config) (writers : List ℕ) (keys : ByServer (List ℕ)) : Type 0 where
  pub step : Step
  pub fed : Fed s writers keys step

-- a step on a shelf of document 01
abbrev pub StepOn : Shelf → Type 0
StepOn s = Typed (config_of s) s.writers (key_of s.keys)

abbrev pub steps : {s : Config} {writers : List ℕ} {keys : ByServer (List ℕ)} → List (Typed s writers keys) → List Step
steps [] = []
steps (x ∷ xs) = x.step ∷ steps xs

-- ---- an account of runs of such steps: result and bytes sent of a step, clients and servers after the steps

pub record Account (X : Type 0) : Type 0 where
  pub result : X → List X → Result
  pub sent : X → List X → List ℕ
  pub client : List X → ℕ → Client
  pub server : List X → ℕ → Server

abbrev pub server_or : Config → Option Memory → Server
server_or s none = blank_server s
server_or s (some m) = server_in m

-- by the operations on bytes
unfoldable pub by_bytes_def : Primitives → (s : Shelf) → (ℕ → List ℕ) → Account (StepOn s)
by_bytes_def P s first =
    record {
      result = λ x xs. (do_bytes P s (now_bytes P s first (steps xs)) x.step).result;
      sent = λ x xs. (do_bytes P s (now_bytes P s first (steps xs)) x.step).sent;
      client = λ xs c. view (config_of s) ((now_bytes P s first (steps xs)).client c).call ((now_bytes P s first (steps xs)).client c).kept;
      server = λ xs b. cond (within 1 (config_of s).servers b) (server_or (config_of s) (decode_memory ((now_bytes P s first (steps xs)).memory b)))
          (blank_server (config_of s));
    }

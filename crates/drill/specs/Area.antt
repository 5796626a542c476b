-- What private functions promise each other; no public contract names these.
-- Where a drill keeps its parties in the work area: the servers' memories one after another, and from 1,048,576 on a slot for each client.
use Rattle.std.specs.Prelude.{◌≡◌, true, List, ℕ, ◌+◌, ◌-◌, ◌*◌, length, Result, Ok, Err}
use Rattle.cluster.specs.Config.{shelf}
use Rattle.cluster.specs.Ranges.{within, top_client, most_servers, memory_size}
use Rattle.cluster.specs.Refusals.{number_told}
use Rattle.cluster.specs.declared.Refusal.{Refusal}
use Rattle.protocol.specs.declared.Call.{Call}
use Rattle.cluster.specs.declared.Outcome.{Outcome}
use Rattle.protocol.specs.declared.Aborted.{Aborted}
use Rattle.protocol.specs.declared.Taken.{Taken}
use Rattle.protocol.specs.Primitives.{real}
use Rattle.protocol.specs.ServerBytes.{Served, Blanked}
use Rattle.protocol.specs.View.{kept_size}
use Rattle.format.specs.Reading.{bytes_at, put}
use Rattle.protocol.specs.ClientBytes.{Begun, GaveUp, Took, begin_write_def, begin_read_def, give_up_def, client_take}
use Rattle.protocol.specs.Answers.{taken_told, aborted_told}
use Rattle.runs.specs.Runs.{Machines}
use Rattle.state.specs.State.{state_size, kept_place, call_at, call_bytes}
use Rattle.drill.specs.Listing.{work_size}
use Rattle.drill.specs.Steps.{drill_shelf, lent_to}

unfoldable pub server_at_def : ℕ → ℕ
server_at_def b = memory_size * (b - 1)

abbrev pub clients_at : ℕ
clients_at = 1048576

abbrev pub client_slot : ℕ
client_slot = 65536

-- a client's small state, then the bytes that it keeps
unfoldable pub client_at_def : ℕ → ℕ
client_at_def c = clients_at + client_slot * (c - 1)

unfoldable pub kept_at : ℕ → ℕ
kept_at c = client_at_def c + kept_place

unfoldable pub call_in : List ℕ → ℕ → Call
call_in w c = call_at (bytes_at w (client_at_def c) state_size)

unfoldable pub kept_in : List ℕ → ℕ → List ℕ
kept_in w c = bytes_at w (kept_at c) kept_size

unfoldable pub memory_in : List ℕ → ℕ → List ℕ
memory_in w b = bytes_at w (server_at_def b) memory_size

unfoldable pub put_call_def : List ℕ → ℕ → Call → List ℕ
put_call_def w c call = put w (client_at_def c) (call_bytes call)

unfoldable pub put_client : List ℕ → ℕ → Call → List ℕ → List ℕ
put_client w c call kept = put_call_def (put w (kept_at c) kept) c call

unfoldable pub put_memory : List ℕ → ℕ → List ℕ → List ℕ
put_memory w b m = put w (server_at_def b) m

-- the area holds what each client from 1 to 16 and each server of the shelf holds
pub record Stands (t : ℕ) (w : List ℕ) (m : Machines) : Type 0 where
  pub size : length w ≡ work_size
  pub calls : (c : ℕ) → within 1 top_client c ≡ true → call_in w c ≡ (m.client c).call
  pub kept : (c : ℕ) → within 1 top_client c ≡ true → kept_in w c ≡ (m.client c).kept
  pub memory : (b : ℕ) → within 1 (shelf t).servers b ≡ true → memory_in w b ≡ m.memory b

-- ---- the client's steps in the area

abbrev pub write_in_def : ℕ → List ℕ → ℕ → List ℕ → List ℕ → Begun
write_in_def t w c content nonce = begin_write_def t c (call_in w c) (kept_in w c) content nonce

abbrev pub read_in_def : ℕ → List ℕ → ℕ → Begun
read_in_def t w c = begin_read_def t c (call_in w c) (kept_in w c)

abbrev pub give_up_in_def : ℕ → List ℕ → ℕ → GaveUp
give_up_in_def t w c = give_up_def t c (call_in w c)

abbrev pub take_in_def : ℕ → List ℕ → ℕ → List ℕ → List ℕ → Took
take_in_def t w c reply output =
    let l = lent_to (drill_shelf t) c in
    client_take real t c l.writers l.keys (call_in w c) (kept_in w c) reply output

-- the area after a client's step: its small state and the bytes that it keeps, at their places; a refused step leaves the small state as it is
abbrev pub LeftAs : {A : Type 0} → Result A Refusal → List ℕ → ℕ → List ℕ → Call → List ℕ → Type 0
LeftAs (Ok a) w c after call kept = (after ≡ put_client w c call kept) × (length call.tally.marks ≡ most_servers)
LeftAs (Err why) w c after call kept = (after ≡ put w (kept_at c) kept) × (call ≡ call_in w c)

-- a beginning in the area w: what it answers, and the area after it
pub record BeginsAs (b : Begun) (w : List ℕ) (c : ℕ) (after : List ℕ) (told : Result (Unit {0}) Refusal) : Type 0 where
  pub result : number_told told ≡ b.result.number
  pub area : LeftAs told w c after b.call b.kept
  pub size : length b.kept ≡ kept_size

-- a packet taken by server b in the area w: its outcome, the area and the output after it
pub record ServesAs (d : Served) (w : List ℕ) (b : ℕ) (after output : List ℕ) (outcome : Outcome) : Type 0 where
  pub result : outcome ≡ d.result
  pub area : after ≡ put_memory w b d.memory
  pub written : output ≡ d.output
  pub size : length d.memory ≡ memory_size

-- a server's memory changed in the area w
pub record BlanksAs (d : Blanked) (w : List ℕ) (b : ℕ) (after : List ℕ) : Type 0 where
  pub area : after ≡ put_memory w b d.memory
  pub size : length d.memory ≡ memory_size

-- a reply taken in the area w: its answer, the area and the output after it
pub record TakesAs (d : Took) (w : List ℕ) (c : ℕ) (after output : List ℕ) (told : Result Taken Refusal) : Type 0 where
  pub result : taken_told told ≡ d.answer
  pub area : LeftAs told w c after d.call d.kept
  pub written : output ≡ d.output
  pub size : length d.kept ≡ kept_size

-- the area after giving up, which is refused or changes the small state alone
abbrev pub StoppedAs : {A : Type 0} → Result A Refusal → List ℕ → ℕ → List ℕ → Call → Type 0
StoppedAs (Ok a) w c after call = (after ≡ put_call_def w c call) × (length call.tally.marks ≡ most_servers)
StoppedAs (Err why) w c after call = (after ≡ w) × (call ≡ call_in w c)

-- giving up in the area w: its answer, and the area after it
pub record StopsAs (g : GaveUp) (w : List ℕ) (c : ℕ) (after : List ℕ) (told : Result Aborted Refusal) : Type 0 where
  pub result : aborted_told told ≡ g.answer
  pub area : StoppedAs told w c after g.call

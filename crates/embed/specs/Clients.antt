-- A client for other languages keeps its state in one lent run of bytes: the small state (crate state) at its start, and the kept bytes.
-- The operations are those of protocol's ClientBytes; `wrong_size` where the state, a nonce or a key is lent with another length.
use Rattle.std.specs.Prelude.{not, List, [], ◌∷◌, ◌++◌, map, ℕ, ◌+◌, ◌-◌, ◌*◌, eqb, length, drop}
use Rattle.cluster.specs.Config.{up_to}
use Rattle.cluster.specs.Ranges.{key_size, most_servers}
use Rattle.cluster.specs.Refusals.{wrong_size, refuse, first_of, on_refusal}
use Rattle.protocol.specs.declared.Call.{Call}
use Rattle.protocol.specs.Values.{nonce_size}
use Rattle.protocol.specs.View.{kept_size}
use Rattle.format.specs.Reading.{bytes_at}
use Rattle.protocol.specs.Primitives.{real}
use Rattle.protocol.specs.ClientBytes.{Begun, GaveUp, Filled, Took, begin_write_def, begin_read_def, give_up_def, client_make, client_take}
use Rattle.state.specs.State.{state_size, kept_place, call_at, call_bytes}
use Rattle.embed.specs.Packing.{packed, packed_answer}
use Rattle.embed.specs.Coding.{outcome_of}

-- the bytes between the small state and the kept bytes are not looked at
abbrev pub client_size : ℕ
client_size = kept_place + kept_size

unfoldable pub kept_of_def : List ℕ → List ℕ
kept_of_def d = drop kept_place d

-- the bytes d with another call and other kept bytes
unfoldable pub state_with : List ℕ → Call → List ℕ → List ℕ
state_with d c kept = call_bytes c ++ (bytes_at d state_size (kept_place - state_size) ++ kept)

-- an answer, and the state after it
pub record Session : Type 0 where
  pub answer : ℕ
  pub state : List ℕ

unfoldable pub sized : List ℕ → ℕ
sized d = first_of (refuse wrong_size (not (eqb (length d) client_size)) ∷ [])

unfoldable pub sized_with : List ℕ → List ℕ → ℕ
sized_with d nonce = first_of (refuse wrong_size (not (eqb (length d) client_size)) ∷ refuse wrong_size (not (eqb (length nonce) nonce_size)) ∷ [])

abbrev pub unsized : ℕ → List ℕ → Session
unsized n d = record { answer = packed n 0 0 0; state = d }

-- a begin writes no output, so only its refusal is told
unfoldable pub begun_in : List ℕ → Begun → Session
begun_in d b = record { answer = packed b.result.number 0 0 0; state = state_with d b.call b.kept }

unfoldable pub write_in_def : List ℕ → ℕ → ℕ → List ℕ → List ℕ → Session
write_in_def d t client content nonce =
    let n = sized_with d nonce in
    on_refusal n (begun_in d (begin_write_def t client (call_at d) (kept_of_def d) content nonce)) (unsized n d)

unfoldable pub read_in_def : List ℕ → ℕ → ℕ → Session
read_in_def d t client = let n = sized d in on_refusal n (begun_in d (begin_read_def t client (call_at d) (kept_of_def d))) (unsized n d)

unfoldable pub stopped_in : List ℕ → GaveUp → Session
stopped_in d g = record { answer = packed_answer g.answer; state = state_with d g.call (kept_of_def d) }

unfoldable pub give_up_in_def : List ℕ → ℕ → ℕ → Session
give_up_in_def d t client = let n = sized d in on_refusal n (stopped_in d (give_up_def t client (call_at d))) (unsized n d)

-- ---- making a packet changes no state

pub record Posted : Type 0 where
  pub answer : ℕ
  pub output : List ℕ

abbrev pub made_out : Filled → Posted
made_out w = record { answer = outcome_of w.result; output = w.output }

unfoldable pub make_in_def : List ℕ → ℕ → ℕ → ℕ → List ℕ → Posted
make_in_def d t client server out =
    let n = sized d in
    on_refusal n (made_out (client_make t client server (call_at d) (kept_of_def d) out)) (record { answer = packed n 0 0 0; output = out })

-- ---- taking a packet

pub record Taking : Type 0 where
  pub answer : ℕ
  pub state : List ℕ
  pub output : List ℕ

-- the keys of servers 1 to 13 stand one after the other
abbrev pub keys_size : ℕ
keys_size = key_size * most_servers

unfoldable pub keys_in : List ℕ → List (List ℕ)
keys_in d = map (λ i. bytes_at d (key_size * (i - 1)) key_size) (up_to most_servers)

unfoldable pub sized_for : List ℕ → List ℕ → List ℕ → ℕ
sized_for d writers keys =
    first_of
    (refuse wrong_size (not (eqb (length d) client_size))
    ∷ refuse wrong_size (not (eqb (length writers) key_size))
    ∷ refuse wrong_size (not (eqb (length keys) keys_size))
    ∷ [])

unfoldable pub took_in : List ℕ → Took → Taking
took_in d k = record { answer = packed_answer k.answer; state = state_with d k.call k.kept; output = k.output }

unfoldable pub take_in_def : List ℕ → ℕ → ℕ → List ℕ → List ℕ → List ℕ → List ℕ → Taking
take_in_def d t client writers keys packet out =
    let n = sized_for d writers keys in
    on_refusal n (took_in d (client_take real t client writers (keys_in keys) (call_at d) (kept_of_def d) packet out))
    (record { answer = packed n 0 0 0; state = d; output = out })

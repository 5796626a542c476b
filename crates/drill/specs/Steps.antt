-- The steps of a drill: protocol's own steps on bytes, on document 01's keys and nonces, and what a listing shows of each.
use Rattle.std.specs.Prelude.{cond, not, List, [], ◌∷◌, ◌++◌, map, ℕ, suc, eqb, length, get_or, replicate}
use Rattle.cluster.specs.Config.{up_to}
use Rattle.cluster.specs.Ranges.{within, most_servers, top_writer, top_client, key_size, packet_room, content_room}
use Rattle.cluster.specs.Refusals.{refuse, first_of, on_refusal}
use Rattle.protocol.specs.declared.Answer.{Answer}
use Rattle.format.specs.Format.{print4}
use Rattle.protocol.specs.Primitives.{real}
use Rattle.protocol.specs.Rules.{upd}
use Rattle.protocol.specs.Client.{Result, refused, more, accepted, make_refusal_def}
use Rattle.protocol.specs.View.{kept_size}
use Rattle.protocol.specs.ClientBytes.{told, awaited}
use Rattle.server.specs.Blank.{blank_latest_def}
use Rattle.runs.specs.Runs.{Shelf, Lent, config_of, Machines, Done, write, read, make, take-reply, give-up, serve, do_bytes, now_bytes}
use Rattle.drill.specs.Reads.{verb_number}
use Rattle.drill.specs.declared.verbs.Verb.TheVariants as verbs
use Rattle.drill.specs.declared.sheet.Line.{Line}
use Rattle.drill.specs.declared.shown.Shown.{Shown}

-- ---- keys and nonces

-- the writers' key is 32 bytes FFh, server i's key 32 bytes of i
unfoldable pub drill_shelf : ℕ → Shelf
drill_shelf t = record { t = t; writers = replicate key_size 255; keys = map (λ i. replicate key_size i) (up_to most_servers) }

-- clients 9 to 16 hold no keys: they are lent zeros
unfoldable pub lent_to : Shelf → ℕ → Lent
lent_to s client =
    cond (within 1 top_writer client) (record { writers = s.writers; keys = s.keys })
    (record { writers = replicate key_size 0; keys = replicate most_servers (replicate key_size 0) })

-- k as a 32-byte number
unfoldable pub nonce_for_def : ℕ → List ℕ
nonce_for_def k = replicate 28 0 ++ print4 k

-- ---- the state: what every party holds, and how many writes have begun

pub record State : Type 0 where
  pub machines : Machines
  pub begun : ℕ

pub record Stepped : Type 0 where
  pub state : State
  pub result : Result

-- no client has begun a call, the bytes that clients keep things in are 00h, and every server is blank
unfoldable pub start : Shelf → State
start s = record { machines = now_bytes real s (λ c. replicate kept_size 0) []; begun = 0 }

-- ---- one line's step. The buffers lent hold 00h

module _ (s : Shelf) (w : Machines) where
  -- a refused begin uses no nonce
  unfoldable pub write_line : ℕ → ℕ → ℕ → ℕ → Stepped
  write_line k client n fill =
      let d = do_bytes real s w (write client (replicate n fill) (nonce_for_def (suc k))) in
      record { state = record { machines = d.machines; begun = cond (accepted d.result) (suc k) k }; result = d.result }

  -- what refuses the packet refuses the visit, before anything acts
  unfoldable pub visit_refusal_def : ℕ → ℕ → ℕ
  visit_refusal_def client server = make_refusal_def (config_of s) client server (awaited (w.client client).call) packet_room

  -- the current packet to the server, and its reply back; the server has acted even if the client refuses
  unfoldable pub visited : ℕ → ℕ → Done
  visited client server =
      let a = do_bytes real s w (make client server (replicate packet_room 0)) in
      let b = do_bytes real s a.machines (serve server a.sent (replicate packet_room 0)) in
      do_bytes real s b.machines (take-reply client (lent_to s client) b.sent (replicate content_room 0))

  -- nothing changes
  abbrev pub staying : Result → Done
  staying r = record { machines = w; result = r; sent = [] }

  unfoldable pub visit_line_def : ℕ → ℕ → Done
  visit_line_def client server =
      let n = visit_refusal_def client server in
      on_refusal n (visited client server) (staying (refused n))

  -- the server's latest becomes blank, and its history stays
  unfoldable pub blank_line_def : ℕ → Done
  blank_line_def server =
      let n = first_of (refuse 4 (not (within 1 (config_of s).servers server)) ∷ []) in
      on_refusal n
      (record {
        machines = record { client = w.client; memory = upd w.memory server (blank_latest_def (w.memory server)).memory };
        result = more;
        sent = [];
      })
      (staying (refused n))

  -- as many writes have begun
  abbrev pub after : ℕ → Done → Stepped
  after k d = record { state = record { machines = d.machines; begun = k }; result = d.result }

  unfoldable pub step_of : ℕ → Line → Stepped
  step_of k l =
      cond (eqb l.verb (verb_number verbs.Write)) (write_line k l.client l.length l.fill)
      (cond (eqb l.verb (verb_number verbs.Read)) (after k (do_bytes real s w (read l.client)))
      (cond (eqb l.verb (verb_number verbs.Visit)) (after k (visit_line_def l.client l.server))
      (cond (eqb l.verb (verb_number verbs.Unlatest)) (after k (blank_line_def l.server))
      (after k (do_bytes real s w (give-up l.client))))))

-- ---- what is shown

-- of an answer with its content: the result, the number of the stamp, length and first byte; 0 where there is none
unfoldable pub shown_as : Answer → List ℕ → Shown
shown_as a content = record { result = a.result; stamp = a.number; length = length content; first = get_or content 0 0 }

unfoldable pub shown : Result → Shown
shown r = shown_as (told r).answer (told r).content

-- the client's round, 0 where no client from 1 to 16 is named
unfoldable pub round_shown : Machines → ℕ → ℕ
round_shown w client = cond (within 1 top_client client) (w.client client).call.tally.round 0

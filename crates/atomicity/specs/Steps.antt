-- What a step gets, makes, checks, digests and shows (document 01, "What the contracts owe", 5). All of it is read off an account of runs:
-- the step, its result, the bytes sent, and the clients and servers before and after it.
use Rattle.std.specs.Prelude.{Bool, true, cond, not, ◌&&◌, ℕ, ltb, eqb}
use mathlib.Core.List.{List, [], ◌∷◌, ◌++◌, map, flat_map}
use Rattle.std.proofs.Math.Option.{Option, none, some}
use Rattle.cluster.specs.Config.{Config, up_to}
use Rattle.protocol.specs.declared.Stamp.{Stamp}
use Rattle.protocol.specs.Values.{Candidate, Held, blank_stamp, blank_candidate, below}
use Rattle.protocol.specs.Packet.{Body, Packet, kind_of, decode, clock, clock_reply, store, store_reply, complete, complete_reply}
use Rattle.protocol.specs.Packet.{collect, collect_reply, filter, filter_reply, repair, repair_reply}
use Rattle.protocol.specs.Primitives.{Primitives, stamp_message_def, candidate_message}
use Rattle.protocol.specs.Rules.{ByServer, upd, choice, leader, parts}
use Rattle.protocol.specs.Server.{Server, by_history_def, by_tag, best}
use Rattle.protocol.specs.Client.{Client, Hand, checks, is_full_def, stamp_in, held_in_def, accepted}
use Rattle.protocol.specs.Client.{idle, clocking, storing, completing, collecting, filtering, repairing}
use Rattle.runs.specs.Runs.{Step, Typed, Account, on_taken}
-- passed on to those who import the steps
pub use Rattle.runs.specs.Runs.{bytes_in, makes, serves}

-- the functions, the shelf's numbers, the writers' key and the servers' keys
pub record System : Type 0 where
  pub P : Primitives
  pub config : Config
  pub writers : List ℕ
  pub keys : ByServer (List ℕ)

-- a step of the system's runs
abbrev pub StepIn : System → Type 0
StepIn s = Typed s.config s.writers s.keys

-- ---- the packet that a step takes

abbrev pub packet_in : Step → Option Packet
packet_in x = decode (bytes_in x)

-- of the packet that was read, if there is one
abbrev pub of_packet : {A : Type 0} → (Packet → List A) → Option Packet → List A
of_packet f none = []
of_packet f (some p) = f p

abbrev pub is_complete : Body → Bool
is_complete x = eqb (kind_of x) 5

-- the candidates that a packet offers to its server
abbrev pub offered : Body → List Candidate
offered clock = []
offered (clock_reply a) = []
offered (store w) = []
offered (store_reply n) = []
offered (complete c) = c ∷ []
offered complete_reply = []
offered collect = []
offered (collect_reply c) = []
offered (filter cs) = cs
offered (filter_reply h) = []
offered (repair c) = c ∷ []
offered repair_reply = []

-- those that it judges: complete's is taken as it is
abbrev pub tested : Body → List Candidate
tested x = cond (is_complete x) [] (offered x)

-- a candidate, unless it is blank
abbrev pub nonblank : Candidate → List Candidate
nonblank c = cond (below blank_stamp c.stamp) (c ∷ []) []

-- ---- a write that gets its stamp: at the reply that ends clock the hand was clocking and is storing

pub record Stamped : Type 0 where
  pub client : ℕ
  pub content : List ℕ
  pub nonce : List ℕ
  pub stamp : Stamp

unfoldable pub stamped_from : ℕ → Hand → Hand → List Stamped
stamped_from c idle h = []
stamped_from c (clocking r n k) idle = []
stamped_from c (clocking r n k) (clocking r' n' k') = []
stamped_from c (clocking r n k) (storing d h) = record { client = c; content = r; nonce = n; stamp = d.stamp } ∷ []
stamped_from c (clocking r n k) (completing d) = []
stamped_from c (clocking r n k) (collecting g) = []
stamped_from c (clocking r n k) (filtering cs g) = []
stamped_from c (clocking r n k) (repairing d r') = []
stamped_from c (storing d h) h' = []
stamped_from c (completing d) h = []
stamped_from c (collecting g) h = []
stamped_from c (filtering cs g) h = []
stamped_from c (repairing d r) h = []

-- by the clients before and after the step
unfoldable pub stamped_by : (ℕ → Client) → (ℕ → Client) → Step → List Stamped
stamped_by was is = on_taken (λ c p. stamped_from c (was c).hand (is c).hand) (λ b p. [])

module _ (s : System) where
  -- (key, bytes) of the tags that are made with a stamp, and the inputs that are digested with it
  unfoldable pub tags_with : Stamped → List (List ℕ × List ℕ)
  tags_with m =
      (s.writers, stamp_message_def m.stamp.number m.stamp.writer)
      ∷ map (λ i. (s.keys i, candidate_message m.stamp (s.P.digest m.nonce))) (up_to s.config.servers)

  unfoldable pub digests_with : Stamped → List (List ℕ)
  digests_with m = m.nonce ∷ map (λ i. s.P.fragment s.config.points s.config.threshold m.content i) (up_to s.config.servers)

  -- the candidate on which server b's answer to a filter or a repair rests: the highest valid one, if there is one. The definition judges every
  -- candidate of a filter, the code those that are not lower: it is asked of this one alone
  unfoldable pub judged : ℕ → Server → Body → List Candidate
  judged b v x = nonblank (best s.P s.config (s.keys b) b v (blank_candidate s.config) (tested x))

  -- (key, bytes) of the tags that check: of a candidate that the server's history does not vouch for
  unfoldable pub server_checks : ℕ → Server → Candidate → List (List ℕ × List ℕ)
  server_checks b v c =
      cond (not (by_history_def s.P s.config (s.keys b) b v c) && by_tag s.P s.config (s.keys b) b c)
      ((s.keys b, candidate_message c.stamp (s.P.digest c.nonce)) ∷ []) []

  -- and of the stamp in a reply x to clock that is above the highest number so far: no other is looked at
  unfoldable pub client_checks : Hand → Body → List (List ℕ × List ℕ)
  client_checks idle x = []
  client_checks (clocking r n h) x =
      let a = stamp_in x in
      cond (ltb h a.number && checks s.P s.writers a) ((s.writers, stamp_message_def a.number a.writer) ∷ []) []
  client_checks (storing d h) x = []
  client_checks (completing d) x = []
  client_checks (collecting g) x = []
  client_checks (filtering cs g) x = []
  client_checks (repairing d r) x = []

  -- by the clients and servers before the step
  unfoldable pub checked_by : (ℕ → Client) → (ℕ → Server) → Step → List (List ℕ × List ℕ)
  checked_by w v =
      on_taken (λ c p. of_packet (λ q. client_checks (w c).hand q.body) (decode p))
      (λ b p. of_packet (λ q. flat_map (server_checks b (v b)) (judged b (v b) q.body)) (decode p))

  -- the fragments that prove the candidate chosen: those of the leader's group. More are digested: it is asked of these alone
  unfoldable pub proving : ByServer Bool → ByServer Held → Option Candidate → List (List ℕ)
  proving m g none = []
  proving m g (some d) =
      map (λ p. p.bytes) (parts s.P s.config m g d (leader s.P s.config m g d s.config.servers) s.config.servers)

  -- by the client before the step; they are looked at once the round is full
  unfoldable pub compared : Client → Hand → Packet → List (List ℕ)
  compared cl idle p = []
  compared cl (clocking r n k) p = []
  compared cl (storing d h) p = []
  compared cl (completing d) p = []
  compared cl (collecting g) p = []
  compared cl (filtering cs g) p =
      let m = upd cl.marks p.head.server true in
      let g' = upd g p.head.server (held_in_def p.body) in
      cond (is_full_def s.config m) (proving m g' (choice s.P s.config m g' cs)) []
  compared cl (repairing d r) p = []

  -- with the stamps that the step makes
  unfoldable pub digested_by : (ℕ → Client) → (ℕ → Server) → List Stamped → Step → List (List ℕ)
  digested_by w v ms =
      on_taken (λ c p. flat_map digests_with ms ++ of_packet (compared (w c) (w c).hand) (decode p))
      (λ b p. map (λ c. c.nonce) (of_packet (λ q. judged b (v b) q.body) (decode p)))

  unfoldable pub nonces_by : Step → List (List ℕ)
  nonces_by = on_taken (λ c p. []) (λ b p. map (λ c. c.nonce) (of_packet (λ q. offered q.body) (decode p)))

  -- ---- of a step x after the steps xs, by an account. A refused step checks, digests and shows nothing: the premises then ask less
  module _ (A : Account (StepIn s)) where
    abbrev pub ok : StepIn s → List (StepIn s) → Bool
    ok x xs = accepted (A.result x xs)

    abbrev pub stamped_at : StepIn s → List (StepIn s) → List Stamped
    stamped_at x xs = stamped_by (A.client xs) (A.client (x ∷ xs)) x.step

    abbrev pub tags_made : StepIn s → List (StepIn s) → List (List ℕ × List ℕ)
    tags_made x xs = flat_map tags_with (stamped_at x xs)

    abbrev pub tags_checked : StepIn s → List (StepIn s) → List (List ℕ × List ℕ)
    tags_checked x xs = cond (ok x xs) (checked_by (A.client xs) (A.server xs) x.step) []

    abbrev pub digested : StepIn s → List (StepIn s) → List (List ℕ)
    digested x xs = cond (ok x xs) (digested_by (A.client xs) (A.server xs) (stamped_at x xs) x.step) []

    unfoldable pub all_digested : List (StepIn s) → List (List ℕ)
    all_digested [] = []
    all_digested (x ∷ xs) = digested x xs ++ all_digested xs

    -- the nonces that a server's step gets
    abbrev pub nonces_got : StepIn s → List (StepIn s) → List (List ℕ)
    nonces_got x xs = cond (ok x xs) (nonces_by x.step) []

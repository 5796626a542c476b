-- The packets of a call, read off an account of a run: the rounds that a client's last call has gone through, and how many requests and replies of
-- each round there were. A request is told by its kind and its server, and so is a reply; made again, it is counted once.
use Rattle.std.specs.Prelude.{◌≡◌, Bool, true, false, cond, ◌&&◌, ◌||◌, List, [], ◌∷◌, ◌++◌, ℕ, suc, ◌+◌, ◌≤◌, eqb}
use Rattle.std.proofs.Math.Option.{Option, none, some}
use Rattle.protocol.specs.Packet.{Packet, kind_of, decode}
use Rattle.protocol.specs.Rules.{count_to}
use Rattle.protocol.specs.Client.{awaits}
use Rattle.runs.specs.Runs.{Account}
use Rattle.atomicity.specs.Lists.{In}
use Rattle.atomicity.specs.Steps.{StepIn, System, makes, serves}

-- ---- rounds, by the kinds that they await

-- the rounds of a call after a step: a new call's is its first; one that is new to the same call comes after the others. 0 is no round
abbrev pub with_round : Bool → ℕ → ℕ → List ℕ → List ℕ
with_round same was is rounds = cond same (cond (eqb is 0 || eqb was is) rounds (rounds ++ (is ∷ []))) (is ∷ [])

module _ (s : System) (A : Account (StepIn s)) where
  -- the rounds of client c's last call, oldest first
  unfoldable pub went_through : ℕ → List (StepIn s) → List ℕ
  went_through c [] = []
  went_through c (x ∷ xs) =
      with_round (eqb (A.client xs c).calls (A.client (x ∷ xs) c).calls) (awaits (A.client xs c).hand) (awaits (A.client (x ∷ xs) c).hand)
      (went_through c xs)

-- ---- servers counted over rounds

-- how many of the servers 1 to n do p, in these rounds
abbrev pub over_rounds : ℕ → (ℕ → ℕ → Bool) → List ℕ → ℕ
over_rounds n p [] = 0
over_rounds n p (k ∷ ks) = count_to n (p k) + over_rounds n p ks

-- all of them do, in each of these rounds
abbrev pub EachRound : ℕ → (ℕ → ℕ → Bool) → List ℕ → Type 0
EachRound n p ks = (k : ℕ) → In k ks → (b : ℕ) → 1 ≤ b → b ≤ n → p k b ≡ true

-- ---- requests

-- a packet is the request to server b in the round that awaits k
abbrev pub is_ask : ℕ → ℕ → Option Packet → Bool
is_ask k b none = false
is_ask k b (some p) = eqb (suc (kind_of p.body)) k && eqb p.head.server b

module _ (s : System) (A : Account (StepIn s)) where
  -- with the step x, after xs, client c makes it
  abbrev pub asks : ℕ → ℕ → ℕ → StepIn s → List (StepIn s) → Bool
  asks c k b x xs = makes c x.step && is_ask k b (decode (A.sent x xs))

  -- it has done so in its last call
  unfoldable pub asked : ℕ → List (StepIn s) → ℕ → ℕ → Bool
  asked c [] k b = false
  asked c (x ∷ xs) k b = eqb (A.client xs c).calls (A.client (x ∷ xs) c).calls && (asks c k b x xs || asked c xs k b)

  -- how many requests it has made, in all rounds of the call
  abbrev pub requests : ℕ → List (StepIn s) → ℕ
  requests c l = over_rounds s.config.servers (asked c l) (went_through s A c l)

  -- each round went to all servers
  abbrev pub EachAsked : ℕ → List (StepIn s) → Type 0
  EachAsked c l = EachRound s.config.servers (asked c l) (went_through s A c l)

-- ---- replies

-- a packet is server b's reply of kind k in client c's call n
abbrev pub is_reply : ℕ → ℕ → ℕ → ℕ → Option Packet → Bool
is_reply c n k b none = false
is_reply c n k b (some r) = (eqb (kind_of r.body) k && eqb r.head.server b) && (eqb r.head.client c && eqb r.head.call n)

module _ (s : System) (A : Account (StepIn s)) where
  -- with the step x, after xs, server b sends it
  abbrev pub replies_by : ℕ → ℕ → ℕ → StepIn s → List (StepIn s) → Bool
  replies_by c k b x xs = serves b x.step && is_reply c (A.client xs c).calls k b (decode (A.sent x xs))

  -- it has done so in client c's last call
  unfoldable pub had_reply : ℕ → List (StepIn s) → ℕ → ℕ → Bool
  had_reply c [] k b = false
  had_reply c (x ∷ xs) k b = eqb (A.client xs c).calls (A.client (x ∷ xs) c).calls && (replies_by c k b x xs || had_reply c xs k b)

  -- how many replies it has had, in all rounds of the call
  abbrev pub replies_had : ℕ → List (StepIn s) → ℕ
  replies_had c l = over_rounds s.config.servers (had_reply c l) (went_through s A c l)

  -- in each round all servers replied
  abbrev pub EachReplied : ℕ → List (StepIn s) → Type 0
  EachReplied c l = EachRound s.config.servers (had_reply c l) (went_through s A c l)

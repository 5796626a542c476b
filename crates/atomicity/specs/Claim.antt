-- Demand 3: "the shelf answers as one honest box, for every list of steps, refused ones too".
-- The calls are read off the list of steps and results; one order of them replays on one server; and no call waits for ever.
use Rattle.std.specs.Prelude.{◌≡◌, Bool, true, false, cond, not, ◌&&◌, ◌||◌, List, [], ◌∷◌, ◌⊎◌, ℕ, suc, ◌≤◌, ltb, eqb, length}
use Rattle.std.proofs.Math.Option.{Option, none, some}
use Rattle.cluster.specs.Config.{Config, quorum}
use Rattle.cluster.specs.Ranges.{top_faults, capacity}
use Rattle.protocol.specs.Values.{is_some}
use Rattle.protocol.specs.Packet.{Packet, kind_of, decode}
use Rattle.protocol.specs.Primitives.{real}
use Rattle.protocol.specs.Rules.{ByServer, keep}
use Rattle.protocol.specs.Client.{Hand, Result, refused, more, written, gave, gave_blank, aborted, awaits, is_idle, in_complete, is_reading, accepted}
use Rattle.protocol.specs.View.{kept_size}
use Rattle.protocol.specs.ClientBytes.{key_of}
use Rattle.runs.specs.Runs.{Shelf, config_of, Lent, Step, write, read, make, take-reply, give-up, serve, Typed, Account, by_bytes_def}
use Rattle.atomicity.specs.Lists.{Ever, Always, All, AllPairs, Perm}
use Rattle.atomicity.specs.Steps.{System, StepIn, serves}
use Rattle.atomicity.specs.Premises.{Correct, Parties, correct_at, Sent, Premise}

-- ---- calls

-- begun, reached, over: how many steps were done when the call began, when its complete round began, and when it ended, finished
pub record Logged : Type 0 where
  pub client : ℕ
  pub number : ℕ
  -- the content of a write; none for a read
  pub wrote : Option (List ℕ)
  pub begun : ℕ
  pub reached : Option ℕ
  pub over : Option ℕ
  -- the content that a read gave; none for blank
  pub answer : Option (List ℕ)
  pub gave_up : Bool

-- f of the call of client c with this number
unfoldable pub change : ℕ → ℕ → (Logged → Logged) → List Logged → List Logged
change c n f [] = []
change c n f (x ∷ xs) = cond (eqb x.client c && eqb x.number n) (f x) x ∷ change c n f xs

-- that moment, or n if there is none and it is now
abbrev pub earliest : Option ℕ → Bool → ℕ → Option ℕ
earliest none false n = none
earliest none true n = some n
earliest (some k) b n = some k

-- x with its complete round begun at r, over at o, with answer a, and given up if g
abbrev pub become : Option ℕ → Option ℕ → Option (List ℕ) → Bool → Logged → Logged
become r o a g x =
    record { client = x.client; number = x.number; wrote = x.wrote; begun = x.begun; reached = r; over = o; answer = a; gave_up = g }

abbrev pub reach : Bool → ℕ → Logged → Logged
reach b n x = become (earliest x.reached b n) x.over x.answer x.gave_up x

abbrev pub close : ℕ → Option (List ℕ) → Logged → Logged
close n a x = become x.reached (some n) a x.gave_up x

abbrev pub leave : Logged → Logged
leave x = become x.reached x.over x.answer true x

-- what a step's result does to its client's call: complete tells that the hand is in the complete round, n is how many steps were done
abbrev pub follow : Result → Bool → ℕ → Logged → Logged
follow (refused k) complete n x = x
follow more complete n x = reach complete n x
follow (written k) complete n x = close n none x
follow (gave k r) complete n x = close n (some r) x
follow gave_blank complete n x = close n none x
follow (aborted b) complete n x = leave x

module _ {s : Config} {writers : List ℕ} {keys : ByServer (List ℕ)} (A : Account (Typed s writers keys)) where
  -- "A call begins when accepted and ends, finished, at the reply that gives its result"
  abbrev pub enter : Typed s writers keys → List (Typed s writers keys) → ℕ → Option (List ℕ) → List Logged → List Logged
  enter x xs c w cs =
      let k = suc (A.client xs c).calls in
      cond (accepted (A.result x xs))
      (record { client = c; number = k; wrote = w; begun = length xs; reached = none; over = none; answer = none; gave_up = false } ∷ cs) cs

  abbrev pub touch : Typed s writers keys → List (Typed s writers keys) → ℕ → List Logged → List Logged
  touch x xs c cs = change c (A.client xs c).calls (follow (A.result x xs) (in_complete (A.client (x ∷ xs) c).hand) (length xs)) cs

  unfoldable pub note : Typed s writers keys → List (Typed s writers keys) → List Logged → Step → List Logged
  note x xs cs (write c r n) = enter x xs c (some r) cs
  note x xs cs (read c) = enter x xs c none cs
  note x xs cs (make c b o) = cs
  note x xs cs (take-reply c lent p o) = touch x xs c cs
  note x xs cs (give-up c) = touch x xs c cs
  note x xs cs (serve b p o) = cs

  unfoldable pub log : List (Typed s writers keys) → List Logged
  log [] = []
  log (x ∷ xs) = note x xs (log xs) x.step

-- ---- the one order

-- a ended before b began
abbrev pub ended_by : Option ℕ → ℕ → Bool
ended_by none n = false
ended_by (some e) n = ltb e n

unfoldable pub before : Logged → Logged → Bool
before a b = ended_by a.over b.begun

-- "the right clients' finished calls, with some unfinished writes": those whose complete round began
unfoldable pub counted : Logged → Bool
counted c = is_some c.over || (is_some c.wrote && is_some c.reached)

abbrev pub holds : Option (List ℕ) → Option (List ℕ) → Option (List ℕ)
holds m none = m
holds m (some r) = some r

-- "it holds blank, then the last write's record, and each read gives what it holds, blank or the same length and bytes"
unfoldable pub Replay : Option (List ℕ) → List Logged → Type 0
Replay m [] = Unit {0}
Replay m (c ∷ cs) = (c.wrote ≡ none → c.answer ≡ m) × Replay (holds m c.wrote) cs

-- whoever stands ahead of a call did not begin after it had ended
abbrev pub InTime : List Logged → Type 0
InTime order = AllPairs (λ a b. before b a ≡ false) order

-- "have one order: a call that ended before another began stands ahead of it, and each read gives the last write before it, or blank if none".
-- The order is oldest first; lists of steps and the log are newest first
pub record OneOrder (cs : List Logged) : Type 0 where
  pub order : List Logged
  pub exact : Perm order (keep counted cs)
  pub time : InTime order
  pub legal : Replay none order

-- ---- progress

unfoldable pub begun_writes : List Logged → ℕ
begun_writes cs = length (keep (λ c. is_some c.wrote) cs)

-- "A reply refused with 15 hasn't come in"
abbrev pub came_in : Result → Bool
came_in (refused n) = not (eqb n 15)
came_in more = true
came_in (written n) = true
came_in (gave n r) = true
came_in gave_blank = true
came_in (aborted b) = true

-- a read is in hand; or "at most 32 writes have begun". The text asks the second of reads too
abbrev pub Room : List Logged → Hand → Type 0
Room cs h = (is_reading h ≡ true) ⊎ (begun_writes cs ≤ capacity)

module _ (s : System) (A : Account (StepIn s)) where
  -- with this step server b's reply to the round of client c's call n that awaits kind k comes in
  pub record Arrives (c n k b : ℕ) (x : StepIn s) (xs : List (StepIn s)) : Type 0 where
    pub lent : Lent
    pub reply : List ℕ
    pub output : List ℕ
    pub packet : Packet
    pub step : x.step ≡ take-reply c lent reply output
    pub came : came_in (A.result x xs) ≡ true
    pub decoded : decode reply ≡ some packet
    pub client : packet.head.client ≡ c
    pub server : packet.head.server ≡ b
    pub call : packet.head.call ≡ n
    pub kind : kind_of packet.body ≡ k
    pub sent : Sent s A (serves b) reply xs

  unfoldable pub CameTo : List (StepIn s) → ℕ → ℕ → ℕ → ℕ → Type 0
  CameTo l c n k b = Ever (Arrives c n k b) l

module _ (s : System) (A : Account (StepIn s)) (correct : Correct) where
  -- S - t correct servers' replies to the round of call n of client c that awaits kind k have come in
  abbrev pub Answered : List (StepIn s) → ℕ → ℕ → ℕ → Type 0
  Answered l c n k =
      (bs : List ℕ) × AllPairs (λ a b. eqb a b ≡ false) bs × All (λ b. (correct_at s A correct l b ≡ true) × CameTo s A l c n k b) bs
      × (quorum s.config ≤ length bs)

  -- ".. has ended once 2t+1 honest boxes' replies to each of its rounds have come in": while a call is in hand, its round is not answered
  unfoldable pub Progress : List (StepIn s) → Type 0
  Progress l =
      (c : ℕ) → correct.client c ≡ true → is_idle (A.client l c).hand ≡ false → Room (log A l) (A.client l c).hand
      → Answered l c (A.client l c).calls (awaits (A.client l c).hand) → ⊥

-- ---- the claim, of an account of runs

-- for every list of steps that meets the premises
abbrev pub EveryRun : (s : System) → Account (StepIn s) → (Correct → List (StepIn s) → Type 0) → Type 0
EveryRun s A P = (correct : Correct) → Parties s.config correct → (l : List (StepIn s)) → Always (Premise s A correct) l → P correct l

unfoldable pub OneServer : (s : System) → Account (StepIn s) → Type 0
OneServer s A = EveryRun s A (λ correct l. OneOrder (log A l) × Progress s A correct l)

-- the real digest, tag and fragments, on a shelf of document 01
abbrev pub system_of_def : Shelf → System
system_of_def s = record { P = real; config = config_of s; writers = s.writers; keys = key_of s.keys }

-- of the operations on bytes, on every shelf. A new client's kept bytes may be any
abbrev pub OnBytes : ((s : System) → Account (StepIn s) → Type 0) → Type 0
OnBytes P =
    (s : Shelf) → 1 ≤ s.t → s.t ≤ top_faults → (first : ℕ → List ℕ) → ((c : ℕ) → length (first c) ≡ kept_size)
    → P (system_of_def s) (by_bytes_def real s first)

-- demand 3
unfoldable pub Demand3 : Type 0
Demand3 = OnBytes OneServer

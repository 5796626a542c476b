-- The claim in the user's words.
use Rattle.std.specs.Prelude.{◌≡◌, Bool, true, false, cond, ◌&&◌, List, [], ◌∷◌, ℕ, suc, ◌+◌, ◌≤◌, ◌<◌, ltb, eqb}
use Rattle.std.proofs.Math.Option.{Option, none, some}
use Rattle.cluster.specs.Ranges.{capacity}
use Rattle.protocol.specs.Values.{is_some}
use Rattle.protocol.specs.Client.{awaits}
use Rattle.runs.specs.Runs.{Account}
use Rattle.atomicity.specs.Lists.{Once, In}
use Rattle.atomicity.specs.Steps.{System, StepIn}
use Rattle.atomicity.specs.Premises.{Correct}
use Rattle.atomicity.specs.Claim.{Logged, log, before, holds, OneOrder, begun_writes, Answered, EveryRun, OnBytes}

-- a call in an order, with its version: the number of writes up to it, and the content of the last of them, none for blank
pub record Version : Type 0 where
  pub call : Logged
  pub number : ℕ
  pub content : Option (List ℕ)

unfoldable pub versions : ℕ → Option (List ℕ) → List Logged → List Version
versions n m [] = []
versions n m (c ∷ cs) =
    let k = n + cond (is_some c.wrote) 1 0 in
    record { call = c; number = k; content = holds m c.wrote } ∷ versions k (holds m c.wrote) cs

-- page 41, "once one scope has shown a saved record, no scope later shows an older one", of calls that begin later: in the order each read gives
-- the content of its version, and once a call has ended, no call that begins later has an older version
unfoldable pub NeverOlder : List Logged → Type 0
NeverOlder order =
    (r : Version) → In r (versions 0 none order)
    → (r.call.wrote ≡ none → r.call.answer ≡ r.content)
    × ((a : Version) → In a (versions 0 none order) → before a.call r.call ≡ true → a.number ≤ r.number)

-- a and b are writes of one client, and a began first
unfoldable pub earlier_own : Logged → Logged → Bool
earlier_own a b = eqb a.client b.client && (is_some a.wrote && (is_some b.wrote && ltb a.begun b.begun))

-- a write that was given up, or that waits, is settled by a later write of the same client: once that one has ended, every call that begins
-- afterwards has a newer version than the earlier write's
unfoldable pub Superseded : List Logged → Type 0
Superseded order =
    (a b r : Version) → In a (versions 0 none order) → In b (versions 0 none order) → In r (versions 0 none order)
    → earlier_own a.call b.call ≡ true → before b.call r.call ≡ true → a.number < r.number

-- "If a write is given up before its complete round, that record is never read": whatever content a read gave was written by a write ahead of it in
-- the order, whose complete round had begun by then. ahead: those passed so far
unfoldable pub Sourced : List Logged → List Logged → Type 0
Sourced ahead [] = Unit {0}
Sourced ahead (c ∷ cs) =
    ((v : List ℕ) → c.wrote ≡ none → c.answer ≡ some v
    → (w : Logged) × In w ahead × (w.wrote ≡ some v) × ((n : ℕ) × (e : ℕ) × (w.reached ≡ some n) × (c.over ≡ some e) × (n ≤ e)))
    × Sourced (c ∷ ahead) cs

module _ (s : System) (A : Account (StepIn s)) (correct : Correct) where
  -- "A right client's call that isn't given up has ended once 2t+1 honest boxes' replies to each of its rounds have come in, while at most 32
  -- writes have begun"
  unfoldable pub Ended : List (StepIn s) → Type 0
  Ended l =
      (a : Logged) → In a (log A l) → correct.client a.client ≡ true → a.gave_up ≡ false → begun_writes (log A l) ≤ capacity
      → ((k : ℕ) → Once (λ xs. ((A.client xs a.client).calls ≡ a.number) × (awaits (A.client xs a.client).hand ≡ suc k)) l
      → Answered s A correct l a.client a.number (suc k))
      → is_some a.over ≡ true

  -- page 41, of the calls of a run: they have one order, and in it nothing older is given, nothing is read that was not written, a client's later
  -- write settles its earlier ones, and calls end
  pub record Page41Of (l : List (StepIn s)) : Type 0 where
    pub one : OneOrder (log A l)
    pub older : NeverOlder one.order
    pub sourced : Sourced [] one.order
    pub superseded : Superseded one.order
    pub ended : Ended l

unfoldable pub Page41 : Type 0
Page41 = OnBytes (λ s A. EveryRun s A (Page41Of s A))

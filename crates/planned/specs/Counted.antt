-- "Each must equal .." (document 02, W-201): "the requests and replies of a write and of so many reads with and without repair when each round goes to
-- all S boxes". The calls are those of a run that finished; atomicity's Traffic counts their packets.
use Rattle.std.specs.Prelude.{◌≡◌, Bool, true, false, not, List, [], ◌∷◌, ◌++◌, ℕ, ◌+◌, eqb, length, get_or}
use Rattle.protocol.specs.Client.{Result, refused, more, written, gave, gave_blank, aborted, awaits}
use Rattle.runs.specs.Runs.{Lent, take-reply, Account}
use Rattle.atomicity.specs.Steps.{System, StepIn}
use Rattle.atomicity.specs.Traffic.{requests, EachAsked, replies_had, EachReplied}
use Rattle.planner.specs.Plan.{plan_step}

-- ---- which call ends, by the result and the kind of the reply that gave it: a read was repaired if that is repair's, 12

abbrev pub ends_write : Result → ℕ → Bool
ends_write (written k) kind = true
ends_write (gave k r) kind = false
ends_write gave_blank kind = false
ends_write (refused n) kind = false
ends_write more kind = false
ends_write (aborted b) kind = false

abbrev pub ends_read : Result → ℕ → Bool
ends_read (gave k r) kind = not (eqb kind 12)
ends_read gave_blank kind = true
ends_read (written k) kind = false
ends_read (refused n) kind = false
ends_read more kind = false
ends_read (aborted b) kind = false

abbrev pub ends_repaired : Result → ℕ → Bool
ends_repaired (gave k r) kind = eqb kind 12
ends_repaired gave_blank kind = false
ends_repaired (written k) kind = false
ends_repaired (refused n) kind = false
ends_repaired more kind = false
ends_repaired (aborted b) kind = false

module _ (s : System) (A : Account (StepIn s)) where
  -- a call that ended with a step, after those before it; each of its rounds went to all servers, and by the end of the steps after it, while it was
  -- still its client's last call, all had replied in each
  pub record Finished (is : Result → ℕ → Bool) : Type 0 where
    pub client : ℕ
    pub step : StepIn s
    pub before : List (StepIn s)
    pub after : List (StepIn s)
    pub lent : Lent
    pub reply : List ℕ
    pub output : List ℕ
    pub takes : step.step ≡ take-reply client lent reply output
    pub ends : is (A.result step before) (awaits (A.client before client).hand) ≡ true
    pub last : (A.client (after ++ step ∷ before) client).calls ≡ (A.client (step ∷ before) client).calls
    pub asked : EachAsked s A client (step ∷ before)
    pub replied : EachReplied s A client (after ++ step ∷ before)

  module _ {is : Result → ℕ → Bool} where
    abbrev pub requests_of : Finished is → ℕ
    requests_of e = requests s A e.client (e.step ∷ e.before)

    abbrev pub replies_of : Finished is → ℕ
    replies_of e = replies_had s A e.client (e.after ++ e.step ∷ e.before)

    unfoldable pub total : (Finished is → ℕ) → List (Finished is) → ℕ
    total f [] = 0
    total f (e ∷ es) = f e + total f es

  -- so many calls of one sort together have the requests and the replies that stand at this place and behind it
  abbrev pub Together : (is : Result → ℕ → Bool) (n readers stores : ℕ) (calls place : ℕ) → Type 0
  Together is n readers stores calls place =
      (es : List (Finished is)) → length es ≡ calls
      → (total requests_of es ≡ get_or (plan_step s.config.t n readers stores).packets place 0)
      × (total replies_of es ≡ get_or (plan_step s.config.t n readers stores).packets (place + 1) 0)

  pub record CountsPlanned : Type 0 where
    pub write : (n readers stores : ℕ) → (plan_step s.config.t n readers stores).number ≡ 0 → Together ends_write n readers stores 1 0
    pub reads : (n readers stores : ℕ) → (plan_step s.config.t n readers stores).number ≡ 0 → Together ends_read n readers stores readers 2
    pub repaired : (n readers stores : ℕ) → (plan_step s.config.t n readers stores).number ≡ 0 → Together ends_repaired n readers stores readers 4
